-- What is made of two reductions with orders: the counts, the report, the coordinates. The kinds are 1, 2, 6 and free.
--     report-examples    the numbers, in document 01's order
use Rattle.std.specs.Prelude.{[], ◌∷◌, map, ◌≡◌, refl, ℕ, ℤ, pos, neg_ℤ}
use Rattle.integers.specs.Division.{floor, modulo, residue}
use Rattle.lists.specs.Tabulate.{tabulate}
use Rattle.matrices.specs.Sum.{sum}
use Rattle.matrices.specs.Vector.{apply}
use Rattle.reduction_steps.specs.State.{State}
use Rattle.reports.specs.Report.{reported, columns_of, torsion_count, halvings, bits_of, counts_of, report_list, coordinate_at, coordinate_list}

abbrev minus : ℕ → ℤ
minus n = neg_ℤ (pos n)

-- four rows of Q, three pivots; column 1 of G is (-12, 1, 0, 0); an entry has been 40 or -40
abbrev pub left : State
left =
    record {
      matrix =
          (pos 1 ∷ pos 0 ∷ pos 0 ∷ [])
          ∷ (pos 0 ∷ pos 2 ∷ pos 0 ∷ [])
          ∷ (pos 0 ∷ pos 0 ∷ pos 6 ∷ [])
          ∷ (pos 0 ∷ pos 0 ∷ pos 0 ∷ [])
          ∷ [];
      row_follower =
          (pos 1 ∷ pos 12 ∷ pos 0 ∷ pos 0 ∷ [])
          ∷ (pos 0 ∷ pos 1 ∷ pos 0 ∷ pos 0 ∷ [])
          ∷ (pos 0 ∷ pos 0 ∷ pos 1 ∷ pos 0 ∷ [])
          ∷ (pos 0 ∷ pos 0 ∷ pos 0 ∷ pos 1 ∷ [])
          ∷ [];
      row_inverse =
          (pos 1 ∷ pos 0 ∷ pos 0 ∷ pos 0 ∷ [])
          ∷ (minus 12 ∷ pos 1 ∷ pos 0 ∷ pos 0 ∷ [])
          ∷ (pos 0 ∷ pos 0 ∷ pos 1 ∷ pos 0 ∷ [])
          ∷ (pos 0 ∷ pos 0 ∷ pos 0 ∷ pos 1 ∷ [])
          ∷ [];
      column_follower = [] ∷ [] ∷ [] ∷ [];
      column_inverse = [] ∷ [] ∷ [] ∷ [];
      peak = 40;
    }

pub record ReportExamples : Type 0 where
  -- the numbers of bits: 1048575 is the entry limit, 2 to the power 20 less 1
  pub bits : map bits_of (0 ∷ 1 ∷ 2 ∷ 3 ∷ 4 ∷ 40 ∷ 63 ∷ 64 ∷ 1048575 ∷ 1048576 ∷ []) ≡ 0 ∷ 1 ∷ 2 ∷ 2 ∷ 3 ∷ 6 ∷ 6 ∷ 7 ∷ 20 ∷ 21 ∷ []
  -- b, t, the peak and its bits
  pub counts : counts_of 4 3 left ≡ record { free = 1; torsion = 2; peak = 40; bits = 6 }
  -- b, t, the orders, then the columns of G for the orders and the free one
  pub report : report_list 4 4 3 left
      ≡ pos 1 ∷ pos 2
      ∷ pos 2 ∷ pos 6
      ∷ minus 12 ∷ pos 1 ∷ pos 0 ∷ pos 0
      ∷ pos 0 ∷ pos 0 ∷ pos 1 ∷ pos 0
      ∷ pos 0 ∷ pos 0 ∷ pos 0 ∷ pos 1
      ∷ []
  -- -1 of order 2, -5 of order 6, and -9 in the free row
  pub coordinates : coordinate_list 4 4 left (pos 5 ∷ minus 1 ∷ minus 5 ∷ minus 9 ∷ []) ≡ pos 1 ∷ pos 1 ∷ minus 9 ∷ []
  -- 2 of order 2, 17 of order 6
  pub multiples : coordinate_list 4 4 left (pos 0 ∷ pos 2 ∷ pos 17 ∷ pos 0 ∷ []) ≡ pos 0 ∷ minus 1 ∷ pos 0 ∷ []
  -- half the order is kept, and minus half is raised to it
  pub halves : (coordinate_list 4 4 left (pos 0 ∷ pos 1 ∷ pos 3 ∷ pos 0 ∷ []) ≡ pos 1 ∷ pos 3 ∷ pos 0 ∷ [])
      × (coordinate_list 4 4 left (pos 0 ∷ minus 1 ∷ minus 3 ∷ pos 0 ∷ []) ≡ pos 1 ∷ pos 3 ∷ pos 0 ∷ [])

pub report-examples : ReportExamples
unfolding report_list coordinate_list coordinate_at torsion_count bits_of halvings columns_of reported
    apply sum floor modulo residue tabulate
report-examples = record { bits = refl; counts = refl; report = refl; coordinates = refl; multiples = refl; halves = (refl, refl) }
