-- What is made of two reductions with orders and the transform of the columns: the surface of a chain, and which chains bound nothing. The kinds are 1, 2, 6
-- and free.
--     surface-examples    the numbers, as document 02, Note 6, has them
use Rattle.std.specs.Prelude.{true, false, [], ◌∷◌, map, ◌≡◌, refl, ℕ, ℤ, pos, neg_ℤ}
use Rattle.integers.specs.Division.{floor, modulo, divides}
use Rattle.lists.specs.Tabulate.{tabulate}
use Rattle.matrices.specs.Sum.{sum}
use Rattle.matrices.specs.Vector.{apply}
use Rattle.sheet_format.specs.Check.{some}
use Rattle.reduction_steps.specs.State.{State}
use Rattle.reports.specs.ReportExamples.{left}
use Rattle.reports.specs.Surface.{bounds_nothing, surface_at, surface_list}

abbrev minus : ℕ → ℤ
minus n = neg_ℤ (pos n)

-- the end of the report's examples with the transform of the columns, whose columns are (1, 0, 0), (2, 1, 0) and (0, -1, 1), and its inverse, by rows
abbrev pub tracked : State
tracked =
    record {
      matrix = left.matrix;
      row_follower = left.row_follower;
      row_inverse = left.row_inverse;
      column_follower = (pos 1 ∷ pos 0 ∷ pos 0 ∷ []) ∷ (pos 2 ∷ pos 1 ∷ pos 0 ∷ []) ∷ (pos 0 ∷ minus 1 ∷ pos 1 ∷ []) ∷ [];
      column_inverse = (pos 1 ∷ minus 2 ∷ minus 2 ∷ []) ∷ (pos 0 ∷ pos 1 ∷ pos 1 ∷ []) ∷ (pos 0 ∷ pos 0 ∷ pos 1 ∷ []) ∷ [];
      peak = left.peak;
    }

pub record SurfaceExamples : Type 0 where
  -- the rows of Q times the chain are -43, -4, 18 and 0: -43 times the first column, -2 times the second, 3 times the third
  pub surface : surface_list 4 3 3 tracked (pos 5 ∷ minus 4 ∷ pos 18 ∷ pos 0 ∷ []) ≡ minus 47 ∷ minus 5 ∷ pos 3 ∷ []
  pub of_zeros : surface_list 4 3 3 tracked (pos 0 ∷ pos 0 ∷ pos 0 ∷ pos 0 ∷ []) ≡ pos 0 ∷ pos 0 ∷ pos 0 ∷ []
  -- each pivot divides its row, and the free row is 0
  pub bounds : map (bounds_nothing 4 4 tracked) (
      (pos 5 ∷ minus 4 ∷ pos 18 ∷ pos 0 ∷ [])
      ∷ (pos 1 ∷ pos 0 ∷ minus 6 ∷ pos 0 ∷ [])
      ∷ (pos 0 ∷ pos 0 ∷ pos 0 ∷ pos 0 ∷ [])
      ∷ []) ≡ false ∷ false ∷ false ∷ []
  -- 1 and -1 of order 2, 3 and -9 of order 6: the free row is 0 all the same
  pub indivisible : map (bounds_nothing 4 4 tracked) (
      (pos 0 ∷ pos 1 ∷ pos 0 ∷ pos 0 ∷ [])
      ∷ (pos 0 ∷ minus 1 ∷ pos 0 ∷ pos 0 ∷ [])
      ∷ (pos 0 ∷ pos 0 ∷ pos 3 ∷ pos 0 ∷ [])
      ∷ (pos 0 ∷ pos 0 ∷ minus 9 ∷ pos 0 ∷ [])
      ∷ []) ≡ true ∷ true ∷ true ∷ true ∷ []
  -- 1 and -6 in the free row: each pivot divides its row all the same
  pub free : map (bounds_nothing 4 4 tracked) (
      (pos 0 ∷ pos 0 ∷ pos 0 ∷ pos 1 ∷ [])
      ∷ (pos 0 ∷ pos 2 ∷ pos 6 ∷ minus 6 ∷ [])
      ∷ []) ≡ true ∷ true ∷ []

pub surface-examples : SurfaceExamples
unfolding surface_list surface_at bounds_nothing some apply sum floor modulo divides tabulate
surface-examples = record { surface = refl; of_zeros = refl; bounds = refl; indivisible = refl; free = refl }
