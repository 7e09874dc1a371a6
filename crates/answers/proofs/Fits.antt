-- Every number of a report (report-word) and of a coordinate list (coordinates-word) fits 64 bits, after two reductions within the entry limit.
use mathlib.Core.Path.{◌≡◌}
use mathlib.Core.Bool.{true}
use mathlib.Core.List.{List, [], ◌∷◌, ◌++◌, map}
use Prim.Native.Nat.{ℕ, zero, suc, ◌*◌, ◌≤◌, zero-le}
use native.Mathlib.Nat.{mul-le-mul, mul-le-mul_right, le_trans}
use native.Mathlib.Omega.{arith}
use lib.IntN.{ℤ, pos, negsuc, nat_abs, ◌*ℤ◌}
use lib.Signed.{◌≤ℤ◌}
use Rattle.integers.proofs.Order.{nat_abs_mul, lt-pos}
use Rattle.integers.specs.Division.{residue}
use Rattle.integers.proofs.Residue.{residue-zero, nat_abs-residue}
use Rattle.lists.specs.Tabulate.{tabulate}
use Rattle.matrices.proofs.SumLaws.{nat_abs-sum}
use Rattle.matrices.specs.Vector.{apply}
use Rattle.complexes.specs.Complex.{Sections, count}
use Rattle.reduction_steps.specs.Table.{Table, entry, table_within}
use Rattle.reduction_steps.specs.State.{State, within}
use Rattle.reduction_laws.specs.Tables.{table_within-iff}
use Rattle.reduction_laws.specs.Shape.{within-iff, within-entry}
use Rattle.reports.specs.Report.{kind, reported, columns_of, free_rank, torsion_count, report_list, coordinate_at, coordinate_list}
use Rattle.reports.proofs.ReportLaws.{length-reported-le}
use Rattle.limits.specs.Limits.{library_limit, entry_limit, coefficient_limit}
use Rattle.host_calls.proofs.BytesLaws.{Word}
use Rattle.integers.specs.Slot.{slot}
use Rattle.answers.proofs.TwoReductions.{Right}

-- ---- lists of small numbers

-- no number of the list is larger than the bound either way from zero
pub record Bounded (bound : ℕ) (l : List ℤ) : Type 0 where
  pub at : (i : ℕ) → nat_abs (slot l i) ≤ bound

module _ {bound : ℕ} where
  bounded-nil : Bounded bound []
  bounded-nil = record { at = λ i. zero-le }

  bounded-cons : (x : ℤ) (l : List ℤ) → nat_abs x ≤ bound → Bounded bound l → Bounded bound (x ∷ l)
  bounded-cons x l h k = record { at = go }
    where
      go : (i : ℕ) → nat_abs (slot (x ∷ l) i) ≤ bound
      go zero = h
      go (suc i) = k.at i

  bounded-append : (l m : List ℤ) → Bounded bound l → Bounded bound m → Bounded bound (l ++ m)
  bounded-append [] m h k = k
  bounded-append (x ∷ l) m h k = bounded-cons x (l ++ m) (h.at 0) (bounded-append l m (record { at = λ i. h.at (suc i) }) k)

  bounded-map : (f : ℕ → ℤ) → ((i : ℕ) → nat_abs (f i) ≤ bound) → (l : List ℕ) → Bounded bound (map f l)
  bounded-map f h [] = bounded-nil
  bounded-map f h (i ∷ l) = bounded-cons (f i) (map f l) (h i) (bounded-map f h l)

  pub bounded-tabulate : (n : ℕ) (f : ℕ → ℤ) → ((i : ℕ) → nat_abs (f i) ≤ bound) → Bounded bound (tabulate n f)
  unfolding tabulate
  bounded-tabulate zero f h = bounded-nil
  bounded-tabulate (suc n) f h = bounded-cons (f 0) (tabulate n (λ i. f (suc i))) (h 0) (bounded-tabulate n (λ i. f (suc i)) (λ i. h (suc i)))

  bounded-columns : (G : Table) (n : ℕ) → ((i j : ℕ) → nat_abs (entry G i j) ≤ bound) → (l : List ℕ) → Bounded bound (columns_of G n l)
  unfolding columns_of
  bounded-columns G n h [] = bounded-nil
  bounded-columns G n h (i ∷ l) =
      bounded-append (tabulate n (λ j. entry G i j)) (columns_of G n l) (bounded-tabulate n (λ j. entry G i j) (h i)) (bounded-columns G n h l)

-- a number within 2 ^ 62 fits 64 bits
pub small_word : {bound : ℕ} (x : ℤ) → nat_abs x ≤ bound → bound ≤ 4611686018427387904 → Word x
small_word (pos n) h k = record { within = omega arith }
small_word (negsuc n) h k = record { within = omega arith }

-- ---- the report

module _ {K : Sections} {p s r : ℕ} {x : State} (R : Right K p s r x) (within-limit : within entry_limit x ≡ true) (few : count K p ≤ library_limit) where
  kind-small : (i : ℕ) → nat_abs (kind x i) ≤ entry_limit
  kind-small i = within-entry entry_limit x within-limit i i

  table-small : (T : Table) → table_within entry_limit T ≡ true → (i j : ℕ) → nat_abs (entry T i j) ≤ entry_limit
  table-small T e = (table_within-iff entry_limit T).0 e

  report-bounded : Bounded entry_limit (report_list (count K p) s r x)
  unfolding report_list torsion_count
  report-bounded =
      bounded-cons (pos (free_rank s r)) _ (omega (arith, R.rows_bound, few))
      (bounded-cons (pos (torsion_count r x)) _ (omega (arith, length-reported-le (kind x) r, R.rank-bound, R.rows_bound, few))
      (bounded-append (map (kind x) (reported (kind x) r)) (columns_of x.row_inverse (count K p) (reported (kind x) s))
      (bounded-map (kind x) kind-small (reported (kind x) r))
      (bounded-columns x.row_inverse (count K p) (table-small x.row_inverse ((within-iff entry_limit x).0 within-limit).row_inverse) (reported (kind x) s))))

  pub report-word : (i : ℕ) → Word (slot (report_list (count K p) s r x) i)
  report-word i = small_word (slot (report_list (count K p) s r x) i) (report-bounded.at i) (omega arith)

  -- ---- the coordinates of a chain with small coefficients

  -- a row of Q times a chain
  pub row_small : (coefficient : ℕ) (z : List ℤ) → ((i : ℕ) → nat_abs (slot z i) ≤ coefficient) → (i : ℕ)
      → nat_abs (apply (count K p) (entry x.row_follower) (slot z) i) ≤ library_limit * (entry_limit * coefficient)
  unfolding apply
  row_small coefficient z small i =
      le_trans
      (nat_abs-sum (count K p) (λ j. entry x.row_follower i j *ℤ slot z j) (entry_limit * coefficient) (λ j l.
      rw (nat_abs_mul (entry x.row_follower i j) (slot z j))
      (mul-le-mul (table-small x.row_follower ((within-iff entry_limit x).0 within-limit).row_follower i j) (small j))))
      (mul-le-mul_right (entry_limit * coefficient) few)

  module _ (z : List ℤ) (small : (i : ℕ) → nat_abs (slot z i) ≤ coefficient_limit) where
    abbrev most : ℕ
    most = library_limit * (entry_limit * coefficient_limit)

    residue-small : (a d : ℤ) → pos 0 ≤ℤ d → nat_abs d ≤ entry_limit → nat_abs a ≤ most → nat_abs (residue a d) ≤ most
    residue-small a (pos zero) h k l = rw (residue-zero a) l
    residue-small a (pos (suc d)) h k l = omega (arith, nat_abs-residue a (pos (suc d)) (lt-pos (omega arith)))
    residue-small a (negsuc d) h k l = absurd h.le

    coordinate-small : (i : ℕ) → nat_abs (coordinate_at (count K p) x z i) ≤ most
    unfolding coordinate_at
    coordinate-small i =
        residue-small (apply (count K p) (entry x.row_follower) (slot z) i) (kind x i) (R.reduced.second.nonneg i) (kind-small i) (row_small coefficient_limit z small i)

    pub coordinates-word : (i : ℕ) → Word (slot (coordinate_list (count K p) s x z) i)
    unfolding coordinate_list
    coordinates-word i =
        small_word (slot (coordinate_list (count K p) s x z) i) ((bounded-map (coordinate_at (count K p) x z) coordinate-small (reported (kind x) s)).at i) (omega arith)
