-- Sums over faces: a bound (`nat_abs-part`), and a sum over the rows of the column of a cell as a sum over its
-- faces, by their places (`sum-places`).
use mathlib.Core.Path.{◌≡◌, sym, ap, ◌∙◌}
use mathlib.Core.Logic.{◌≢◌}
use mathlib.Core.Bool.{Bool, true, false, cond}
use mathlib.Core.List.{List}
use Prim.Native.Nat.{ℕ, suc, ◌≤◌, ◌<◌}
use native.Mathlib.Omega.{arith}
use lib.IntN.{ℤ, pos, nat_abs, ◌*ℤ◌}
use Rattle.integers.proofs.Ring.{mul-zero}
use Rattle.matrices.specs.Sum.{sum}
use Rattle.matrices.proofs.SumLaws.{nat_abs-sum, sum-ext, sum-mul-left, sum-swap, sum-single}
use Rattle.complexes.specs.Cell.{Cell, without, same}
use Rattle.complexes.proofs.CellLaws.{eq-same, ne_same}
use Rattle.complexes.proofs.OrderLaws.{ordered-unique}
use Rattle.complexes.proofs.CoefficientLaws.{nat_abs-sign}
use Rattle.complexes.specs.Complex.{section, count, cell, Complex}
use Rattle.complexes.specs.Boundary.{sign, boundary}
use Rattle.sheet_format.specs.Check.{sections_of}
use Rattle.faces.specs.Face.{IsFace}
use Rattle.faces.proofs.Column.{part, part-all}

-- after t faces no entry of a column is larger than t
pub nat_abs-part : (c : Cell) (t : ℕ) (f : Cell) → nat_abs (part c t f) ≤ t
nat_abs-part c t f =
    omega (arith, nat_abs-sum t (λ s. cond (same (without s c) f) (sign s) (pos 0)) 1 (λ s l. one (same (without s c) f) s))
  where
    one : (test : Bool) (s : ℕ) → nat_abs (cond test (sign s) (pos 0)) ≤ 1
    one true s = omega (arith, nat_abs-sign s)
    one false s = omega arith

module _ (b : List ℕ) {top limit : ℕ} (complex : Complex top limit (sections_of b)) (p j : ℕ) (below : j < count (sections_of b) (suc p)) where
  -- place t is the row of face number t
  pub sum-places : (place : ℕ → ℕ) → ((t : ℕ) → t < suc (suc p) → IsFace b p j t (place t)) → (f : ℕ → ℤ)
      → sum (count (sections_of b) p) (λ k. f k *ℤ boundary (sections_of b) (suc p) k j) ≡ sum (suc (suc p)) (λ t. f (place t) *ℤ sign t)
  sum-places place face f =
      sum-ext n (λ k. f k *ℤ boundary (sections_of b) (suc p) k j) (λ k. sum m (λ t. f k *ℤ term t k)) distribute
      ∙ sum-swap n m (λ k t. f k *ℤ term t k)
      ∙ sum-ext m (λ t. sum n (λ k. f k *ℤ term t k)) (λ t. f (place t) *ℤ sign t) single
    where
      c : Cell
      c = cell (sections_of b) (suc p) j

      n : ℕ
      n = count (sections_of b) p

      m : ℕ
      m = suc (suc p)

      -- what face number t has in row k
      term : ℕ → ℕ → ℤ
      term t k = cond (same (without t c) (cell (sections_of b) p k)) (sign t) (pos 0)

      distribute : (k : ℕ) → k < n → f k *ℤ boundary (sections_of b) (suc p) k j ≡ sum m (λ t. f k *ℤ term t k)
      distribute k l = ap (λ (x : ℤ). f k *ℤ x) (part-all b complex p j below k) ∙ sym (sum-mul-left m (f k) (λ t. term t k))

      single : (t : ℕ) → t < m → sum n (λ k. f k *ℤ term t k) ≡ f (place t) *ℤ sign t
      single t l =
          sum-single n (place t) (λ k. f k *ℤ term t k) (face t l).below other
          ∙ rw (eq-same (without t c) (cell (sections_of b) p (place t)) (sym (face t l).is))
        where
          differs : (k : ℕ) → k < n → k ≢ place t → without t c ≢ cell (sections_of b) p k
          differs k h d e =
              d (ordered-unique (section (sections_of b) p) (complex.ordered p) k (place t) h (face t l).below (sym e ∙ sym (face t l).is))

          other : (k : ℕ) → k < n → k ≢ place t → f k *ℤ term t k ≡ pos 0
          other k h d = rw (ne_same (without t c) (cell (sections_of b) p k) (differs k h d)) (mul-zero (f k))
