-- The boundary matrices of a complex. What stands in them: entry-face, entry_other, boundary-small. The boundary of a boundary is zero:
-- boundary-boundary.
use mathlib.Core.Path.{◌≡◌, sym, ◌∙◌}
use mathlib.Core.Logic.{◌≢◌}
use mathlib.Core.Bool.{true, cond}
use mathlib.Core.List.{[]}
use Prim.Native.Nat.{ℕ, zero, suc, ◌<◌, ◌≤◌}
use native.Mathlib.Omega.{arith}
use native.Mathlib.Decide.{dec_lt}
use lib.ListN.{length, get_or-eq_default}
use lib.IntN.{ℤ, pos, nat_abs, ◌*ℤ◌}
use Rattle.integers.proofs.Ring.{mul-zero}
use Rattle.matrices.specs.Sum.{sum}
use Rattle.matrices.proofs.SumLaws.{sum-ext, sum-mul-left, sum-swap, sum-single}
use Rattle.matrices.specs.Matrix.{Eq, mul, null}
use Rattle.complexes.specs.Cell.{Cell, without, same, rises, Listed}
use Rattle.complexes.proofs.CellLaws.{same_refl, ne_same}
use Rattle.complexes.proofs.OrderLaws.{ordered-unique}
use Rattle.complexes.specs.Complex.{Sections, section, count, cell, Complex}
use Rattle.complexes.specs.Boundary.{sign, coefficient, count_below, boundary}
use Rattle.complexes.proofs.CoefficientLaws.{coefficient-face, coefficient-other, coefficient-small, faces-cancel}

module _ {top limit : ℕ} {K : Sections} (complex : Complex top limit K) where
  -- ---- the entries

  -- at the row of the face without vertex i, the column of a cell has sign i
  pub entry-face : (p j i r : ℕ) → j < count K (suc p) → i < suc (suc p) → cell K p r ≡ without i (cell K (suc p) j)
      → boundary K (suc p) r j ≡ sign i
  unfolding boundary
  entry-face p j i r a b e =
      rw e (coefficient-face c i (complex.rising (suc p) j a) (omega (arith, complex.sized (suc p) j a)))
    where
      c : Cell
      c = cell K (suc p) j

  -- at the row of a cell that is no face of it, it has zero
  pub entry_other : (p j r : ℕ) → j < count K (suc p) → ((i : ℕ) → i < suc (suc p) → without i (cell K (suc p) j) ≢ cell K p r)
      → boundary K (suc p) r j ≡ pos 0
  unfolding boundary
  entry_other p j r a h =
      coefficient-other (cell K p r) (cell K (suc p) j) (λ i l. h i (rw (← complex.sized (suc p) j a) l))

  -- every entry is 1, -1 or 0
  pub boundary-small : (p r j : ℕ) → nat_abs (boundary K p r j) ≤ 1
  unfolding boundary rises
  boundary-small zero r j = omega arith
  boundary-small (suc p) r j = coefficient-small (cell K p r) (cell K (suc p) j) (rising (dec_lt j (count K (suc p))))
    where
      rising : Dec (j < count K (suc p)) → rises (cell K (suc p) j) ≡ true
      rising (yes l) = complex.rising (suc p) j l
      rising (no l) = rw (get_or-eq_default (section K (suc p)) [] {n = j} (omega arith))

  -- ---- the boundary of a boundary

  -- a sum over the rows of a column is a sum over the faces of its cell
  pub sum-faces : (p j : ℕ) (g : Cell → ℤ) → j < count K (suc p)
      → sum (count K p) (λ k. g (cell K p k) *ℤ boundary K (suc p) k j)
      ≡ sum (length (cell K (suc p) j)) (λ t. g (without t (cell K (suc p) j)) *ℤ sign t)
  unfolding boundary coefficient
  sum-faces p j g a =
      sum-ext n (λ k. g (cell K p k) *ℤ sum m (λ t. at t k)) (λ k. sum m (λ t. g (cell K p k) *ℤ at t k)) distribute
      ∙ sum-swap n m (λ k t. g (cell K p k) *ℤ at t k)
      ∙ sum-ext m (λ t. sum n (λ k. g (cell K p k) *ℤ at t k)) (λ t. g (without t c) *ℤ sign t) single
    where
      c : Cell
      c = cell K (suc p) j

      n : ℕ
      n = count K p

      m : ℕ
      m = length c

      at : ℕ → ℕ → ℤ
      at t k = cond (same (without t c) (cell K p k)) (sign t) (pos 0)

      distribute : (k : ℕ) → k < n → g (cell K p k) *ℤ sum m (λ t. at t k) ≡ sum m (λ t. g (cell K p k) *ℤ at t k)
      distribute k l = sym (sum-mul-left m (g (cell K p k)) (λ t. at t k))

      -- the face without vertex t stands at one place
      single : (t : ℕ) → t < m → sum n (λ k. g (cell K p k) *ℤ at t k) ≡ g (without t c) *ℤ sign t
      single t l =
          sum-single n face.place (λ k. g (cell K p k) *ℤ at t k) face.below other
          ∙ rw (face.is, same_refl)
        where
          face : Listed (without t c) (section K p)
          face = complex.closed p j t a (omega (arith, complex.sized (suc p) j a))

          differs : (k : ℕ) → k < n → k ≢ face.place → without t c ≢ cell K p k
          differs k b d q = d (ordered-unique (section K p) (complex.ordered p) k face.place b face.below (sym (face.is ∙ q)))

          other : (k : ℕ) → k < n → k ≢ face.place → g (cell K p k) *ℤ at t k ≡ pos 0
          other k b d = rw (ne_same (without t c) (cell K p k) (differs k b d)) (mul-zero (g (cell K p k)))

  pub boundary-boundary : (p : ℕ)
      → Eq (count_below K p) (count K (suc p)) (mul (count K p) (boundary K p) (boundary K (suc p))) null
  unfolding mul null boundary count_below
  boundary-boundary zero = record { at = λ i j a b. absurd (omega arith) }
  boundary-boundary (suc p) = record {
    at = λ i j a b. sum-faces (suc p) j (λ c. coefficient (cell K p i) c) b ∙ faces-cancel (cell K p i) (cell K (suc (suc p)) j);
  }
