-- Smith normal form as a certificate: the full record of a reduction in document 01, "The reduction".
use Prim.Native.Nat.{ℕ, suc, ◌≤◌, min}
use mathlib.Core.Path.{◌≡◌}
use mathlib.Core.Bool.{cond}
use lib.Dec.{eqb}
use lib.IntN.{ℤ, pos}
use lib.Signed.{◌≤ℤ◌}
use Rattle.integers.specs.Division.{◌∣ℤ◌}
use Rattle.matrices.specs.Matrix.{Matrix, Eq, mul}
use Rattle.matrices.proofs.Inverse.{InversePair}

-- the matrix with d on its diagonal and zeros elsewhere
unfoldable pub diagonal : (ℕ → ℤ) → Matrix
diagonal d i j = cond (eqb i j) (d i) (pos 0)

-- d is the Smith diagonal of the m by n matrix A: the row transform U and the column transform W have inverses Ui and Wi, U A W has the
-- diagonal d and zeros elsewhere, each d i is at least 0 and divides the next, and d is 0 past the smaller side. (0 divides only 0.)
pub record Smith (m n : ℕ) (A : Matrix) (d : ℕ → ℤ) (U Ui W Wi : Matrix) : Type 0 where
  pub row_pair : InversePair m U Ui
  pub column_pair : InversePair n W Wi
  pub carries : Eq m n (mul n (mul m U A) W) (diagonal d)
  pub nonneg : (i : ℕ) → pos 0 ≤ℤ d i
  pub divides : (i : ℕ) → d i ∣ℤ d (suc i)
  pub beyond : (i : ℕ) → min m n ≤ i → d i ≡ pos 0
