-- The entries of a diagonal matrix, and a diagonal matrix times a vector: `diagonal-at`, `diagonal-other`, `apply-diagonal`.
use Prim.Native.Nat.{ℕ, ◌≤◌, ◌<◌}
use native.Mathlib.Omega.{arith}
use mathlib.Core.Path.{◌≡◌, refl, sym, ◌∙◌, ap}
use mathlib.Core.Logic.{◌≢◌}
use borrow.Author.Tests.{eq-eqb, ne_eqb}
use lib.IntN.{ℤ, pos, ◌*ℤ◌}
use Rattle.integers.proofs.Ring.{zero-mul}
use Rattle.matrices.proofs.SumLaws.{sum-zero, sum-single}
use Rattle.matrices.specs.Vector.{Vector, apply}
use Rattle.smith.proofs.Certificate.{diagonal}

pub diagonal-at : (d : ℕ → ℤ) (i : ℕ) → diagonal d i i ≡ d i
unfolding diagonal
diagonal-at d i = rw (eq-eqb i i refl)

pub diagonal-other : (d : ℕ → ℤ) (i j : ℕ) → i ≢ j → diagonal d i j ≡ pos 0
unfolding diagonal
diagonal-other d i j h = rw (ne_eqb i j h)

-- a term of the sum below
off-diagonal : (d : ℕ → ℤ) (x : Vector) (i j : ℕ) → i ≢ j → diagonal d i j *ℤ x j ≡ pos 0
off-diagonal d x i j h = ap (λ (t : ℤ). t *ℤ x j) (diagonal-other d i j h) ∙ zero-mul (x j)

pub apply-diagonal : (n : ℕ) (d : ℕ → ℤ) (x : Vector) (i : ℕ) → i < n → apply n (diagonal d) x i ≡ d i *ℤ x i
unfolding apply
apply-diagonal n d x i h =
    sum-single n i (λ j. diagonal d i j *ℤ x j) h (λ j l e. off-diagonal d x i j (λ p. e (sym p)))
    ∙ ap (λ (t : ℤ). t *ℤ x i) (diagonal-at d i)

-- below the last row with a place on the diagonal
pub apply-diagonal-below : (n : ℕ) (d : ℕ → ℤ) (x : Vector) (i : ℕ) → n ≤ i → apply n (diagonal d) x i ≡ pos 0
unfolding apply
apply-diagonal-below n d x i h = sum-zero n (λ j. diagonal d i j *ℤ x j) (λ j l. off-diagonal d x i j (omega arith))
