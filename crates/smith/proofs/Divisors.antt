-- Divisors of sums and chains of divisors: `dvd-sum`, `dvd-chain`, `dvd-eq`.
use mathlib.Core.Path.{◌≡◌, sym, ◌∙◌, ap, subst}
use Prim.Native.Nat.{ℕ, zero, suc, ◌≤◌, ◌<◌}
use native.Mathlib.Omega.{arith}
use native.Mathlib.Decide.{dec_lt}
use lib.IntN.{ℤ, pos}
use lib.Signed.{◌≤ℤ◌}
use Rattle.integers.proofs.Order.{nonneg-is}
use Rattle.integers.proofs.Divides.{dvd_refl, dvd_trans, dvd-add, dvd-zero, dvd_antisymm}
use Rattle.integers.specs.Division.{◌∣ℤ◌}
use Rattle.matrices.specs.Sum.{sum}

pub dvd-sum : (n : ℕ) (e : ℤ) (f : ℕ → ℤ) → ((i : ℕ) → i < n → e ∣ℤ f i) → e ∣ℤ sum n f
unfolding sum
dvd-sum zero e f h = dvd-zero e
dvd-sum (suc n) e f h = dvd-add (dvd-sum n e f (λ i l. h i (omega arith))) (h n (omega arith))

-- where each divides the next, each divides all later ones
pub dvd-chain : (k : ℕ) (d : ℕ → ℤ) → ((i : ℕ) → suc i < k → d i ∣ℤ d (suc i)) → (i j : ℕ) → i ≤ j → j < k → d i ∣ℤ d j
dvd-chain k d h i zero l m = subst (λ (x : ℕ). d i ∣ℤ d x) (omega arith) (dvd_refl (d i))
dvd-chain k d h i (suc j) l m = go (dec_lt j i) (λ a. dvd-chain k d h i j a (omega arith))
  where
    go : Dec (j < i) → (i ≤ j → d i ∣ℤ d j) → d i ∣ℤ d (suc j)
    go (yes a) before = subst (λ (x : ℕ). d i ∣ℤ d x) (omega arith) (dvd_refl (d i))
    go (no a) before = dvd_trans (before (omega arith)) (h j m)

-- two numbers at least 0 that divide each other
pub dvd-eq : {a b : ℤ} → pos 0 ≤ℤ a → pos 0 ≤ℤ b → a ∣ℤ b → b ∣ℤ a → a ≡ b
dvd-eq h k p q = nonneg-is h ∙ ap pos (dvd_antisymm p q) ∙ sym (nonneg-is k)
