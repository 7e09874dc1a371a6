-- The text of a signed number by its absolute value n: `negative` and `positive`.
use mathlib.Core.Path.{◌≡◌, sym, ◌∙◌, ap}
use mathlib.Core.Bool.{true, false, false≢true}
use mathlib.Core.List.{◌∷◌}
use Prim.Native.Nat.{ℕ, suc}
use native.Mathlib.Omega.{arith}
use lib.IntN.{ℤ, pos, negsuc, nat_abs}
use lib.Signed.{lt_z}
use borrow.Author.Tests.{ltb-true}
use mir.Syntax.{w64}
use mir.Val.{SFits, of_z, to_z}
use mir.Facts.{to_z-of_z}
use Rattle.program_text.specs.Text.{digits, decimal}

module _ {n : ℕ} where
  pub negative : (x : ℤ) → SFits w64 x → lt_z (to_z w64 (of_z w64 x)) (pos 0) ≡ true → n ≡ nat_abs (to_z w64 (of_z w64 x))
      → decimal x ≡ 45 ∷ digits (suc n) n
  unfolding decimal
  negative (pos m) f h e = absurd (omega (arith, ltb-true m 0 (ap (λ (z : ℤ). lt_z z (pos 0)) (sym (to_z-of_z f)) ∙ h)))
  negative (negsuc m) f h e = ap (λ (k : ℕ). 45 ∷ digits (suc k) k) (sym (e ∙ ap nat_abs (to_z-of_z f)))

  pub positive : (x : ℤ) → SFits w64 x → lt_z (to_z w64 (of_z w64 x)) (pos 0) ≡ false → n ≡ nat_abs (to_z w64 (of_z w64 x)) → decimal x ≡ digits (suc n) n
  unfolding decimal
  positive (pos m) f h e = ap (λ (k : ℕ). digits (suc k) k) (sym (e ∙ ap nat_abs (to_z-of_z f)))
  positive (negsuc m) f h e = absurd (false≢true (sym h ∙ ap (λ (z : ℤ). lt_z z (pos 0)) (to_z-of_z f)))
