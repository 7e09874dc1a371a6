-- The tests of a limit m, by which the code sees that a number v lies beyond it (`beyond-low`, `beyond-high`) or not (`within`); `word-beyond-low`,
-- `word-beyond-high`, `word-within` where a word of 32 bits holds m.
use mathlib.Core.Path.{◌≡◌, sym}
use mathlib.Core.Bool.{Bool, true, false, false≢true}
use Prim.Native.Nat.{ℕ, zero, suc, ◌^◌, ◌<◌, ◌≤◌}
use native.Mathlib.Omega.{arith}
use borrow.Author.Tests.{ltb-true, ltb-false}
use lib.IntN.{ℤ, pos, negsuc, neg_ℤ, nat_abs, ◌-ℤ◌}
use lib.Signed.{lt_z}
use mir.Syntax.{w32}
use mir.Val.{SFits, to_z}
use mir.Facts.{to_z-of_z, to_z_pos}
use Rattle.machine_words.specs.Read.{read}
use Rattle.machine_words.specs.Negate.{opposite-read}

pub beyond-low : (m : ℕ) (v : ℤ) → lt_z v (neg_ℤ (pos m)) ≡ true → m < nat_abs v
beyond-low zero (pos n) e = absurd (omega (arith, ltb-true n 0 e))
beyond-low zero (negsuc n) e = omega arith
beyond-low (suc m) (pos n) e = absurd (false≢true e)
beyond-low (suc m) (negsuc n) e = omega (arith, ltb-true m n e)

pub beyond-high : (m : ℕ) (v : ℤ) → lt_z (pos m) v ≡ true → m < nat_abs v
beyond-high m (pos n) e = ltb-true m n e
beyond-high m (negsuc n) e = absurd (false≢true e)

pub within : (m : ℕ) (v : ℤ) → lt_z v (neg_ℤ (pos m)) ≡ false → lt_z (pos m) v ≡ false → nat_abs v ≤ m
within m (pos n) e f = ltb-false m n f
within zero (negsuc n) e f = absurd (false≢true (sym e))
within (suc m) (negsuc n) e f = omega (arith, ltb-false m n e)

module _ (m : ℕ) (small : m < 2 ^ 31) (v : ℤ) (fits : SFits w32 v) where
  low-is : {t : Bool} → lt_z (read w32 v) (read w32 (pos 0 -ℤ to_z w32 m)) ≡ t → lt_z v (neg_ℤ (pos m)) ≡ t
  low-is e = rw (to_z-of_z fits, opposite-read w32 (pos m) small) at e

  high_is : {t : Bool} → lt_z (to_z w32 m) (read w32 v) ≡ t → lt_z (pos m) v ≡ t
  high_is e = rw (to_z-of_z fits, to_z_pos w32 small) at e

  pub word-beyond-low : lt_z (read w32 v) (read w32 (pos 0 -ℤ to_z w32 m)) ≡ true → m < nat_abs v
  word-beyond-low e = beyond-low m v (low-is e)

  pub word-beyond-high : lt_z (to_z w32 m) (read w32 v) ≡ true → m < nat_abs v
  word-beyond-high e = beyond-high m v (high_is e)

  pub word-within : lt_z (read w32 v) (read w32 (pos 0 -ℤ to_z w32 m)) ≡ false → lt_z (to_z w32 m) (read w32 v) ≡ false → nat_abs v ≤ m
  word-within e f = within m v (low-is e) (high_is f)
