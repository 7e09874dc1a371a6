-- The machine's division by a positive number, of numbers that fit a word. Main results: `quotient_fits`, `remainder-read`;
-- `rounded-down`: the quotient towards zero is `floor` where the remainder is not negative; `remainder-divides`: the test of the remainder is `divides`.
use mathlib.Core.Path.{◌≡◌, refl, sym, ap, ◌∙◌}
use mathlib.Core.Bool.{false}
use Prim.Native.Nat.{ℕ, ◌≤◌}
use native.Mathlib.Nat as NatL
use lib.Dec.{eqb}
use lib.IntN.{ℤ, pos, nat_abs}
use lib.Signed.{◌<ℤ◌, lt_z, lt_z_no, quot_z, rem_z, mag_rem}
use mir.Syntax.{w64}
use mir.Val.{SFits, of_z}
use mir.Facts.{to_z-of_z}
use Rattle.integers.proofs.Floor.{nat_abs-floor}
use Rattle.integers.specs.Division.{floor, divides}
use Rattle.integers.proofs.Truncate.{mag-quot_z, nat_abs-rem_z, floor-quot_z}
use Rattle.limits.specs.Limits.{entry_limit}
use Rattle.machine_words.specs.Read.{read, zero-of-bits, zero_test}

module _ (x d : ℤ) (x_Fits : SFits w64 x) (d-fits : SFits w64 d) (p : pos 0 <ℤ d) where
  quotient_is : quot_z (read w64 x) (read w64 d) ≡ quot_z x d
  quotient_is = rw (to_z-of_z x_Fits, to_z-of_z d-fits)

  pub quotient_fits : SFits w64 (quot_z (read w64 x) (read w64 d))
  quotient_fits = rw quotient_is (record { sfits = NatL.lt_of_le_of_lt (mag-quot_z x d p) x_Fits.sfits })

  quotient-read : read w64 (quot_z (read w64 x) (read w64 d)) ≡ quot_z x d
  quotient-read = to_z-of_z quotient_fits ∙ quotient_is

  remainder-fits : SFits w64 (rem_z x d)
  remainder-fits = record { sfits = NatL.lt_of_le_of_lt (mag_rem x d) x_Fits.sfits }

  pub remainder-read : read w64 (rem_z (read w64 x) (read w64 d)) ≡ rem_z x d
  remainder-read = rw (to_z-of_z x_Fits, to_z-of_z d-fits) (to_z-of_z remainder-fits)

  -- the remainder's bits are 0 where it is 0
  pub remainder-zero : of_z w64 (rem_z (read w64 x) (read w64 d)) ≡ 0 → rem_z x d ≡ pos 0
  remainder-zero e = zero-of-bits remainder-fits (rw (to_z-of_z x_Fits, to_z-of_z d-fits) at e)

  pub zero-remainder : rem_z x d ≡ pos 0 → of_z w64 (rem_z (read w64 x) (read w64 d)) ≡ 0
  zero-remainder e = rw (to_z-of_z x_Fits, to_z-of_z d-fits, e) refl

  -- the test of the remainder
  pub remainder-divides : eqb (of_z w64 (rem_z (read w64 x) (read w64 d))) 0 ≡ divides d x
  unfolding divides
  remainder-divides = rw (to_z-of_z x_Fits, to_z-of_z d-fits) (zero_test (rem_z x d) remainder-fits ∙ ap (λ (n : ℕ). eqb n 0) (nat_abs-rem_z x d))

  -- a remainder that is not negative: the quotient towards zero is right
  pub rounded-down :
      lt_z (read w64 (rem_z (read w64 x) (read w64 d))) (pos 0) ≡ false
      → read w64 (quot_z (read w64 x) (read w64 d)) ≡ floor x d
  rounded-down e = quotient-read ∙ sym (floor-quot_z x d p (lt_z_no (rw (rw remainder-read at e) tt)))

-- a quotient of an entry lies within the limit
pub floor-small : (x d r : ℤ) → nat_abs x ≤ entry_limit → r ≡ floor x d → nat_abs r ≤ entry_limit
floor-small x d r l e = rw e (NatL.le_trans (nat_abs-floor x d) l)
