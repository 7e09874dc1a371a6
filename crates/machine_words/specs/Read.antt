-- What a word holds, and what is read from its bits. Main results: `sfits-below`, `fits_below`; for numbers within the limit of an entry `entry-fits`, `wide_fits`,
-- `read-entry`, `read_wide`, `wide-small`; `cast_fits`, `cast_is` for a word made wider; `of-bits`, `zero-of-bits`, `zero_test`, `positive-bits`, `positive-of-bits` for the bits.
use Rattle.std.specs.Prelude.{◌≡◌, ◌≢◌, ℕ, ◌^◌, ◌<◌, ◌≤◌, eqb, ℤ, pos, negsuc, nat_abs, ◌≤ℤ◌, ◌<ℤ◌}
use Rattle.std.proofs.Common.{sym, ap, ◌∙◌, arith, ne_eqb, pow_pos, to_z-of_z}
use Rattle.std.proofs.Math.Nat as NatL
use Rattle.std.proofs.Math.Decide.{ℕ_discrete}
use Rattle.std.specs.Int.Signed.{mag}
use Rattle.std.specs.Int.{Width, w32, w64}
use mir.Val.{SFits, of_z, to_z, hbits}
use Rattle.std.proofs.Math.Facts.{to_z_pos, sfits_widen}
use Rattle.integers.proofs.Order.{nat_abs-zero, lt-pos, pos-lt}
use Rattle.limits.specs.Limits.{entry_limit}

abbrev pub read : Width → ℤ → ℤ
read w z = to_z w (of_z w z)

mag-le : (z : ℤ) → mag z ≤ nat_abs z
mag-le (pos n) = NatL.le_refl n
mag-le (negsuc n) = omega arith

pub sfits-below : (w : Width) (z : ℤ) → nat_abs z < 2 ^ hbits w → SFits w z
sfits-below w z l = record { sfits = NatL.lt_of_le_of_lt (mag-le z) l }

-- what is no larger than a positive number that fits
pub fits_below : (d z : ℤ) → pos 0 <ℤ d → SFits w64 d → nat_abs z ≤ nat_abs d → SFits w64 z
fits_below (pos n) z p f l = sfits-below w64 z (NatL.lt_of_le_of_lt l f.sfits)
fits_below (negsuc n) z p f l = absurd p.lt

-- ---- a number within the limit of an entry

pub entry-fits : (z : ℤ) → nat_abs z ≤ entry_limit → SFits w32 z
entry-fits z l = sfits-below w32 z (omega arith)

pub wide_fits : (z : ℤ) → nat_abs z ≤ entry_limit → SFits w64 z
wide_fits z l = sfits-below w64 z (omega arith)

pub read-entry : (z : ℤ) → nat_abs z ≤ entry_limit → read w32 z ≡ z
read-entry z l = to_z-of_z (entry-fits z l)

pub read_wide : (z : ℤ) → nat_abs z ≤ entry_limit → read w64 z ≡ z
read_wide z l = to_z-of_z (wide_fits z l)

pub wide-small : (z : ℤ) → nat_abs z ≤ entry_limit → nat_abs (read w64 z) ≤ entry_limit
wide-small z l = rw (read_wide z l) l

-- ---- a word of 32 bits as one of 64

pub cast_fits : (z : ℤ) → SFits w32 z → SFits w64 (read w32 z)
cast_fits z f = rw (to_z-of_z f) (sfits_widen tt f)

pub cast_is : (z : ℤ) → SFits w32 z → read w64 (read w32 z) ≡ z
cast_is z f = ap (read w64) (to_z-of_z f) ∙ to_z-of_z {w = w64} {z = z} (sfits_widen {w = w32} {w' = w64} {z = z} tt f)

-- ---- the bits

-- a number is known by its bits
pub of-bits : {w : Width} {z : ℤ} {n : ℕ} → SFits w z → of_z w z ≡ n → z ≡ to_z w n
of-bits {w} f e = sym (to_z-of_z f) ∙ ap (to_z w) e

pub zero-of-bits : {w : Width} {z : ℤ} → SFits w z → of_z w z ≡ 0 → z ≡ pos 0
zero-of-bits {w} f e = of-bits f e ∙ to_z_pos w (pow_pos (hbits w))

-- the test for 0
pub zero_test : {w : Width} (z : ℤ) → SFits w z → eqb (of_z w z) 0 ≡ eqb (nat_abs z) 0
zero_test {w} z f = pick (ℕ_discrete (nat_abs z) 0)
  where
    pick : Dec (nat_abs z ≡ 0) → eqb (of_z w z) 0 ≡ eqb (nat_abs z) 0
    pick (yes e) = rw (nat_abs-zero z e)
    pick (no d) = ne_eqb (of_z w z) 0 (λ e. d (ap nat_abs (zero-of-bits f e))) ∙ sym (ne_eqb (nat_abs z) 0 d)

-- the bits of a positive number are not 0
pub positive-bits : (d : ℤ) → pos 0 <ℤ d → 0 < of_z w64 d
positive-bits (pos n) p = pos-lt p
positive-bits (negsuc n) p = absurd p.lt

pub positive-of-bits : (d : ℤ) → pos 0 ≤ℤ d → of_z w64 d ≢ 0 → pos 0 <ℤ d
positive-of-bits (pos n) h f = lt-pos (NatL.pos_of_ne-zero f)
positive-of-bits (negsuc n) h f = absurd h.le
