-- `residue::residue` meets its contract: twice the remainder exceeds d exactly when the remainder exceeds what it lacks of d.
use mathlib.Core.Path.{◌≡◌, sym, ap, ap₂, ◌∙◌}
use mathlib.Core.Bool.{true, false}
use lib.IntN.{ℤ, pos, ◌-ℤ◌}
use lib.Signed.{◌<ℤ◌, lt_z, lt_z_yes, lt_z_no}
use mir.Syntax.{w64}
use mir.Val.{SFits}
use mir.Facts.{to_z-of_z}
use Rattle.integers.proofs.Residue.{residue-zero}
use Rattle.integers.proofs.ResidueRemainder.{residue-lowered, residue-kept, nat_abs-lack, nat_abs-lowered}
use Rattle.std.specs.Int.{int_rem_euclid}
use Rattle.integers.specs.Division.{modulo, residue}
use Rattle.machine_words.specs.Read.{read, fits_below, zero-of-bits, positive-of-bits}
use Rattle.numbers.proofs.Euclid.{modulo-euclid}
use Rattle.numbers.proofs.residue.residue.Goals as goal
use Rattle.numbers.proofs.residue.residue.Goals.{After-rem_euclid-r}

-- a number r that the machine reads as the remainder: what it lacks of the divisor, and it less the divisor
module _ (x d r : ℤ) (d-fits : SFits w64 d) (positive : pos 0 <ℤ d) (is : read w64 r ≡ modulo x d) where
  abbrev lack : ℤ
  lack = read w64 d -ℤ read w64 r

  abbrev lowered : ℤ
  lowered = read w64 r -ℤ read w64 d

  divisor-is : read w64 d ≡ d
  divisor-is = to_z-of_z d-fits

  lack-is : lack ≡ d -ℤ modulo x d
  lack-is = ap₂ ◌-ℤ◌ divisor-is is

  lack-fits : SFits w64 lack
  lack-fits = rw lack-is (fits_below d (d -ℤ modulo x d) positive d-fits (nat_abs-lack x d positive))

  lowered_is : lowered ≡ modulo x d -ℤ d
  lowered_is = ap₂ ◌-ℤ◌ is divisor-is

  lowered-fits : SFits w64 lowered
  lowered-fits = rw lowered_is (fits_below d (modulo x d -ℤ d) positive d-fits (nat_abs-lowered x d positive))

  -- the test compares what is lacking with the remainder
  test-is : lt_z (read w64 lack) (read w64 r) ≡ lt_z (d -ℤ modulo x d) (modulo x d)
  test-is = ap₂ lt_z (to_z-of_z lack-fits ∙ lack-is) is

  lowered-residue : lt_z (read w64 lack) (read w64 r) ≡ true → read w64 lowered ≡ residue x d
  lowered-residue t = to_z-of_z lowered-fits ∙ lowered_is ∙ sym (residue-lowered x d (lt_z_yes (rw (sym test-is ∙ t) tt)))

  kept-residue : lt_z (read w64 lack) (read w64 r) ≡ false → read w64 r ≡ residue x d
  kept-residue t = is ∙ sym (residue-kept x d (lt_z_no (rw (sym test-is ∙ t) tt)))

pub returns-then-d-eq0 : goal.returns-then-d-eq0
returns-then-d-eq0 c =
    let x = c.args.x in
    to_z-of_z c.ranges.x
    ∙ sym (ap (λ (k : ℤ). residue x k) (zero-of-bits c.ranges.d c.if-d-eq0.true) ∙ residue-zero x)

module _ (c : After-rem_euclid-r) where
  abbrev remainder : ℤ
  remainder = c.rem_euclid-r.result

  positive : pos 0 <ℤ c.args.d
  positive = positive-of-bits c.args.d c.requires c.if-d-eq0.false

  remainder-is : read w64 remainder ≡ modulo c.args.x c.args.d
  remainder-is =
      to_z-of_z {w = w64} {z = remainder} (record { sfits = c.rem_euclid-r.type_inv })
      ∙ c.rem_euclid-r.ensures.value
      ∙ ap₂ int_rem_euclid (to_z-of_z c.ranges.x) (to_z-of_z c.ranges.d)
      ∙ modulo-euclid c.args.x c.args.d positive

pub returns-then-r-d : goal.returns-then-r-d
returns-then-r-d c =
    let a = (goal.at.returns-then-r-d c).After-rem_euclid-r in lowered-residue a.args.x a.args.d (remainder a) a.ranges.d (positive a) (remainder-is a) c.if-r-d.true

pub returns-else-r-d : goal.returns-else-r-d
returns-else-r-d c =
    let a = (goal.at.returns-else-r-d c).After-rem_euclid-r in kept-residue a.args.x a.args.d (remainder a) a.ranges.d (positive a) (remainder-is a) c.if-r-d.false
