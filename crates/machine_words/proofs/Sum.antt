-- A sum to which a term is added, as the machine computes it: total + y * r, where r is v, of absolute value at most 1. `term_fits`, `sum_fits`, `sum_is`.
use mathlib.Core.Path.{◌≡◌, ap, ◌∙◌}
use Prim.Native.Nat.{◌^◌, ◌≤◌}
use native.Mathlib.Nat as NatL
use native.Mathlib.Omega.{arith}
use lib.IntN.{ℤ, nat_abs, ◌+ℤ◌, ◌*ℤ◌}
use mir.Syntax.{w64}
use mir.Val.{SFits}
use mir.Facts.{to_z-of_z}
use Rattle.integers.proofs.Order.{nat_abs_mul, nat_abs-add}
use Rattle.limits.specs.Limits.{entry_limit}
use Rattle.machine_words.specs.Read.{read, sfits-below, read_wide}

module _ (total y r : ℤ) {v : ℤ} (e : r ≡ v) (unit : nat_abs v ≤ 1) (total-small : nat_abs total ≤ 2 ^ 33) (y-small : nat_abs y ≤ entry_limit) where
  abbrev pub term : ℤ
  term = read w64 y *ℤ read w64 r

  term_is : term ≡ y *ℤ v
  term_is = rw (read_wide y y-small, e, read_wide v (omega arith))

  term-small : nat_abs (y *ℤ v) ≤ entry_limit
  term-small = rw (nat_abs_mul y v) (omega (arith, NatL.mul-le-mul y-small unit))

  pub term_fits : SFits w64 term
  term_fits = rw term_is (sfits-below w64 (y *ℤ v) (omega (arith, term-small)))

  added_is : total +ℤ read w64 term ≡ total +ℤ y *ℤ v
  added_is = ap (λ (z : ℤ). total +ℤ z) (to_z-of_z term_fits ∙ term_is)

  pub sum_fits : SFits w64 (total +ℤ read w64 term)
  sum_fits = rw added_is (sfits-below w64 (total +ℤ y *ℤ v) (omega (arith, term-small, nat_abs-add total (y *ℤ v))))

  pub sum_is : read w64 (total +ℤ read w64 term) ≡ total +ℤ y *ℤ v
  sum_is = to_z-of_z sum_fits ∙ added_is
