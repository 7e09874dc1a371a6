-- x - q * y, where x and y are entries and q is the number that a word holds, as the machine computes it: `product-fits`, `less-fits`, `read-less`,
-- `less-small`.
use mathlib.Core.Path.{◌≡◌, ◌∙◌}
use Prim.Native.Nat.{◌*◌, ◌^◌, ◌<◌, ◌≤◌}
use native.Mathlib.Nat as NatL
use native.Mathlib.Omega.{arith}
use lib.IntN.{ℤ, nat_abs, ◌-ℤ◌, ◌*ℤ◌}
use mir.Syntax.{w32, w64}
use mir.Val.{SFits}
use mir.Facts.{to_z-of_z}
use Rattle.integers.proofs.Order.{nat_abs_mul, nat_abs-sub}
use Rattle.limits.specs.Limits.{entry_limit}
use Rattle.machine_words.specs.Read.{read, sfits-below, entry-fits, cast_is}

abbrev pub product : ℤ → ℤ → ℤ
product q y = q *ℤ read w64 (read w32 y)

abbrev pub less : ℤ → ℤ → ℤ → ℤ
less x q y = read w64 (read w32 x) -ℤ read w64 (product q y)

module _ (x q y : ℤ) (x-small : nat_abs x ≤ entry_limit) (q-small : nat_abs q ≤ entry_limit) (y-small : nat_abs y ≤ entry_limit) where
  small_product : nat_abs (q *ℤ y) ≤ entry_limit * entry_limit
  small_product = rw nat_abs_mul (NatL.mul-le-mul q-small y-small)

  product_is : product q y ≡ q *ℤ y
  product_is = rw (cast_is y (entry-fits y y-small))

  pub product-fits : SFits w64 (product q y)
  product-fits = rw product_is (sfits-below w64 (q *ℤ y) (omega (arith, small_product)))

  less-is : less x q y ≡ x -ℤ q *ℤ y
  less-is = rw (cast_is x (entry-fits x x-small), to_z-of_z product-fits, product_is)

  small-difference : nat_abs (x -ℤ q *ℤ y) < 2 ^ 63
  small-difference = omega (arith, small_product, nat_abs-sub x (q *ℤ y))

  pub less-fits : SFits w64 (less x q y)
  less-fits = rw less-is (sfits-below w64 (x -ℤ q *ℤ y) small-difference)

  pub read-less : read w64 (less x q y) ≡ x -ℤ q *ℤ y
  read-less = to_z-of_z less-fits ∙ less-is

  pub less-small : nat_abs (read w64 (less x q y)) < 2 ^ 63
  less-small = rw read-less small-difference
