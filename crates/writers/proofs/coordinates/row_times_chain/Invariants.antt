-- `coordinates::row_times_chain` meets its contract. The invariant: the total is the sum of the products passed, each of which is at most
-- the product of the two limits.
use mathlib.Core.Path.{◌≡◌, sym, ap, subst, ◌∙◌}
use mathlib.Core.List.{List}
use Prim.Native.Nat.{ℕ, ◌+◌, ◌*◌, ◌≤◌, ◌<◌}
use native.Mathlib.Nat as NatL
use native.Mathlib.Numerals.{add-one}
use native.Mathlib.Omega.{arith}
use lib.ListN.{length}
use lib.IntN.{ℤ, pos, nat_abs, ◌+ℤ◌, ◌*ℤ◌}
use mir.Syntax.{w32, w64}
use mir.Val.{SFits}
use mir.Facts.{to_z-of_z}
use Rattle.integers.proofs.Ring.{add-zero, mul-zero}
use Rattle.integers.proofs.Order.{nat_abs_mul, nat_abs-add}
use Rattle.matrices.specs.Sum.{sum}
use Rattle.limits.specs.Limits.{library_limit, coefficient_limit}
use Rattle.integers.specs.Slot.{slot}
use Rattle.matrix_lines.specs.Slice.{entry_limit, Small}
use Rattle.machine_words.specs.Read.{read, sfits-below, entry-fits, cast_is}
use Rattle.writers.proofs.coordinates.row_times_chain.Given as goal

-- the greatest absolute value of a product
abbrev pub product-limit : ℕ
product-limit = entry_limit * coefficient_limit

-- ---- one product, and the total with it

-- as the machine computes them
abbrev pub product : ℤ → ℤ → ℤ
product x y = read w64 (read w32 x) *ℤ read w64 (read w32 y)

abbrev pub raised : ℤ → ℤ → ℤ → ℤ
raised total x y = total +ℤ read w64 (product x y)

module _ (x y : ℤ) (x-small : nat_abs x ≤ entry_limit) (y-small : nat_abs y ≤ coefficient_limit) where
  pub product-bound : nat_abs (x *ℤ y) ≤ product-limit
  product-bound = rw nat_abs_mul (NatL.mul-le-mul x-small y-small)

  pub product_is : product x y ≡ x *ℤ y
  product_is = rw (cast_is x (entry-fits x x-small), cast_is y (entry-fits y (omega arith)))

  pub product-fits : SFits w64 (product x y)
  product-fits = rw product_is (sfits-below w64 (x *ℤ y) (omega (arith, product-bound)))

  module _ (total : ℤ) (j : ℕ) (bound : nat_abs total ≤ j * product-limit) where
    pub raised_is : raised total x y ≡ total +ℤ x *ℤ y
    raised_is = ap (λ (p : ℤ). total +ℤ p) (to_z-of_z product-fits ∙ product_is)

    pub raised-bound : nat_abs (total +ℤ x *ℤ y) ≤ (j + 1) * product-limit
    raised-bound = omega (arith, nat_abs-add total (x *ℤ y), product-bound)

    pub raised-fits : j < library_limit → SFits w64 (raised total x y)
    raised-fits l = rw raised_is (sfits-below w64 (total +ℤ x *ℤ y) (omega (arith, raised-bound)))

pub record Invariant (w chain : List ℤ) (line j : ℕ) (total : ℤ) : Type 0 where
  pub below : j ≤ length chain
  pub inside : line + length chain ≤ length w
  pub short : length chain ≤ library_limit
  pub small : Small w
  pub coefficients : (t : ℕ) → nat_abs (slot chain t) ≤ coefficient_limit
  pub so_far : total ≡ sum j (λ t. slot w (line + t) *ℤ slot chain t)
  pub bound : nat_abs total ≤ j * product-limit

module _ {w chain : List ℤ} {line j : ℕ} {total : ℤ} (inv : Invariant w chain line j total) (more : j < length chain) where
  abbrev pub x : ℤ
  x = slot w (line + j)

  abbrev pub y : ℤ
  y = slot chain j

  pub entry-word : SFits w32 x
  entry-word = entry-fits x (inv.small.bound (line + j))

  pub coefficient-word : SFits w32 y
  coefficient-word = entry-fits y (omega (arith, inv.coefficients j))

  pub product-word : SFits w64 (product x y)
  product-word = product-fits x y (inv.small.bound (line + j)) (inv.coefficients j)

  pub raised-word : SFits w64 (raised total x y)
  raised-word = raised-fits x y (inv.small.bound (line + j)) (inv.coefficients j) total j inv.bound (omega (arith, inv.short))

  pub again : Invariant w chain line (j + 1) (read w64 (raised total x y))
  unfolding sum
  again = subst (λ (t : ℤ). Invariant w chain line (j + 1) t) (sym is) (record {
    below = omega arith;
    inside = inv.inside;
    short = inv.short;
    small = inv.small;
    coefficients = inv.coefficients;
    so_far = rw add-one (ap (λ (t : ℤ). t +ℤ x *ℤ y) inv.so_far);
    bound = raised-bound x y (inv.small.bound (line + j)) (inv.coefficients j) total j inv.bound;
  })
    where
      is : read w64 (raised total x y) ≡ total +ℤ x *ℤ y
      is = to_z-of_z raised-word ∙ raised_is x y (inv.small.bound (line + j)) (inv.coefficients j) total j inv.bound

  -- a coefficient of 0
  pub passed : y ≡ pos 0 → Invariant w chain line (j + 1) total
  unfolding sum
  passed e = record {
    below = omega arith;
    inside = inv.inside;
    short = inv.short;
    small = inv.small;
    coefficients = inv.coefficients;
    so_far = rw add-one (inv.so_far ∙ sym (ap (λ (z : ℤ). sum j products +ℤ x *ℤ z) e ∙ ap (λ (z : ℤ). sum j products +ℤ z) (mul-zero x) ∙ add-zero (sum j products)));
    bound = omega (arith, inv.bound);
  }
    where
      products : ℕ → ℤ
      products t = slot w (line + t) *ℤ slot chain t

abbrev pub invariant-loop-j : goal.invariant-loop-j
invariant-loop-j l = Invariant l.w l.chain l.line l.j l.total
