-- `surface::add_line` meets its contract. The invariant: the sums passed are raised by y times the entry, the others are as they were.
use mathlib.Core.Path.{◌≡◌, ap, ◌∙◌}
use mathlib.Core.List.{List}
use Prim.Native.Nat.{ℕ, ◌+◌, ◌^◌, ◌≤◌, ◌<◌}
use native.Mathlib.Nat.{mul-le-mul}
use native.Mathlib.Omega.{arith}
use lib.ListN.{length}
use lib.IntN.{ℤ, nat_abs, ◌+ℤ◌, ◌*ℤ◌}
use mir.Syntax.{w32, w64}
use mir.Val.{SFits}
use mir.Facts.{to_z-of_z}
use Rattle.integers.proofs.Order.{nat_abs_mul, nat_abs-add}
use Rattle.integers.specs.Slot.{slot}
use Rattle.matrix_lines.specs.Slice.{Small}
use Rattle.machine_words.specs.Read.{read, sfits-below, entry-fits, cast_is}
use Rattle.writers.specs.Written.{row_limit, term_limit}
use Rattle.writers.proofs.surface.add_line.Given as goal

-- sum j raised by y times the entry of the line
abbrev pub raised_to : List ℤ → ℕ → ℤ → List ℤ → ℕ → ℤ
raised_to w line y sums₀ j = slot sums₀ j +ℤ y *ℤ slot w (line + j)

pub record Invariant (w : List ℤ) (line : ℕ) (y : ℤ) (sums₀ : List ℤ) (j : ℕ) (sums : List ℤ) : Type 0 where
  pub line-inside : line + length sums₀ ≤ length w
  pub small : Small w
  pub factor : nat_abs y ≤ row_limit
  pub headroom : (t : ℕ) → t < length sums₀ → nat_abs (slot sums₀ t) + term_limit < 2 ^ 63
  pub passed : (t : ℕ) → t < j → slot sums t ≡ raised_to w line y sums₀ t
  pub left : (t : ℕ) → j ≤ t → slot sums t ≡ slot sums₀ t

module _ {w : List ℤ} {line : ℕ} {y : ℤ} {sums₀ : List ℤ} {j : ℕ} {sums : List ℤ} (inv : Invariant w line y sums₀ j sums) (more : j < length sums₀) where
  abbrev pub x : ℤ
  x = slot w (line + j)

  -- the product and the sum as the machine computes them
  abbrev pub product : ℤ
  product = y *ℤ read w64 (read w32 x)

  abbrev pub raised : ℤ
  raised = read w64 (slot sums j) +ℤ read w64 product

  product_is : product ≡ y *ℤ x
  product_is = rw (cast_is x (entry-fits x (inv.small.bound (line + j))))

  product_small : nat_abs (y *ℤ x) ≤ term_limit
  product_small = rw (nat_abs_mul y x) (mul-le-mul inv.factor (inv.small.bound (line + j)))

  pub product-fits : SFits w64 product
  product-fits = rw product_is (sfits-below w64 (y *ℤ x) (omega (arith, product_small)))

  before-is : read w64 (slot sums j) ≡ slot sums₀ j
  before-is = ap (read w64) (inv.left j (omega arith)) ∙ to_z-of_z (sfits-below w64 (slot sums₀ j) (omega (arith, inv.headroom j more)))

  pub raised_is : raised ≡ raised_to w line y sums₀ j
  raised_is = rw (before-is, to_z-of_z product-fits, product_is)

  pub raised-fits : SFits w64 raised
  raised-fits =
      rw raised_is
      (sfits-below w64 (raised_to w line y sums₀ j) (omega (arith, nat_abs-add (slot sums₀ j) (y *ℤ x), product_small, inv.headroom j more)))

abbrev pub invariant-loop-j : goal.invariant-loop-j
invariant-loop-j l = Invariant l.w l.at l.y l.initial.sums l.j l.sums
