-- `product::line_product` meets its contract. The invariant: the total is the sum of the first t terms.
use mathlib.Core.Path.{◌≡◌}
use mathlib.Core.List.{List}
use Prim.Native.Nat.{ℕ, ◌≤◌}
use lib.IntN.{ℤ}
use Rattle.matrices.specs.Sum.{sum}
use Rattle.boundaries.proofs.Products.{signed}
use Rattle.boundaries.proofs.product.line_product.Given as goal

pub record Invariant (w : List ℤ) (line : ℕ) (places : List ℕ) (faces t : ℕ) (total : ℤ) : Type 0 where
  pub so_far : t ≤ faces → total ≡ sum t (signed w line places)
  pub all : faces ≤ t → total ≡ sum faces (signed w line places)

abbrev pub invariant-loop-t : goal.invariant-loop-t
invariant-loop-t l = Invariant l.w l.line l.fn.places l.faces l.t l.total
