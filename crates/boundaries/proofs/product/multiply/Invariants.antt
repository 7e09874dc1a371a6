-- `product::multiply` meets its contract. The invariant: the columns passed are those of the product, and the largest so far is that of their
-- absolute values.
use mathlib.Core.Path.{◌≡◌}
use mathlib.Core.Logic.{◌⊎◌}
use mathlib.Core.List.{List}
use Prim.Native.Nat.{ℕ, ◌<◌, ◌≤◌}
use lib.IntN.{ℤ, nat_abs}
use Rattle.complexes.specs.Complex.{Sections}
use Rattle.sheet_format.specs.Check.{sections_of}
use Rattle.matrix_lines.specs.Slice.{Bounded, Covered}
use Rattle.matrix_lines.specs.Matrices.{contents}
use Rattle.matrix_lines.specs.declared.matrix.Matrix.{Matrix}
use Rattle.boundaries.specs.Filled.{MatrixFilled}
use Rattle.boundaries.proofs.Columns.{left_of}
use Rattle.boundaries.proofs.Products.{product}
use Rattle.boundaries.proofs.product.multiply.Given as goal

-- n is the absolute value of an entry of a column below j
pub record Reached (K : Sections) (p : ℕ) (q M : Matrix) (w₀ : List ℤ) (j n : ℕ) : Type 0 where
  pub line : ℕ
  pub column : ℕ
  pub line-below : line < M.lines
  pub column-below : column < j
  pub is : n ≡ nat_abs (product K p q w₀ line column)

pub record Invariant (K : Sections) (p : ℕ) (q M : Matrix) (w₀ : List ℤ) (w : List ℤ) (largest j : ℕ) : Type 0 where
  pub below : j ≤ M.width
  pub so_far : MatrixFilled M w₀ (left_of j (product K p q w₀) (contents M w₀)) w
  pub bounded : Bounded largest w
  pub covered : Covered w₀ w largest
  pub wrote : (largest ≡ 0) ⊎ Reached K p q M w₀ j largest

abbrev pub invariant-loop-j : goal.invariant-loop-j
invariant-loop-j l = Invariant (sections_of l.s) l.p l.q l.m l.initial.w l.w l.largest l.j
