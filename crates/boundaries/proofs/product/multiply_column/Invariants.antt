-- `product::multiply_column` meets its contract. The invariant: the entries of the column in the lines passed are those of the product, and the
-- largest so far is that of their absolute values and the one handed over.
use mathlib.Core.Path.{◌≡◌}
use mathlib.Core.Logic.{◌⊎◌}
use mathlib.Core.List.{List}
use Prim.Native.Nat.{ℕ, ◌<◌, ◌≤◌}
use lib.IntN.{ℤ, nat_abs}
use Rattle.matrix_lines.specs.Slice.{Bounded, Covered}
use Rattle.matrix_lines.specs.Matrices.{contents}
use Rattle.matrix_lines.specs.declared.matrix.Matrix.{Matrix}
use Rattle.matrix_lines.proofs.UpTo.{up_to}
use Rattle.boundaries.specs.Filled.{ColumnFilled}
use Rattle.boundaries.specs.Column.{at_places}
use Rattle.boundaries.proofs.product.multiply_column.Given as goal

-- n is the absolute value of an entry of a line below i
pub record Reached (q : Matrix) (w₀ : List ℤ) (j : ℕ) (places : List ℕ) (faces i n : ℕ) : Type 0 where
  pub line : ℕ
  pub below : line < i
  pub is : n ≡ nat_abs (at_places q w₀ places faces line j)

pub record Invariant (q M : Matrix) (w₀ : List ℤ) (j : ℕ) (places : List ℕ) (faces largest₀ : ℕ) (w : List ℤ) (largest i : ℕ) : Type 0 where
  pub below : i ≤ M.lines
  pub so_far : ColumnFilled M w₀ (up_to i (at_places q w₀ places faces) (contents M w₀)) j w
  pub bounded : Bounded largest w
  pub above : largest₀ ≤ largest
  pub covered : Covered w₀ w largest
  pub wrote : (largest ≡ largest₀) ⊎ Reached q w₀ j places faces i largest

abbrev pub invariant-loop-i : goal.invariant-loop-i
invariant-loop-i l = Invariant l.q l.m l.initial.w l.j l.places l.faces l.before l.w l.largest l.i
