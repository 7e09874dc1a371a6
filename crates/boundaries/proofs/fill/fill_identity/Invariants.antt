-- `fill::fill_identity` meets its contract. The invariant: the lines passed are those of the identity. The measure is how many are left.
use mathlib.Core.List.{List}
use Prim.Native.Nat.{ℕ, ◌≤◌}
use lib.IntN.{ℤ}
use Rattle.matrices.specs.Matrix.{identity}
use Rattle.matrix_lines.specs.Matrices.{contents}
use Rattle.matrix_lines.specs.declared.matrix.Matrix.{Matrix}
use Rattle.matrix_lines.proofs.UpTo.{up_to}
use Rattle.boundaries.specs.Filled.{MatrixFilled}
use Rattle.boundaries.proofs.fill.fill_identity.Given as goal

-- the lines below i are those of the identity
pub record Invariant (M : Matrix) (w₀ : List ℤ) (w : List ℤ) (i : ℕ) : Type 0 where
  pub below : i ≤ M.lines
  pub so_far : MatrixFilled M w₀ (up_to i identity (contents M w₀)) w

abbrev pub invariant-loop-i : goal.invariant-loop-i
invariant-loop-i l = Invariant l.m l.initial.w l.w l.i
