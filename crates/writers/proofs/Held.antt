-- The matrices of a workspace lie within the slice: `matrix-held`, `row-inverse-held`, `row-follower-held`, `column-follower-held`.
use Prim.Native.Nat.{ℕ}
use native.Mathlib.Omega.{arith}
use Rattle.matrix_lines.specs.Matrices.{Held}
use Rattle.operations.specs.Laid.{Laid}
use Rattle.operations.specs.declared.workspace.Workspace.{Workspace}

module _ {n : ℕ} {W : Workspace} (laid : Laid n W) where
  pub row-follower-held : Held n W.row_follower
  row-follower-held = record { ends = omega arith }

  pub column-follower-held : Held n W.column_follower
  column-follower-held = record { ends = omega arith }

  pub row-inverse-held : Held n W.row_inverse
  row-inverse-held = record { ends = omega arith }

  pub matrix-held : Held n W.matrix
  matrix-held = record { ends = omega arith }
