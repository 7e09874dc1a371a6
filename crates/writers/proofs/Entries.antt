-- The entries of a matrix in a slice, as those of the table of its lines: `entry-lines`, and 0 past a line's end: `entry-lines-past`.
use mathlib.Core.Path.{◌≡◌}
use mathlib.Core.List.{List}
use Prim.Native.Nat.{ℕ, ◌<◌, ◌≤◌}
use lib.IntN.{ℤ, pos}
use Rattle.reduction_steps.specs.Table.{entry}
use Rattle.reduction_laws.specs.Tables.{entry-table, entry-table-right}
use Rattle.matrix_lines.specs.Matrices.{contents}
use Rattle.matrix_lines.specs.declared.matrix.Matrix.{Matrix}
use Rattle.operations.specs.Laid.{lines_of}

module _ (M : Matrix) (w : List ℤ) (i j : ℕ) where
  pub entry-lines : i < M.lines → j < M.width → entry (lines_of M w) i j ≡ contents M w i j
  unfolding lines_of
  entry-lines = entry-table M.lines M.width (contents M w) i j

  pub entry-lines-past : M.width ≤ j → entry (lines_of M w) i j ≡ pos 0
  unfolding lines_of
  entry-lines-past = entry-table-right M.lines M.width (contents M w) i j
