-- How the matrix of a case and its companions lie in a slice: 64 slots for each.
use Rattle.std.specs.Prelude.{◌≡◌, ℕ, ◌+◌, ◌≤◌}
use Rattle.matrix_lines.specs.declared.matrix.Matrix.{Matrix}
use Rattle.operations.specs.declared.workspace.Workspace.{Workspace}
use Rattle.operations.specs.Laid.{Laid}

-- the most rows or columns
abbrev pub side : ℕ
side = 8

abbrev pub slots : ℕ
slots = 320

-- a companion at `place`
pub record Companion (place lines : ℕ) (m : Matrix) : Type 0 where
  pub at : m.at ≡ place
  pub count : m.lines ≡ lines
  pub width : m.width ≤ side

-- a matrix has room in the 64 slots from its place on
pub record Slotted (m : Matrix) : Type 0 where
  pub at : m.at + 64 ≤ slots
  pub lines : m.lines ≤ side
  pub width : m.width ≤ side

pub record LaidOut (W : Workspace) : Type 0 where
  pub laid : Laid slots W
  pub matrix : Slotted W.matrix
  pub row-inverse : Slotted W.row_inverse
  pub row-follower : Slotted W.row_follower
  pub column-follower : Slotted W.column_follower
  pub column-inverse : Slotted W.column_inverse
