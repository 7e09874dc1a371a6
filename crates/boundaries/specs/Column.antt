-- A column of a product in a slice.
use Rattle.std.specs.Prelude.{◌≡◌, ◌⊎◌, List, ℕ, ◌<◌, ◌≤◌, length, get_or, ℤ, nat_abs, ◌*ℤ◌, Result, Ok, Err}
use Rattle.matrices.specs.Sum.{sum}
use Rattle.matrices.specs.Matrix as theory
use Rattle.complexes.specs.Boundary.{sign}
use Rattle.matrix_lines.specs.Slice.{entry_limit, Bounded, Covered}
use Rattle.matrix_lines.specs.Matrices.{contents}
use Rattle.matrix_lines.specs.declared.matrix.Matrix.{Matrix}
use Rattle.matrix_lines.specs.declared.line.TooWide.{TooWide}
use Rattle.boundaries.specs.Filled.{ColumnFilled}

-- the matrix whose every column is that of the slice's matrix q times the column with sign t in row places[t], for t below `faces`, and 0 elsewhere
abbrev pub at_places : Matrix → List ℤ → List ℕ → ℕ → theory.Matrix
at_places q w places faces i j = sum faces (λ t. contents q w i (get_or places t 0) *ℤ sign t)

-- n is the absolute value of an entry of column j of A
pub record ColumnEntry (M : Matrix) (A : theory.Matrix) (j n : ℕ) : Type 0 where
  pub line : ℕ
  pub line-below : line < M.lines
  pub is : n ≡ nat_abs (A line j)

-- Column j of M holds column j of A. x is the largest absolute value that was written, with that column: it covers every entry that differs, and is the
-- one before or that of an entry of the column.
pub record ColumnHolds (M : Matrix) (w : List ℤ) (A : theory.Matrix) (j before x : ℕ) (w' : List ℤ) : Type 0 where
  pub filled : ColumnFilled M w A j w'
  pub bounded : Bounded x w'
  pub above : before ≤ x
  pub covered : Covered w w' x
  pub wrote : (x ≡ before) ⊎ ColumnEntry M A j x

-- some entry of column j of A lies beyond the limit
pub record ColumnExceeds (M : Matrix) (w : List ℤ) (A : theory.Matrix) (j : ℕ) (w' : List ℤ) : Type 0 where
  pub same_length : length w' ≡ length w
  pub line : ℕ
  pub line-below : line < M.lines
  pub beyond : entry_limit < nat_abs (A line j)

-- what making column j of A answers and leaves
abbrev pub ColumnBecame : Matrix → List ℤ → theory.Matrix → ℕ → ℕ → Result ℕ TooWide → List ℤ → Type 0
ColumnBecame M w A j before (Ok x) w' = ColumnHolds M w A j before x w'
ColumnBecame M w A j before (Err _) w' = ColumnExceeds M w A j w'
