-- A matrix in a slice, or a column of one, after its entries are written.
use Rattle.std.specs.Prelude.{◌≡◌, ◌≢◌, List, ℕ, ◌<◌, length, ℤ}
use Rattle.matrices.specs.Matrix.{Eq}
use Rattle.matrices.specs.Matrix as theory
use Rattle.integers.specs.Slot.{slot}
use Rattle.matrix_lines.specs.Matrices.{contents, Off}
use Rattle.matrix_lines.specs.declared.matrix.Matrix.{Matrix}

-- w' holds A where the matrix stands, and is w elsewhere
pub record MatrixFilled (M : Matrix) (w : List ℤ) (A : theory.Matrix) (w' : List ℤ) : Type 0 where
  pub same_length : length w' ≡ length w
  pub on : Eq M.lines M.width (contents M w') A
  pub off : (i : ℕ) → Off M i → slot w' i ≡ slot w i

-- w' is w but for column j of the matrix M, which holds column j of A
pub record ColumnFilled (M : Matrix) (w : List ℤ) (A : theory.Matrix) (j : ℕ) (w' : List ℤ) : Type 0 where
  pub same_length : length w' ≡ length w
  pub on : (i : ℕ) → i < M.lines → contents M w' i j ≡ A i j
  pub beside : (i k : ℕ) → i < M.lines → k < M.width → k ≢ j → contents M w' i k ≡ contents M w i k
  pub off : (i : ℕ) → Off M i → slot w' i ≡ slot w i
