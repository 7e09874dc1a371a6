-- How the matrix of a reduction and its companions lie in the slice, and what an operation on them answers.
use Rattle.std.specs.Prelude.{◌≡◌, List, ◌⊎◌, ℕ, ◌≤◌, max, ℤ, Result, Ok, Err}
use Rattle.matrices.specs.Operation.{Operation, inverse}
use Rattle.reduction_steps.specs.Table.{Table, table}
use Rattle.reduction_steps.specs.State.{Sizes, State, Outcome, made, too_wide, on_row, on_column}
use Rattle.matrix_lines.specs.Slice.{entry_limit, Under, Bounded, Covered}
use Rattle.matrix_lines.specs.Matrices.{end, contents, EntryOf}
use Rattle.elementary_operations.specs.Operations.{Writes, OnLines}
use Rattle.matrix_lines.specs.declared.matrix.Matrix.{Matrix}
use Rattle.matrix_lines.specs.declared.line.TooWide.{TooWide}
use Rattle.operations.specs.declared.workspace.Workspace.{Workspace}

-- The five matrices follow one another in a slice of length n, gaps allowed. The companions of the row operations have a line for each row of
-- the matrix, those of the column operations one for each column.
pub record Laid (n : ℕ) (W : Workspace) : Type 0 where
  pub row-inverse-lines : W.row_inverse.lines ≡ W.matrix.lines
  pub row-follower-lines : W.row_follower.lines ≡ W.matrix.lines
  pub column-follower-lines : W.column_follower.lines ≡ W.matrix.width
  pub column-inverse-lines : W.column_inverse.lines ≡ W.matrix.width
  pub after-matrix : end W.matrix ≤ W.row_inverse.at
  pub after-row-inverse : end W.row_inverse ≤ W.row_follower.at
  pub after-row-follower : end W.row_follower ≤ W.column_follower.at
  pub after-column-follower : end W.column_follower ≤ W.column_inverse.at
  pub after-column-inverse : end W.column_inverse ≤ n

-- the sizes of the state
abbrev pub sizes_of : Workspace → Sizes
sizes_of W =
    record {
      rows = W.matrix.lines;
      columns = W.matrix.width;
      row_follower = W.row_follower.width;
      row_inverse = W.row_inverse.width;
      column_follower = W.column_follower.width;
      column_inverse = W.column_inverse.width;
    }

-- a matrix as the list of its lines
unfoldable pub lines_of : Matrix → List ℤ → Table
lines_of M w = table M.lines M.width (contents M w)

-- the state that the slice w holds, with the peak so far
abbrev pub state_of : Workspace → ℕ → List ℤ → State
state_of W peak w =
    record {
      matrix = lines_of W.matrix w;
      row_follower = lines_of W.row_follower w;
      row_inverse = lines_of W.row_inverse w;
      column_follower = lines_of W.column_follower w;
      column_inverse = lines_of W.column_inverse w;
      peak = peak;
    }

-- ---- what an operation answers and leaves

-- what it has come to: the state that it made, with the larger one of the peak before and the answer, or too wide
abbrev pub outcome_of : Workspace → ℕ → Result ℕ TooWide → List ℤ → Outcome
outcome_of W peak (Ok x) w' = made (state_of W (max peak x) w')
outcome_of W peak (Err e) w' = too_wide

-- n is the absolute value of an entry of w, which an operation on the rows writes in the matrix, its follower or its inverse companion
abbrev pub RowEntry : Workspace → Operation → List ℤ → ℕ → Type 0
RowEntry W op w n =
    EntryOf W.matrix (λ i j. Writes op i) (contents W.matrix w) n
    ⊎ (EntryOf W.row_follower (λ i j. Writes op i) (contents W.row_follower w) n
    ⊎ EntryOf W.row_inverse (λ i j. Writes (inverse op) i) (contents W.row_inverse w) n)

-- the same of an operation on the columns
abbrev pub ColumnEntry : Workspace → Operation → List ℤ → ℕ → Type 0
ColumnEntry W op w n =
    EntryOf W.matrix (λ i j. Writes op j) (contents W.matrix w) n
    ⊎ (EntryOf W.column_follower (λ i j. Writes op i) (contents W.column_follower w) n
    ⊎ EntryOf W.column_inverse (λ i j. Writes (inverse op) i) (contents W.column_inverse w) n)

-- The largest absolute value that was written, x: it covers every entry that differs, and is 0 or that of an entry that the operation writes. Every
-- entry lies within the limit.
pub record Wrote (entry : List ℤ → ℕ → Type 0) (w : List ℤ) (x : ℕ) (w' : List ℤ) : Type 0 where
  pub bounded : Bounded x w'
  pub covered : Covered w w' x
  pub attained : (x ≡ 0) ⊎ entry w' x

abbrev pub Answered : (List ℤ → ℕ → Type 0) → List ℤ → Result ℕ TooWide → List ℤ → Type 0
Answered entry w (Ok x) w' = Wrote entry w x w'
Answered entry w (Err e) w' = Unit {0}

-- With a peak that bounds the slice, the operation's outcome is the one answered, and the slice holds the state that it made.
pub record Operated (W : Workspace) (outcome_at : ℕ → Outcome) (entry : List ℤ → ℕ → Type 0) (w : List ℤ) (r : Result ℕ TooWide) (w' : List ℤ) : Type 0 where
  pub outcome : (peak : ℕ) → Under peak w → outcome_of W peak r w' ≡ outcome_at peak
  pub answer : Answered entry w r w'

abbrev pub RowsOperated : Workspace → Operation → List ℤ → Result ℕ TooWide → List ℤ → Type 0
RowsOperated W op w r w' = Operated W (λ peak. on_row entry_limit (sizes_of W) op (state_of W peak w)) (RowEntry W op) w r w'

abbrev pub ColumnsOperated : Workspace → Operation → List ℤ → Result ℕ TooWide → List ℤ → Type 0
ColumnsOperated W op w r w' = Operated W (λ peak. on_column entry_limit (sizes_of W) op (state_of W peak w)) (ColumnEntry W op) w r w'

-- a follower F undergoes the operation and an inverse companion U its inverse: F goes too wide, or U comes to r after it
pub data Followed (F U : Matrix) (op : Operation) (before : ℕ) (w : List ℤ) : Result ℕ TooWide → List ℤ → Type 0 where
  stopped : {e : TooWide} {w' : List ℤ} → OnLines F w op before (Err e) w' → Followed F U op before w (Err e) w'
  followed :
      {x : ℕ} {w₁ : List ℤ} → OnLines F w op before (Ok x) w₁ → (r : Result ℕ TooWide) {w' : List ℤ} → OnLines U w₁ (inverse op) x r w'
      → Followed F U op before w r w'
