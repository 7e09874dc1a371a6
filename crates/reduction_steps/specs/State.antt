-- What a reduction works on: a matrix and its companions, and an operation with the check of the entry limit. Document 01, "The reduction".
use Rattle.std.specs.Prelude.{Bool, cond, ℕ, max, leb}
use Rattle.matrices.specs.Operation.{Operation, inverse}
use Rattle.reduction_steps.specs.Table.{Table, table_largest}
use Rattle.reduction_steps.specs.Lines.{on_lines, on_entries}

-- The rows and columns of the matrix, and the length of a line of each companion. A companion that is absent has lines of length 0.
pub record Sizes : Type 0 where
  pub rows : ℕ
  pub columns : ℕ
  pub row_follower : ℕ
  pub row_inverse : ℕ
  pub column_follower : ℕ
  pub column_inverse : ℕ

-- The matrix, by rows. Its companions: one that undergoes the row operations, by rows (Q in document 01); one whose columns undergo their inverses, by
-- columns (G); one that undergoes the column operations, by columns (V); one whose rows undergo their inverses, by rows (the inverse of V). In a
-- companion by columns, line i is column i. The peak: the largest absolute value that an entry of these has had so far.
pub record State : Type 0 where
  pub matrix : Table
  pub row_follower : Table
  pub row_inverse : Table
  pub column_follower : Table
  pub column_inverse : Table
  pub peak : ℕ

-- the largest absolute value of an entry of the matrix and its companions
unfoldable pub largest : State → ℕ
largest s =
    max (table_largest s.matrix)
    (max (table_largest s.row_follower)
    (max (table_largest s.row_inverse) (max (table_largest s.column_follower) (table_largest s.column_inverse))))

-- the peak takes in the entries that stand there now
abbrev pub noted : State → State
noted s =
    record {
      matrix = s.matrix;
      row_follower = s.row_follower;
      row_inverse = s.row_inverse;
      column_follower = s.column_follower;
      column_inverse = s.column_inverse;
      peak = max s.peak (largest s);
    }

-- an operation on the rows of the matrix
unfoldable pub row_operation : Sizes → Operation → State → State
row_operation z op s =
    noted (record {
      matrix = on_lines z.columns op s.matrix;
      row_follower = on_lines z.row_follower op s.row_follower;
      row_inverse = on_lines z.row_inverse (inverse op) s.row_inverse;
      column_follower = s.column_follower;
      column_inverse = s.column_inverse;
      peak = s.peak;
    })

-- an operation on the columns of the matrix
unfoldable pub column_operation : Sizes → Operation → State → State
column_operation z op s =
    noted (record {
      matrix = on_entries op s.matrix;
      row_follower = s.row_follower;
      row_inverse = s.row_inverse;
      column_follower = on_lines z.column_follower op s.column_follower;
      column_inverse = on_lines z.column_inverse (inverse op) s.column_inverse;
      peak = s.peak;
    })

-- every entry of the matrix and of its companions lies within the limit
unfoldable pub within : ℕ → State → Bool
within limit s = leb (largest s) limit

-- what an operation answers
pub data Outcome : Type 0 where
  too_wide : Outcome
  made : State → Outcome

-- what an operation has made, if every entry lies within the limit
unfoldable pub checked : ℕ → State → Outcome
checked limit s = cond (within limit s) (made s) too_wide

-- one operation, then the next work on what it made
unfoldable pub and_then : Outcome → (State → Outcome) → Outcome
and_then too_wide next = too_wide
and_then (made s) next = next s

-- one operation on the rows, then the check of the limit; the same on the columns
unfoldable pub on_row : ℕ → Sizes → Operation → State → Outcome
on_row limit z op s = checked limit (row_operation z op s)

unfoldable pub on_column : ℕ → Sizes → Operation → State → Outcome
on_column limit z op s = checked limit (column_operation z op s)
