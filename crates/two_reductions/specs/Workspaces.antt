-- Where the matrices of the two reductions of a dimension stand in the work slice. In dimension p, `cells` is n_p, `rows` is n_(p-1) and `columns`
-- is n_(p+1); `kept` is the length of a line of the transform of the columns of the second, 0 where it is absent.
use Rattle.std.specs.Prelude.{ℕ, ◌+◌, ◌*◌, ◌-◌, max}
use Rattle.matrix_lines.specs.declared.matrix.Matrix.{Matrix}
use Rattle.operations.specs.declared.workspace.Workspace.{Workspace}

abbrev pub matrix_at : ℕ → ℕ → ℕ → Matrix
matrix_at at lines width = record { at = at; lines = lines; width = width }

unfoldable pub first_workspace : ℕ → ℕ → ℕ → Workspace
first_workspace cells rows columns =
    record {
      matrix = matrix_at 0 rows cells;
      row_inverse = matrix_at (cells * max rows columns) rows 0;
      row_follower = matrix_at (cells * max rows columns) rows 0;
      column_follower = matrix_at (cells * max rows columns) cells cells;
      column_inverse = matrix_at (cells * max rows columns + cells * cells) cells cells;
    }

unfoldable pub second_workspace : ℕ → ℕ → ℕ → ℕ → ℕ → Workspace
second_workspace cells rows columns kept rank =
    record {
      matrix = matrix_at 0 (cells - rank) columns;
      row_inverse = matrix_at (cells * max rows columns + rank * cells) (cells - rank) cells;
      row_follower = matrix_at (cells * max rows columns + cells * cells + rank * cells) (cells - rank) cells;
      column_follower = matrix_at (cells * max rows columns + 2 * (cells * cells)) columns kept;
      column_inverse = matrix_at (cells * max rows columns + 2 * (cells * cells) + columns * kept) columns 0;
    }
