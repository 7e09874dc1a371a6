-- A state whose rows and columns before k are finished: `Done`. Each operation with indices from k on keeps it (done-rows, done-columns).
use mathlib.Core.Path.{sym, subst}
use Prim.Native.Nat.{ℕ}
use Rattle.matrices.specs.Matrix.{Matrix}
use Rattle.matrices.specs.Operation.{Operation}
use Rattle.matrices.specs.Within.{Within}
use Rattle.reduction_steps.specs.Table.{entry}
use Rattle.reduction_steps.specs.State.{Sizes, State, row_operation, column_operation}
use Rattle.reduction_laws.specs.StageLaws.{From, RowsDone, ColumnsDone, rows_done-rows, rows_done-columns, columns_done-rows, columns_done-columns}
use Rattle.reduction_laws.specs.Shape.{Shaped, shaped-rows, shaped-columns, matrix-rows, matrix-columns}

pub record Done (z : Sizes) (k : ℕ) (s : State) : Type 0 where
  pub shaped : Shaped z s
  pub rows : RowsDone z.columns k (entry s.matrix)
  pub columns : ColumnsDone z.rows k (entry s.matrix)

module _ {z : Sizes} {k : ℕ} {s : State} (op : Operation) (f : From k op) (h : Done z k s) where
  pub done-rows : Within z.rows op → Done z k (row_operation z op s)
  done-rows w = record {
    shaped = shaped-rows op h.shaped;
    rows = subst (λ (A : Matrix). RowsDone z.columns k A) (sym (matrix-rows op h.shaped w)) (rows_done-rows op f h.rows);
    columns = subst (λ (A : Matrix). ColumnsDone z.rows k A) (sym (matrix-rows op h.shaped w)) (columns_done-rows op f w h.columns);
  }

  pub done-columns : Within z.columns op → Done z k (column_operation z op s)
  done-columns w = record {
    shaped = shaped-columns op h.shaped;
    rows = subst (λ (A : Matrix). RowsDone z.columns k A) (sym (matrix-columns op h.shaped w)) (rows_done-columns op f w h.rows);
    columns = subst (λ (A : Matrix). ColumnsDone z.rows k A) (sym (matrix-columns op h.shaped w)) (columns_done-columns op f h.columns);
  }
