-- `clear_column` meets its contract. The invariant: what is left of the row pass from the present state is the whole pass from the start. The
-- measure is how many rows are left.
use Rattle.passes.proofs.Passes.{RowPassing}
use Rattle.passes.proofs.pass.clear_column.Given as goal

abbrev pub invariant-loop-i : goal.invariant-loop-i
invariant-loop-i l = RowPassing l.workspace l.k l.peak l.initial.w l.i l.largest l.w
