-- `clear_row` meets its contract. The invariant: what is left of the column pass from the present state is the whole pass from the start. The
-- measure is how many columns are left. A column whose entry is 0 is passed over (`columns-first`).
use Prim.Native.Nat.{◌-◌}
use Rattle.passes.proofs.Passes.{ColumnPassing}
use Rattle.passes.proofs.pass.clear_row.Given as goal

abbrev pub invariant-loop-j : goal.invariant-loop-j
invariant-loop-j l = ColumnPassing l.workspace l.k l.peak l.initial.w l.j l.reached l.w

abbrev pub decreases-loop-j : goal.decreases-loop-j
decreases-loop-j l = l.workspace.matrix.width - l.j
