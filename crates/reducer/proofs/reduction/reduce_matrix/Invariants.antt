-- `reduce_matrix` meets its contract. The invariant: the machine has come from letter a of stage 0 to letter a of stage k. The measure counts the stages
-- that are left, and within a stage the absolute value of the entry to be chosen.
use Rattle.reduction_steps.specs.Pivot.{pivot_rule}
use Rattle.reducer.proofs.Reductions.{Reducing, stages_left}
use Rattle.reducer.proofs.reduction.reduce_matrix.Given as goal

abbrev pub invariant-loop-reached : goal.invariant-loop-reached
invariant-loop-reached l = Reducing pivot_rule l.workspace l.peak l.initial.w l.k l.largest l.w

abbrev pub decreases-loop-reached : goal.decreases-loop-reached
decreases-loop-reached l = stages_left pivot_rule l.workspace l.k l.w
