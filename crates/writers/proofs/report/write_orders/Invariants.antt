-- `report::write_orders` meets its contract. The invariant: the orders among the kinds of the rows passed stand in the report. The measure is
-- how many rows are left.
use mathlib.Core.List.{[], ◌∷◌}
use Rattle.writers.specs.Written.{kind_in}
use Rattle.writers.proofs.Writing.{Progress}
use Rattle.writers.proofs.report.write_orders.Given as goal

abbrev pub invariant-loop-i : goal.invariant-loop-i
invariant-loop-i l = Progress (kind_in l.m l.w) (λ k. kind_in l.m l.w k ∷ []) l.n l.from l.initial.report l.i l.next l.report
