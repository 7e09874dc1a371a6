-- `put_dimensions` meets its contract. The loop's invariant: the texts of the dimensions passed stand behind what was put before.
use mathlib.Core.Path.{◌≡◌}
use Rattle.printer.proofs.Dimensions.{Printed}
use Rattle.printer.proofs.put_dimensions.Given as goal

abbrev pub invariant-loop-p : goal.invariant-loop-p
invariant-loop-p l =
    (l.out.out.ghost_name ≡ l.initial.out.out.ghost_name) × Printed l.s l.initial.out.out.now l.initial.out.at l.out.out.now l.out.at l.p
