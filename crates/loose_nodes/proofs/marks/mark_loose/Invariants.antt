-- `mark_loose` meets its contract. The loop's invariant: of the first i vertices the loose ones are marked, and the other marks are as they were.
use Rattle.sheet_format.specs.Check.{sections_of}
use Rattle.loose_nodes.proofs.Marking.{Marking}
use Rattle.loose_nodes.proofs.marks.mark_loose.Given as goal

abbrev pub invariant-loop-i : goal.invariant-loop-i
invariant-loop-i l = Marking (sections_of l.s) l.initial.marks l.i l.marks
