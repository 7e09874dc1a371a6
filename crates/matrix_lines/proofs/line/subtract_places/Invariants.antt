-- `line::subtract_places` meets its contract. The invariant: the places passed hold the difference, and the largest so far is that of their absolute
-- values and the one handed over.
use Rattle.matrix_lines.proofs.Blocks.{Partly}
use Rattle.matrix_lines.proofs.line.subtract_places.Given as goal

abbrev pub invariant-loop-t : goal.invariant-loop-t
invariant-loop-t l = Partly l.initial.w l.target l.source l.width l.q l.before l.t l.largest l.w
