-- `line::subtract` meets its contract. The invariant: the blocks passed hold the difference, with the largest that was written so far.
use Prim.Native.Nat.{◌*◌}
use Rattle.matrix_lines.specs.Slice.{block}
use Rattle.matrix_lines.proofs.Blocks.{Partly}
use Rattle.matrix_lines.proofs.line.subtract.Given as goal

abbrev pub invariant-loop-b : goal.invariant-loop-b
invariant-loop-b l = Partly l.initial.w l.target l.source l.width l.q l.before (l.b * block) l.largest l.w
