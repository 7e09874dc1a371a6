-- `zero::first_nonzero` meets its contract. The invariant: the places passed are 0.
use Rattle.matrix_lines.specs.Slice.{ZerosTo}
use Rattle.matrix_lines.proofs.zero.first_nonzero.Given as goal

abbrev pub invariant-loop-t : goal.invariant-loop-t
invariant-loop-t l = ZerosTo l.w l.at l.from l.width l.t
