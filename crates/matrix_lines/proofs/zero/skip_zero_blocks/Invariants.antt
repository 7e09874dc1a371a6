-- `zero::skip_zero_blocks` meets its contract. The invariant: the places passed are 0.
use Prim.Native.Nat.{◌+◌, ◌*◌}
use Rattle.matrix_lines.specs.Slice.{block, ZerosTo}
use Rattle.matrix_lines.proofs.zero.skip_zero_blocks.Given as goal

abbrev pub invariant-loop-b : goal.invariant-loop-b
invariant-loop-b l = ZerosTo l.w l.at l.from l.width (l.from + l.b * block)
