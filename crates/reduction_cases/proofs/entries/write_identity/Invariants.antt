-- `entries::write_identity` meets its contract. The invariant: every slot lies within the limit.
use Rattle.matrix_lines.specs.Slice.{Small}
use Rattle.reduction_cases.proofs.entries.write_identity.Given as goal

abbrev pub invariant-loop-i : goal.invariant-loop-i
invariant-loop-i l = Small l.w
