-- `answer_all` is safe and ends: the measure is what is left of the input.
use Rattle.std.proofs.Common.{length}
use Rattle.sheet_cases.proofs.answer_all.Given as goal

abbrev pub decreases-loop-length : goal.decreases-loop-length
decreases-loop-length g l = length l.rest
