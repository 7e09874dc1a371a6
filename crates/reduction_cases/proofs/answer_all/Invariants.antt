-- `answer_all` is safe and ends. The measure is what is left of the input.
use Rattle.std.proofs.Common.{length}
use Rattle.reduction_cases.proofs.answer_all.Given as goal

abbrev pub decreases-loop-rest : goal.decreases-loop-rest
decreases-loop-rest g l = length l.rest
