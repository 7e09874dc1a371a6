-- `divides::divides` meets its contract: the absolute values are divided.
use Rattle.std.proofs.Common.{rules}
use borrow.Author.Tests.{tests}
use Rattle.integers.specs.Division.{divides}
use Rattle.numbers.proofs.divides.divides.Goals as goal

pub returns : goal.returns
unfolding divides
returns c = search (rules, tests)
