-- `use_print_input` meets its contract.
use Rattle.clients.proofs.Cases.{print-used}
use Rattle.clients.proofs.use_print_input.Goals as goal

pub returns : goal.returns
returns c = let a = c.print_input.ensures in print-used a
