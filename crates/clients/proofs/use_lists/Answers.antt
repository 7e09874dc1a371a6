-- `use_lists` meets its contract.
use Rattle.clients.proofs.Cases.{lists-used, gives}
use Rattle.clients.proofs.use_lists.Goals as goal

pub returns : goal.returns
returns c = let a = c.coordinate_lists.ensures in lists-used (λ called e. gives a.is e)
