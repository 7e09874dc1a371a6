-- `use_coordinates` meets its contract.
use Rattle.clients.proofs.Cases.{coordinates-used, gives}
use Rattle.clients.proofs.use_coordinates.Goals as goal

pub returns : goal.returns
returns c = let a = c.coordinates.ensures in coordinates-used (λ called e. gives a.is e)
