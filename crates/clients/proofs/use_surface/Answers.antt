-- `use_surface` meets its contract.
use Rattle.clients.proofs.Cases.{surface-used, gives}
use Rattle.clients.proofs.use_surface.Goals as goal

pub returns : goal.returns
returns c = let a = c.surface.ensures in surface-used (λ called e. gives a.is e)
