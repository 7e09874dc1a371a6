-- `use_library_surface` meets its contract.
use Rattle.clients.proofs.Cases.{surface-used, numbers}
use Rattle.clients.proofs.use_library_surface.Goals as goal

pub returns : goal.returns
returns c = let a = c.fildwuk_library_surface.ensures in surface-used (λ called e. numbers a.is e)
