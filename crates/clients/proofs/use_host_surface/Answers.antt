-- `use_host_surface` meets its contract.
use Rattle.clients.proofs.Cases.{host-surface-used}
use Rattle.clients.proofs.use_host_surface.Goals as goal

pub returns : goal.returns
returns c = let a = c.fildwuk_surface.ensures in host-surface-used a.is
