-- `use_host_coordinates` meets its contract.
use Rattle.clients.proofs.Cases.{host-coordinates-used}
use Rattle.clients.proofs.use_host_coordinates.Goals as goal

pub returns : goal.returns
returns c = let a = c.fildwuk_coordinates.ensures in host-coordinates-used a.is
