-- `use_host_lists` meets its contract.
use Rattle.clients.proofs.Cases.{host-lists-used}
use Rattle.clients.proofs.use_host_lists.Goals as goal

pub returns : goal.returns
returns c = let a = c.fildwuk_coordinate_lists.ensures in host-lists-used a.is
