-- `use_library_lists` meets its contract.
use Rattle.clients.proofs.Cases.{lists-used, numbers}
use Rattle.clients.proofs.use_library_lists.Goals as goal

pub returns : goal.returns
returns c = let a = c.fildwuk_library_coordinate_lists.ensures in lists-used (λ called e. numbers a.is e)
