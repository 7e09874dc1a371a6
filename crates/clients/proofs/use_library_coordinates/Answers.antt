-- `use_library_coordinates` meets its contract.
use Rattle.clients.proofs.Cases.{coordinates-used, numbers}
use Rattle.clients.proofs.use_library_coordinates.Goals as goal

pub returns : goal.returns
returns c = let a = c.fildwuk_library_coordinates.ensures in coordinates-used (λ called e. numbers a.is e)
