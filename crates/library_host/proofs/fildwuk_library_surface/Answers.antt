-- `fildwuk_library_surface` meets its contract: it answers the number of what the library's call answers.
use Rattle.library_host.proofs.Told.{called-told}
use Rattle.library_host.proofs.fildwuk_library_surface.Goals as goal

pub returns : goal.returns
returns c = called-told c.surface.ensures c.number_told.ensures
