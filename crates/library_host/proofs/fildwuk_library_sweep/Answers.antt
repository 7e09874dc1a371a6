-- `library_host::fildwuk_library_sweep` meets its contract: the sweep, told by its number.
use Rattle.refusal.proofs.Told.{answers-told}
use Rattle.library_host.proofs.fildwuk_library_sweep.Goals as goal

pub returns : goal.returns
returns c = answers-told c.sweep.ensures c.number_told.ensures
