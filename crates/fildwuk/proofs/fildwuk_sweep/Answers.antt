-- `fildwuk::fildwuk_sweep` meets its contract: the sweep at the limit of the host calls, told by its number.
use Rattle.refusal.proofs.Told.{answers-told}
use Rattle.fildwuk.proofs.fildwuk_sweep.Goals as goal

pub returns : goal.returns
returns c = rw c.host.ensures at (answers-told c.sweep_at.ensures c.number_told.ensures)
