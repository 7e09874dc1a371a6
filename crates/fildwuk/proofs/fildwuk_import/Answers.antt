-- `fildwuk::fildwuk_import` meets its contract: the import at the limit of the host calls, told by its number.
use Rattle.refusal.proofs.Told.{answers-told}
use Rattle.fildwuk.proofs.fildwuk_import.Goals as goal

pub returns : goal.returns
returns c = rw c.host.ensures at (answers-told c.import_at.ensures c.number_told.ensures)
