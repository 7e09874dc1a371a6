-- `library_host::fildwuk_library_import` meets its contract: the import, told by its number.
use Rattle.refusal.proofs.Told.{answers-told}
use Rattle.library_host.proofs.fildwuk_library_import.Goals as goal

pub returns : goal.returns
returns c = answers-told c.import.ensures c.number_told.ensures
