-- `fildwuk_library_report` meets its contract: it answers the number of what the library's call answers.
use Rattle.library_host.proofs.Told.{called-told}
use Rattle.library_host.proofs.fildwuk_library_report.Goals as goal

pub returns : goal.returns
returns c = called-told c.report.ensures c.number_told.ensures
