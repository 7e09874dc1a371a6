-- `use_library_report` meets its contract.
use Rattle.clients.proofs.Cases.{report-used, numbers}
use Rattle.clients.proofs.use_library_report.Goals as goal

pub returns : goal.returns
returns c = let a = c.fildwuk_library_report.ensures in report-used (λ called e. numbers a.is e)
