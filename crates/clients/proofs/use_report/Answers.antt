-- `use_report` meets its contract.
use Rattle.clients.proofs.Cases.{report-used, gives}
use Rattle.clients.proofs.use_report.Goals as goal

pub returns : goal.returns
returns c = let a = c.report.ensures in report-used (λ called e. gives a.is e)
