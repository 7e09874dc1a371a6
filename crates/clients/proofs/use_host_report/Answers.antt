-- `use_host_report` meets its contract.
use Rattle.clients.proofs.Cases.{host-report-used}
use Rattle.clients.proofs.use_host_report.Goals as goal

pub returns : goal.returns
returns c = let a = c.fildwuk_report.ensures in host-report-used a.is
