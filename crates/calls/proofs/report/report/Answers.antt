-- `report::report` meets its contract: the library's sheet has the library's limit.
use Rattle.calls.proofs.report.report.Goals as goal

pub returns : goal.returns
returns c = rw c.library.ensures at c.report_at.ensures
