-- `use_library_headroom` meets its contract.
use Rattle.clients.proofs.Cases.{report-used, numbers, headroom-used}
use Rattle.clients.proofs.use_library_headroom.Goals as goal

pub returns : goal.returns
returns c = let a = c.fildwuk_library_headroom.ensures in (report-used (λ called e. numbers a.answers.is e), headroom-used a.headroom)
