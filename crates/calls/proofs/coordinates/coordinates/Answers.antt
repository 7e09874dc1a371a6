-- `coordinates::coordinates` meets its contract: the call on one chain is the single call.
use Rattle.requests.specs.Question.{asked}
use Rattle.requests.proofs.ListsLaws.{one-chain}
use Rattle.limits.specs.Limits.{library_limit}
use Rattle.calls.proofs.coordinates.coordinates.Goals as goal
use Rattle.calls.proofs.coordinates.coordinates.Goals.{After-coordinate_lists}

pub returns : goal.returns
returns c =
    let called = (goal.at.returns c).After-coordinate_lists in
    let a = called.args in
    rw (one-chain library_limit (asked a.s.now a.dimension) a.chain.now a.coordinates.now a.work.now) at called.coordinate_lists.ensures
