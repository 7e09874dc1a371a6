-- `fildwuk::fildwuk_coordinates` meets its contract: the call on one chain is the single call.
use Rattle.requests.specs.Question.{asked}
use Rattle.host_calls.specs.HostListsLaws.{host-one-chain}
use Rattle.fildwuk.proofs.fildwuk_coordinates.Goals as goal

pub returns : goal.returns
returns c =
    let a = c.args in
    rw (host-one-chain (asked a.sheet.now a.dimension) a.chain.now a.coordinates.now) at c.fildwuk_coordinate_lists.ensures
