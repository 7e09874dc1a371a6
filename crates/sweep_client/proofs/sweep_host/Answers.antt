-- `sweep_host` meets its contract.
use Rattle.limits.specs.Limits.{host_limit}
use Rattle.sweeps.specs.Examples.{sweeps}
use Rattle.sweep_client.proofs.Cases.{used}
use Rattle.sweep_client.proofs.sweep_host.Goals as goal

pub returns : goal.returns
returns c =
    let told = c.fildwuk_sweep.ensures in used host_limit sweeps.loose-host-done sweeps.loose-host-short sweeps.face-host-told told.number_is told.output-is
