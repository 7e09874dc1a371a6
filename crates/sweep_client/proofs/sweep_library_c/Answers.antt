-- `sweep_library_c` meets its contract.
use Rattle.limits.specs.Limits.{library_limit}
use Rattle.sweeps.specs.Examples.{sweeps}
use Rattle.sweep_client.proofs.Cases.{used}
use Rattle.sweep_client.proofs.sweep_library_c.Goals as goal

pub returns : goal.returns
returns c =
    let told = c.fildwuk_library_sweep.ensures in used library_limit sweeps.loose-done sweeps.loose-short sweeps.face-told told.number_is told.output-is
