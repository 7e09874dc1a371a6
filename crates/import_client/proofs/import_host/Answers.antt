-- `import_host` meets its contract.
use Rattle.limits.specs.Limits.{host_limit}
use Rattle.imports.specs.Examples.{done-imports}
use Rattle.import_client.proofs.Cases.{used}
use Rattle.import_client.proofs.import_host.Goals as goal

pub returns : goal.returns
returns c = let told = c.fildwuk_import.ensures in used host_limit done-imports.hollow-host-done done-imports.point-host-done told.number_is told.output-is
