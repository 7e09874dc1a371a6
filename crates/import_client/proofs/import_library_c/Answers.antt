-- `import_library_c` meets its contract.
use Rattle.limits.specs.Limits.{library_limit}
use Rattle.imports.specs.Examples.{done-imports}
use Rattle.import_client.proofs.Cases.{used}
use Rattle.import_client.proofs.import_library_c.Goals as goal

pub returns : goal.returns
returns c =
    let told = c.fildwuk_library_import.ensures in
    used library_limit done-imports.hollow-done done-imports.point-done told.number_is told.output-is
