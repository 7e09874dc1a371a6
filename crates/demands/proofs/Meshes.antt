-- The claims on the import.
use mathlib.Core.Path.{ap}
use Rattle.trials.specs.Trial.{number_told}
use Rattle.closures.proofs.ClosureLaws.{closure-unique}
use Rattle.mesh_format.proofs.Accept.{mesh-unique}
use Rattle.imports.specs.Import.{complex_of}
use Rattle.imports.proofs.ImportLaws.{import-malformed, import-faulty, mesh-cells, import-too-long, import-done, import-left}
use Rattle.imports.proofs.SheetLaws.{import-sheet, import-number, import-sweeps}
use Rattle.demands.specs.Meshes.{ImportMalformed, MeshesUnique, ImportFaulty, MeshCells, MeshCellsUnique, ImportTooLong, ImportDone, ImportSweeps, ImportLeft, ImportSheet, HostImportSheet}

pub import_malformed : ImportMalformed
import_malformed = import-malformed

pub meshes_unique : MeshesUnique
meshes_unique = mesh-unique

pub import_faulty : ImportFaulty
import_faulty = import-faulty

pub mesh_cells : MeshCells
mesh_cells m r = record { cells = complex_of m.elements; are = mesh-cells m r }

pub mesh_cells_unique : MeshCellsUnique
mesh_cells_unique m K L = closure-unique

pub import_too_long : ImportTooLong
import_too_long = import-too-long

pub import_done : ImportDone
import_done limit text sheet m is-text right K is short = ap (λ c. number_told c.answer) (import-done limit text sheet m is-text right K is short)

pub import_sweeps : ImportSweeps
import_sweeps limit small text sheet m is-text right K is short = import-sweeps limit small text sheet m is-text right K is short

pub import_left : ImportLeft
import_left = import-left

pub import_sheet : ImportSheet
import_sheet limit small text sheet = import-sheet limit small text sheet

pub host_import_sheet : HostImportSheet
host_import_sheet limit small text sheet = import-number limit small text sheet
