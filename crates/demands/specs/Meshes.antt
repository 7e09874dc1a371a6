-- Meshes straight from the mesher: document 02, Notes 3 and 7, for every text and slice.
use Rattle.std.specs.Prelude.{◌≡◌, ◌↔◌, ◌≢◌, true, false, List, ℕ, ◌≤◌, length}
use Rattle.limits.specs.Limits.{library_limit}
use Rattle.complexes.specs.Complex.{Sections}
use Rattle.sheet_format.specs.Layout.{layout}
use Rattle.sheet_format.specs.Written.{header_gives}
use Rattle.closures.specs.Closure.{element_top}
use Rattle.closures.specs.Form.{IsClosure}
use Rattle.sweeps.specs.Sweep.{sweep_call}
use Rattle.mesh_format.specs.Mesh.{Mesh}
use Rattle.mesh_format.specs.Form.{MeshText}
use Rattle.trials.specs.Trial.{done, number_told}
use Rattle.imports.specs.Import.{elements_right, node_lists, too_long, import_call}
use Rattle.imports.specs.Sheet.{ImportedSheet}

-- 02, Note 3. The contracts of `importer::import::import`, `fildwuk_library_import` and `fildwuk_import` say that these calls answer and leave what `import_call` says, at the
-- limits of the library and of the host calls. "New numbers: 14, the text is not of that form or a node number exceeds 65535":
abbrev pub ImportMalformed : Type 0
ImportMalformed =
    (limit : ℕ) (text sheet : List ℕ) → (number_told (import_call limit text sheet).answer ≡ 14) ↔ ((m : Mesh) → MeshText m text → ⊥)

-- .. and a text of that form tells one mesh
abbrev pub MeshesUnique : Type 0
MeshesUnique = (m m' : Mesh) (text : List ℕ) → MeshText m text → MeshText m' text → m ≡ m'

-- "15, an element has another kind, another number of nodes than its kind, an unlisted node or a node twice"; "The import call tries them in this order":
-- whatever the slice
abbrev pub ImportFaulty : Type 0
ImportFaulty =
    (limit : ℕ) (text sheet : List ℕ) (m : Mesh) → MeshText m text → (number_told (import_call limit text sheet).answer ≡ 15) ↔ (elements_right m ≡ false)

-- the cells of a mesh: the elements' vertex sets and their nonempty subsets. Where the elements are right there are such sections, and no others
pub record HasCells (m : Mesh) : Type 0 where
  pub cells : Sections
  pub are : IsClosure element_top (node_lists m.elements) cells

abbrev pub MeshCells : Type 0
MeshCells = (m : Mesh) → elements_right m ≡ true → HasCells m

abbrev pub MeshCellsUnique : Type 0
MeshCellsUnique = (m : Mesh) (K L : Sections) → IsClosure element_top (node_lists m.elements) K → IsClosure element_top (node_lists m.elements) L → K ≡ L

-- "16, the sheet's slice is too short or a count would exceed its limit": where neither 14 nor 15 applies. Note 7, "An import, after its 16, writes only what
-- the sweep makes of its sheet": 16 is about the sheet before the sweep
abbrev pub ImportTooLong : Type 0
ImportTooLong =
    (limit : ℕ) (text sheet : List ℕ) (m : Mesh) → MeshText m text → elements_right m ≡ true → (K : Sections) → IsClosure element_top (node_lists m.elements) K →
    (number_told (import_call limit text sheet).answer ≡ 16) ↔ (too_long limit (length sheet) K ≡ true)

-- demand 3, "A call answers done whenever no numbered refusal applies to it"
abbrev pub ImportDone : Type 0
ImportDone =
    (limit : ℕ) (text sheet : List ℕ) (m : Mesh) → MeshText m text → elements_right m ≡ true → (K : Sections) → IsClosure element_top (node_lists m.elements) K →
    too_long limit (length sheet) K ≡ false → number_told (import_call limit text sheet).answer ≡ 0

-- .. and then Note 7, "writes only what the sweep makes of its sheet": the answer and the slice are those of the sweep of the sheet of these cells
abbrev pub ImportSweeps : Type 0
ImportSweeps =
    (limit : ℕ) → limit ≤ library_limit → (text sheet : List ℕ) (m : Mesh) → MeshText m text → elements_right m ≡ true →
    (K : Sections) → IsClosure element_top (node_lists m.elements) K → too_long limit (length sheet) K ≡ false →
    import_call limit text sheet ≡ sweep_call limit (layout K) sheet

-- 01, "Every other slice that a call writes is untouched by a refusal"
abbrev pub ImportLeft : Type 0
ImportLeft =
    (limit : ℕ) (text sheet : List ℕ) → number_told (import_call limit text sheet).answer ≢ 0 → (import_call limit text sheet).output ≡ sheet

-- "The sheet written is always accepted, and its cells are exactly the elements' vertex sets and their nonempty subsets", less the loose nodes: so the claims
-- above hold of it as of any sheet
abbrev pub ImportSheet : Type 0
ImportSheet =
    (limit : ℕ) → limit ≤ library_limit → (text sheet : List ℕ) (n : ℕ) → (import_call limit text sheet).answer ≡ done n →
    ImportedSheet limit text sheet (import_call limit text sheet).output n

-- the same told from the answer 0 alone, as the calls for C have it: the header of the sheet gives its length
abbrev pub HostImportSheet : Type 0
HostImportSheet =
    (limit : ℕ) → limit ≤ library_limit → (text sheet : List ℕ) → number_told (import_call limit text sheet).answer ≡ 0 →
    ImportedSheet limit text sheet (import_call limit text sheet).output (header_gives (import_call limit text sheet).output)
