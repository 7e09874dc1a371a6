-- What it means that an import has written a sheet: document 02, Notes 3 and 7.
use Rattle.std.specs.Prelude.{List, ℕ, take}
use Rattle.complexes.specs.Complex.{Sections}
use Rattle.sheet_format.specs.Check.{sections_of}
use Rattle.sheet_format.specs.Written.{WrittenSheet}
use Rattle.closures.specs.Closure.{element_top}
use Rattle.closures.specs.Form.{IsClosure}
use Rattle.sweeps.specs.Swept.{IsSwept}
use Rattle.mesh_format.specs.Mesh.{Mesh}
use Rattle.mesh_format.specs.Form.{MeshText}
use Rattle.imports.specs.Import.{node_lists}

-- The first n bytes of the slice are a sheet that was written. `unswept` are exactly the vertex sets of the elements of the mesh that the text tells, and their
-- nonempty subsets; the sheet's cells are those less the loose nodes.
pub record ImportedSheet (limit : ℕ) (text before after : List ℕ) (n : ℕ) : Type 0 where
  pub mesh : Mesh
  pub is-text : MeshText mesh text
  pub sheet : WrittenSheet limit before after n
  pub unswept : Sections
  pub elements : IsClosure element_top (node_lists mesh.elements) unswept
  pub cells : IsSwept unswept (sections_of (take n after))
