-- What checking an element answers.
use Rattle.std.specs.Prelude.{◌≡◌, Bool, true, false, ℕ, suc, ◌≤◌, Result, Ok, Err}
use Rattle.complexes.specs.Packed.{Numbered}
use Rattle.closures.specs.Closure.{element_top, cell_with}
use Rattle.cells.specs.Word.{Packs}
use Rattle.mesh_format.specs.Mesh as mesh
use Rattle.imports.specs.Import.{faulty}
use Rattle.refusal.specs.Number.{number_of}
use Rattle.refusal.specs.declared.Refusal.{Refusal}
use Rattle.mesh_lines.specs.declared.answer.Element.{Element}
use Rattle.mesh_lines.specs.Tells.{TellsElement}

-- the dimension and the word of a cell, or a refusal
abbrev pub Checked : Type 0
Checked = Result (ℕ × ℕ) Refusal

-- the element is right, and these are the dimension and the word of its cell; or refusal 15, and it is faulty
abbrev pub ChecksElement : (ℕ → Bool) → mesh.Element → Checked → Type 0
ChecksElement is_listed e (Ok cell) = (faulty is_listed e ≡ false) × Packs (suc cell.0) (cell_with e.nodes) cell.1
ChecksElement is_listed e (Err x) = (faulty is_listed e ≡ true) × (number_of x ≡ 15)

-- a dimension is one of an element's
abbrev pub InTop : Checked → Type 0
InTop (Ok cell) = cell.0 ≤ element_top
InTop (Err x) = Unit {0}

-- .. told from the line of the element
pub record Checks (is_listed : ℕ → Bool) (x : Element) (r : Checked) : Type 0 where
  pub dimension-is : InTop r
  pub checks : (e : mesh.Element) → TellsElement e x → Numbered e.nodes → ChecksElement is_listed e r
