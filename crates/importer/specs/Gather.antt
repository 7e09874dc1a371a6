-- What gathering the cells of elements tells and leaves.
use Rattle.std.specs.Prelude.{◌≡◌, ◌⊎◌, Bool, true, false, List, [], ◌∷◌, ◌++◌, map, ℕ, Result, Ok, Err}
use Rattle.complexes.specs.Complex.{Sections}
use Rattle.complexes.specs.Packed.{Numbered}
use Rattle.closures.specs.Closure.{element_top, cell_with, own_sections}
use Rattle.cell_sets.specs.Set.{Holds}
use Rattle.cell_sets.specs.Close.{Exceeds}
use Rattle.cell_sets.specs.declared.set.CellSet.{CellSet}
use Rattle.mesh_format.specs.Mesh as mesh
use Rattle.imports.specs.Import.{none_faulty, node_lists}
use Rattle.mesh_lines.specs.declared.answer.Element.{Element}
use Rattle.mesh_lines.specs.Tells.{TellsElement}
use Rattle.refusal.specs.Number.{number_of}
use Rattle.refusal.specs.declared.Refusal.{Refusal}

-- done, or the refusal of some of the elements
abbrev pub Outcome : Type 0
Outcome = Result (Unit {0}) Refusal

-- the cells of the elements, by dimension, without their faces
abbrev pub own_cells : List mesh.Element → Sections
own_cells es = own_sections element_top (map cell_with (node_lists es))

-- some element is faulty, which the number 15 tells
pub record SomeFaulty (is_listed : ℕ → Bool) (es : List mesh.Element) (number : ℕ) : Type 0 where
  pub told : number ≡ 15
  pub faulty : none_faulty is_listed es ≡ false

-- no element is faulty, and some dimension has too many cells, which the number 16 tells
pub record TooMany (limit : ℕ) (is_listed : ℕ → Bool) (es : List mesh.Element) (number : ℕ) : Type 0 where
  pub told : number ≡ 16
  pub right : none_faulty is_listed es ≡ true
  pub exceeds : Exceeds limit (own_cells es)

-- what the outcome tells of the elements so far, and what the set then holds
abbrev pub Gathers : ℕ → (ℕ → Bool) → List mesh.Element → Outcome → CellSet → Type 0
Gathers limit is_listed es (Ok u) s = (none_faulty is_listed es ≡ true) × Holds s (own_cells es)
Gathers limit is_listed es (Err x) s = SomeFaulty is_listed es (number_of x) ⊎ TooMany limit is_listed es (number_of x)

-- one element more, told by its line x
abbrev pub AddsElement : ℕ → (ℕ → Bool) → Element → Outcome → CellSet → Outcome → CellSet → Type 0
AddsElement limit is_listed x before s after s' =
    (es : List mesh.Element) (e : mesh.Element) → Gathers limit is_listed es before s → TellsElement e x → Numbered e.nodes
    → Gathers limit is_listed (es ++ (e ∷ [])) after s'
