-- What adding the faces of cells tells and leaves.
use Rattle.std.specs.Prelude.{List, ℕ, suc, ◌≤◌, ◌<◌, Result, Ok, Err}
use Rattle.lists.specs.Tabulate.{tabulate}
use Rattle.complexes.specs.Cell.{Cell, without}
use Rattle.complexes.specs.Complex.{Sections, section, count}
use Rattle.closures.specs.Closure.{element_top, faces_of, own_sections, closure}
use Rattle.cells.specs.Word.{Packs}
use Rattle.cell_sets.specs.Set.{Holds, Adds}
use Rattle.cell_sets.specs.declared.insert.Full.{Full}
use Rattle.cell_sets.specs.declared.set.CellSet.{CellSet}

-- the faces of the cell of dimension p + 1 with the word w
abbrev pub AddsFaces : ℕ → ℕ → CellSet → Result (Unit {0}) Full → CellSet → Type 0
AddsFaces p w s r s' =
    (K : Sections) (c : Cell) → Holds s K → Packs (suc (suc p)) c w → Adds s.limit K p (tabulate (suc (suc p)) (λ j. without j c)) r s'

-- .. of all cells of dimension p + 1
abbrev pub ClosesSection : ℕ → CellSet → Result (Unit {0}) Full → CellSet → Type 0
ClosesSection p s r s' = (K : Sections) → Holds s K → Adds s.limit K p (faces_of (suc (suc p)) (section K (suc p))) r s'

-- a section of K has more than `limit` cells
pub record Exceeds (limit : ℕ) (K : Sections) : Type 0 where
  pub dimension : ℕ
  pub listed : dimension ≤ element_top
  pub over : limit < count K dimension

-- all faces of the cells cs
abbrev pub ClosesOwn : ℕ → List Cell → Result (Unit {0}) Full → CellSet → Type 0
ClosesOwn limit cs (Ok u) s = Holds s (closure element_top cs)
ClosesOwn limit cs (Err e) s = Exceeds limit (closure element_top cs)

-- .. for every list of cells held
abbrev pub Closes : CellSet → Result (Unit {0}) Full → CellSet → Type 0
Closes s r s' = (cs : List Cell) → Holds s (own_sections element_top cs) → ClosesOwn s.limit cs r s'
