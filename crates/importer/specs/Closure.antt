-- What adding the faces of the elements' cells and writing their sheet answers and leaves.
use Rattle.std.specs.Prelude.{cond, List, ℕ, length, Result}
use Rattle.trials.specs.Write.{answer_with}
use Rattle.complexes.specs.Cell.{Cell}
use Rattle.closures.specs.Closure.{element_top, own_sections, closure}
use Rattle.cell_sets.specs.Set.{Holds}
use Rattle.cell_sets.specs.declared.set.CellSet.{CellSet}
use Rattle.sweeps.specs.Sweep.{swept_sheet}
use Rattle.imports.specs.Import.{too_long}
use Rattle.refusal.specs.Written.{WriteAnswers}
use Rattle.refusal.specs.declared.Refusal.{Refusal}

-- the set holds the cells of some list, with no face that the list does not have
pub record HeldOwn (s : CellSet) : Type 0 where
  pub elements : List Cell
  pub holds : Holds s (own_sections element_top elements)

-- the faces of the cells cs were added, and what the sweep makes of their sheet written if the sheet fits
abbrev pub WritesClosure : CellSet → List ℕ → Result ℕ Refusal → List ℕ → Type 0
WritesClosure s sheet r sheet' =
    (cs : List Cell) → Holds s (own_sections element_top cs)
    → WriteAnswers (answer_with (cond (too_long s.limit (length sheet) (closure element_top cs)) 16 0) (swept_sheet (closure element_top cs)) sheet) r sheet'
