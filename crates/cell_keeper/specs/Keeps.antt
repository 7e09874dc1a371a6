-- What keeping the cells whose marks are not 1 answers and leaves.
use Rattle.std.specs.Prelude.{cond, List, ℕ, ltb, length, Result}
use Rattle.trials.specs.Write.{WriteCalled, answer_with}
use Rattle.sheet_format.specs.Layout.{layout}
use Rattle.refusal.specs.Written.{WriteAnswers}
use Rattle.refusal.specs.declared.Refusal.{Refusal}
use Rattle.cell_keeper.specs.Unmarked.{unmarked_cells}

-- a sheet of these bytes is written over the slice from its start on; where the slice is too short, refused with 16
abbrev pub write_over : List ℕ → List ℕ → WriteCalled
write_over bytes slice = answer_with (cond (ltb (length slice) (length bytes)) 16 0) bytes slice

-- the sheet of the cells of the sheet b whose marks are not 1 is written, if it fits
abbrev pub Keeps : List ℕ → List ℕ → List ℕ → Result ℕ Refusal → List ℕ → Type 0
Keeps b marks out r out' = WriteAnswers (write_over (layout (unmarked_cells b marks)) out) r out'
