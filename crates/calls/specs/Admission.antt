-- What `admit` answers.
use Rattle.std.specs.Prelude.{◌≡◌, ℕ, ◌+◌, ◌*◌, max, Result, Ok, Err}
use Rattle.trials.specs.Trial.{first_refusal}
use Rattle.sheet_format.specs.Check.{sections_of}
use Rattle.requests.specs.Question.{Question}
use Rattle.requests.specs.Call.{call_checks}
use Rattle.refusal.specs.Number.{number_of}
use Rattle.refusal.specs.declared.Refusal.{Refusal}
use Rattle.two_reductions.specs.CellCounts.{DimensionCounts, cell_counts_in, CellCountsRead}
use Rattle.two_reductions.specs.declared.cell_counts.CellCounts.{CellCounts}
use Rattle.calls.specs.declared.admission.Request.{Request}
use Rattle.calls.specs.declared.admission.Request.TheVariants.{Report, Coordinates, Surface}

-- the slots that check 9 asks of the output
abbrev pub slots_for : Request → DimensionCounts → ℕ
slots_for Report n = 2 + n.cells + n.cells * n.cells
slots_for (Coordinates many) n = many * n.cells
slots_for Surface n = n.columns

-- .. and of the work slice
abbrev pub space_for : Request → DimensionCounts → ℕ
space_for Report n = n.cells * (2 * n.cells + max n.rows n.columns)
space_for (Coordinates many) n = n.cells * (2 * n.cells + max n.rows n.columns)
space_for Surface n = n.cells * (2 * n.cells + max n.rows n.columns) + n.columns * n.columns

-- the first of the checks 1 to 7, 18, 8 and 9 that applies, 0 for none
abbrev pub admission : ℕ → Question → Request → ℕ → ℕ → ℕ
admission limit q request output work =
    let n = cell_counts_in (sections_of q.sheet) q.dimension in
    first_refusal (call_checks limit q (slots_for request n) (space_for request n) output work)

-- its refusal, or the cell counts of the dimension
abbrev pub Admits : ℕ → Question → Request → ℕ → ℕ → Result CellCounts Refusal → Type 0
Admits limit q request output work (Ok cell-counts) =
    (admission limit q request output work ≡ 0) × CellCountsRead (sections_of q.sheet) q.dimension cell-counts
Admits limit q request output work (Err x) = admission limit q request output work ≡ number_of x
