-- A Moore space of order 3: `reductions-space` computes the two reductions of dimension 1, and the calls and the text follow from it.
--     cells-read     the cells of the sheet
--     space-calls    the report, and the coordinates of the generator, of two and three times the generator and of its opposite: 1, -1, 0, -1
use Rattle.std.specs.Prelude.{List, [], ◌∷◌, ◌++◌, ◌≡◌, refl, ℕ, ℤ, pos, neg_ℤ, replicate}
use Rattle.integers.specs.Division.{floor, modulo, residue, divides}
use Rattle.lists.specs.Tabulate.{tabulate}
use Rattle.lists.specs.Splice.{splice, splices}
use Rattle.matrices.specs.Sum.{sum}
use Rattle.matrices.specs.Matrix.{mul, identity, null}
use Rattle.matrices.specs.Vector.{apply}
use Rattle.matrices.specs.Operation.{inverse}
use Rattle.complexes.specs.Cell.{without, same, rises, precedes, listed}
use Rattle.complexes.specs.Boundary.{sign, coefficient, count_below, boundary}
use Rattle.sheet_format.specs.Layout.{start}
use Rattle.sheet_format.specs.Check.{count_field, offset_field, cell_of, cells_of, sections_of, some, vertices_do_not_rise, cells_do_not_rise, face_missing, refusal}
use Rattle.reduction_steps.specs.Table.{table, row_largest, table_largest, table_within}
use Rattle.reduction_steps.specs.Lines.{on_list, line_less, on_lines, on_entries}
use Rattle.reduction_steps.specs.State.{largest, row_operation, column_operation, within, checked, and_then, on_row, on_column}
use Rattle.reduction_steps.specs.Pivot.{better, along_row, down_rows, release1}
use Rattle.reduction_steps.specs.Step.{column_keeps, row_keeps, row_indivisible, first_indivisible, positive, bring, quotient, row_pass, column_pass, next, step, run, reduce}
use Rattle.reports.specs.Reductions.{reduced, no_transforms, first_start, product, second_start, after_second, second, after_first, reductions}
use Rattle.reports.specs.Report.{Counts, reported, columns_of, torsion_count, halvings, bits_of, report_list, coordinate_at, coordinate_list}
use Rattle.trials.specs.Trial.{Called, done}
use Rattle.requests.specs.Question.{Question, asked, rule, two}
use Rattle.requests.specs.Question as question
use Rattle.requests.specs.Chains.{coefficient_exceeds, boundary_not_zero, chain_checks}
use Rattle.requests.specs.Call.{coordinates, call_checks, early_checks, call}
use Rattle.requests.specs.Call as request
use Rattle.program_text.specs.Text.{digits, decimal, spaced, generator_lines, dimension_text}
use Rattle.moore_space.specs.Space.{cells, sheet, left, report, loop, twice, thrice, backwards, text}

-- the cells of the sheet
pub cells-read : sections_of sheet ≡ cells
unfolding count_field cell_of cells_of sections_of start tabulate
cells-read = refl

-- dimension 1 of the sheet
abbrev pub loops : Question
loops = asked sheet 1

-- 17 rows of Q, 17 pivots
pub reductions-space : two loops no_transforms ≡ reduced 17 17 left
unfolding question.cells rule two reductions first_start after_first second product second_start after_second count_below boundary coefficient sign
    count_field cell_of cells_of sections_of without same start
    reduce run step next bring positive quotient row_pass column_pass column_keeps row_keeps row_indivisible first_indivisible
    release1 down_rows along_row better on_row on_column checked and_then within largest row_operation column_operation on_lines on_entries on_list line_less table_within table_largest row_largest table
    inverse identity null mul sum floor divides tabulate
reductions-space = refl

-- ---- the calls in dimension 1

-- n slots as they are lent: a slot left untouched shows
abbrev pub nines : ℕ → List ℤ
nines n = replicate n (pos 9)

-- b = 0, t = 1, and no entry beyond 3, which needs two bits
abbrev pub counts : Counts
counts = record { free = 0; torsion = 1; peak = 3; bits = 2 }

-- done, these numbers in the output and the other slots untouched, the work slice cleared
abbrev gives : List ℤ → List ℤ → Called Counts ℤ
gives numbers rest = record { answer = done counts; output = numbers ++ rest; work = replicate 1560 (pos 0) }

-- the coordinate call on a chain gives one coordinate
abbrev Coordinate : List ℤ → ℤ → Type 0
Coordinate chain x = call 256 loops (coordinates chain) (nines 24) (nines 1560) ≡ gives (x ∷ []) (nines 23)

pub record SpaceCalls : Type 0 where
  pub report-call : call 256 loops request.report (nines 602) (nines 1560) ≡ gives report (nines 575)
  pub coordinate-loop : Coordinate loop (pos 1)
  pub coordinate-twice : Coordinate twice (neg_ℤ (pos 1))
  pub coordinate-thrice : Coordinate thrice (pos 0)
  pub coordinate-backwards : Coordinate backwards (neg_ℤ (pos 1))
  pub printed : dimension_text 1 24 (two loops no_transforms) ≡ text

pub space-calls : SpaceCalls
unfolding call early_checks call_checks chain_checks coefficient_exceeds boundary_not_zero question.cells splices splice
    refusal count_field offset_field cell_of cells_of sections_of some vertices_do_not_rise cells_do_not_rise face_missing without same rises precedes listed start
    count_below boundary coefficient sign apply sum floor modulo residue tabulate report_list coordinate_list coordinate_at torsion_count bits_of halvings columns_of reported
    dimension_text generator_lines spaced decimal digits
space-calls = record {
  report-call = rw reductions-space;
  coordinate-loop = rw reductions-space;
  coordinate-twice = rw reductions-space;
  coordinate-thrice = rw reductions-space;
  coordinate-backwards = rw reductions-space;
  printed = rw reductions-space;
}
