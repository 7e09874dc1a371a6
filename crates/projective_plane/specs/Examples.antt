-- The projective plane: `reductions-plane` computes the two reductions of dimension 1, `reductions-tracked` those with the transform of the columns, and
-- the calls and the text follow from them.
--     plane-calls    the report, and the coordinates of the generator, of twice the generator and of its opposite: 1, 0, 1; the generator bounds nothing,
--                    and twice the generator bounds a surface
--     plane-wide     at the entry limit 1, dimension 2 goes too wide in the first reduction and dimension 1 in the second
use Rattle.std.specs.Prelude.{true, List, [], ◌∷◌, ◌++◌, ◌≡◌, refl, ℕ, ℤ, pos, get_or, replicate}
use Rattle.integers.specs.Division.{floor, modulo, residue, divides}
use Rattle.lists.specs.Tabulate.{tabulate}
use Rattle.lists.specs.Splice.{splice, splices}
use Rattle.matrices.specs.Sum.{sum}
use Rattle.matrices.specs.Matrix.{mul, identity, null}
use Rattle.matrices.specs.Vector.{apply}
use Rattle.matrices.specs.Operation.{inverse}
use Rattle.complexes.specs.Cell.{without, same, rises, precedes, listed}
use Rattle.complexes.specs.Boundary.{sign, coefficient, count_below, boundary}
use Rattle.sheet_format.specs.Layout.{start}
use Rattle.sheet_format.specs.Check.{count_field, offset_field, cell_of, cells_of, sections_of, some, vertices_do_not_rise, cells_do_not_rise, face_missing, refusal}
use Rattle.reduction_steps.specs.Table.{table, row_largest, table_largest, table_within}
use Rattle.reduction_steps.specs.Lines.{on_list, line_less, on_lines, on_entries}
use Rattle.reduction_steps.specs.State.{largest, row_operation, column_operation, within, checked, and_then, on_row, on_column}
use Rattle.reduction_steps.specs.Pivot.{better, along_row, down_rows, release1}
use Rattle.reduction_steps.specs.Step.{column_keeps, row_keeps, row_indivisible, first_indivisible, positive, bring, quotient, row_pass, column_pass, next, step, run, reduce}
use Rattle.reports.specs.Reductions.{too_wide, reduced, second_columns_only, no_transforms, first_start, product, second_start, after_second, second, after_first, reductions}
use Rattle.reports.specs.Report.{Counts, reported, columns_of, torsion_count, halvings, bits_of, report_list, coordinate_at, coordinate_list}
use Rattle.reports.specs.Surface.{bounds_nothing, surface_at, surface_list}
use Rattle.trials.specs.Trial.{Called, done, refused}
use Rattle.requests.specs.Question.{Question, asked, rule, two}
use Rattle.requests.specs.Question as question
use Rattle.requests.specs.Chains.{coefficient_exceeds, boundary_not_zero, chain_checks}
use Rattle.requests.specs.Call.{coordinates, call_checks, early_checks, call}
use Rattle.requests.specs.Call as request
use Rattle.program_text.specs.Text.{digits, decimal, spaced, generator_lines, dimension_text}
use Rattle.reports.specs.WideEnd.{in_first, in_second, end_of_second, end_of_product, end_of_first, end, ends_wide}
use Rattle.reports.proofs.WideEndLaws.{end-wide}
use Rattle.projective_plane.specs.Plane.{cells, sheet, left, report, loop, twice, backwards, tracked, surface, text}

-- dimension 1 of the sheet
abbrev pub loops : Question
loops = asked sheet 1

-- ten rows of Q, ten pivots
pub reductions-plane : two loops no_transforms ≡ reduced 10 10 left
unfolding question.cells rule two reductions first_start after_first second product second_start after_second count_below boundary coefficient sign
    count_field cell_of cells_of sections_of without same start
    reduce run step next bring positive quotient row_pass column_pass column_keeps row_keeps row_indivisible first_indivisible
    release1 down_rows along_row better on_row on_column checked and_then within largest row_operation column_operation on_lines on_entries on_list line_less table_within table_largest row_largest table
    inverse identity null mul sum floor divides tabulate
reductions-plane = refl

-- the same, with the transform of the columns of the second
pub reductions-tracked : two loops (second_columns_only true) ≡ reduced 10 10 tracked
unfolding question.cells rule two reductions first_start after_first second product second_start after_second count_below boundary coefficient sign
    count_field cell_of cells_of sections_of without same start
    reduce run step next bring positive quotient row_pass column_pass column_keeps row_keeps row_indivisible first_indivisible
    release1 down_rows along_row better on_row on_column checked and_then within largest row_operation column_operation on_lines on_entries on_list line_less table_within table_largest row_largest table
    inverse identity null mul sum floor divides tabulate
reductions-tracked = refl

-- ---- the calls in dimension 1

-- n slots as they are lent: a slot left untouched shows
abbrev pub nines : ℕ → List ℤ
nines n = replicate n (pos 9)

-- b = 0, t = 1, and no entry beyond 2, which needs two bits
abbrev pub counts : Counts
counts = record { free = 0; torsion = 1; peak = 2; bits = 2 }

-- done, these numbers in the output and the other slots untouched, the work slice cleared
abbrev gives : List ℤ → List ℤ → Called Counts ℤ
gives numbers rest = record { answer = done counts; output = numbers ++ rest; work = replicate 600 (pos 0) }

-- the same of the surface call, whose work slice has 100 slots more; and 17, with the output untouched and the work slice cleared
abbrev gives_surface : List ℤ → List ℤ → Called Counts ℤ
gives_surface numbers rest = record { answer = done counts; output = numbers ++ rest; work = replicate 700 (pos 0) }

abbrev refuses_surface : List ℤ → Called Counts ℤ
refuses_surface output = record { answer = refused 17; output = output; work = replicate 700 (pos 0) }

pub record PlaneCalls : Type 0 where
  pub report-call : call 256 loops request.report (nines 242) (nines 600) ≡ gives report (nines 224)
  pub coordinate-loop : call 256 loops (coordinates loop) (nines 15) (nines 600) ≡ gives (pos 1 ∷ []) (nines 14)
  pub coordinate-twice : call 256 loops (coordinates twice) (nines 15) (nines 600) ≡ gives (pos 0 ∷ []) (nines 14)
  pub coordinate-backwards : call 256 loops (coordinates backwards) (nines 15) (nines 600) ≡ gives (pos 1 ∷ []) (nines 14)
  -- the order of the loop is 2
  pub surface-loop : call 256 loops (request.surface loop) (nines 12) (nines 700) ≡ refuses_surface (nines 12)
  pub surface-backwards : call 256 loops (request.surface backwards) (nines 12) (nines 700) ≡ refuses_surface (nines 12)
  pub surface-twice : call 256 loops (request.surface twice) (nines 12) (nines 700) ≡ gives_surface surface (nines 2)
  pub surface-boundary : tabulate 15 (apply 10 (boundary cells 2) (λ j. get_or surface j (pos 0))) ≡ twice
  pub printed : dimension_text 1 15 (two loops no_transforms) ≡ text

pub plane-calls : PlaneCalls
unfolding call early_checks call_checks chain_checks coefficient_exceeds boundary_not_zero question.cells splices splice
    refusal count_field offset_field cell_of cells_of sections_of some vertices_do_not_rise cells_do_not_rise face_missing without same rises precedes listed start
    count_below boundary coefficient sign apply sum floor modulo residue tabulate report_list coordinate_list coordinate_at torsion_count bits_of halvings columns_of reported
    bounds_nothing surface_list surface_at divides
    dimension_text generator_lines spaced decimal digits
plane-calls = record {
  report-call = rw reductions-plane;
  coordinate-loop = rw reductions-plane;
  coordinate-twice = rw reductions-plane;
  coordinate-backwards = rw reductions-plane;
  surface-loop = rw reductions-tracked;
  surface-backwards = rw reductions-tracked;
  surface-twice = rw reductions-tracked;
  surface-boundary = refl;
  printed = rw reductions-plane;
}

-- ---- too wide at the entry limit 1: the order 2 stands in the matrix of dimension 2, and in the second reduction of dimension 1

pub record PlaneWide : Type 0 where
  pub first : end no_transforms release1 1 cells 2 ≡ in_first
  pub second : end no_transforms release1 1 cells 1 ≡ in_second

pub plane-wide : PlaneWide
unfolding end end_of_first end_of_product end_of_second first_start product second_start count_below boundary coefficient sign without same
    reduce run step next bring positive quotient row_pass column_pass column_keeps row_keeps row_indivisible first_indivisible
    release1 down_rows along_row better on_row on_column checked and_then within largest row_operation column_operation on_lines on_entries on_list line_less table_within table_largest row_largest table
    inverse identity null mul sum floor divides tabulate
plane-wide = record { first = refl; second = refl }

-- so the two reductions are too wide
pub plane-too-wide : (reductions no_transforms release1 1 cells 2 ≡ too_wide) × (reductions no_transforms release1 1 cells 1 ≡ too_wide)
unfolding ends_wide
plane-too-wide = (end-wide no_transforms release1 1 cells 2 in_first plane-wide.first refl, end-wide no_transforms release1 1 cells 1 in_second plane-wide.second refl)
