-- The filled triangle in dimension 1, whose edge loop bounds the triangle: its bytes, and what the reductions of a surface call come to on it and on the
-- hollow triangle, whose loop bounds nothing.
use mathlib.Core.Path.{◌≡◌, refl, sym, ◌∙◌, ap}
use mathlib.Core.Bool.{true, false≢true}
use mathlib.Core.List.{List, [], ◌∷◌}
use native.Mathlib.Omega.{arith}
use lib.IntN.{ℤ, pos}
use Rattle.integers.specs.Division.{floor, divides}
use Rattle.lists.specs.Tabulate.{tabulate}
use Rattle.lists.specs.Same.{every}
use Rattle.matrices.specs.Sum.{sum}
use Rattle.matrices.specs.Matrix.{mul, identity, null}
use Rattle.matrices.specs.Operation.{inverse}
use Rattle.complexes.specs.Cell.{without, same, rises, precedes, listed}
use Rattle.complexes.specs.Boundary.{sign, coefficient, count_below, boundary}
use Rattle.complexes.proofs.ChainComplex.{ChainComplex}
use Rattle.sheet_format.specs.Layout.{start}
use Rattle.sheet_format.specs.Check.{count_field, offset_field, cell_of, cells_of, sections_of, some, vertices_do_not_rise, cells_do_not_rise, face_missing, refusal}
use Rattle.sheet_format.specs.Sheet.{Bytes}
use Rattle.sheet_format.specs.Starred.{filled_triangle}
use Rattle.sheet_format.proofs.Accept.{accepted-chains}
use Rattle.reduction_steps.specs.Table.{table, row_largest, table_largest, table_within}
use Rattle.reduction_steps.specs.Lines.{on_list, line_less, on_lines, on_entries}
use Rattle.reduction_steps.specs.State.{State, largest, row_operation, column_operation, within, checked, and_then, on_row, on_column}
use Rattle.reduction_steps.specs.Pivot.{better, along_row, down_rows, release1}
use Rattle.reduction_steps.specs.Step.{column_keeps, row_keeps, row_indivisible, first_indivisible, positive, bring, quotient, row_pass, column_pass, next, step, run, reduce}
use Rattle.reports.specs.Reductions.{reduced, second_columns_only, first_start, product, second_start, after_second, second, after_first, reductions}
use Rattle.requests.specs.Question.{Question, asked, cells, rule, two}
use Rattle.requests.specs.Call.{went_wide}
use Rattle.answers.specs.Outcome.{TooWide}
use Rattle.answers.proofs.Behind.{two-wide}
use Rattle.demands.proofs.Hollow.{numbers-below, hollow, hollow-chains, hollow-left, minus}

abbrev pub filled : Question
filled = asked filled_triangle 1

pub filled-bytes : Bytes filled_triangle
unfolding every
filled-bytes = record { small = numbers-below 256 (omega arith) filled_triangle tt }

-- the three edges in the triangle's orientation
abbrev pub loop : List ℤ
loop = pos 1 ∷ minus 1 ∷ pos 1 ∷ []

filled-accepted : refusal 48 filled_triangle ≡ 0
unfolding refusal count_field offset_field cell_of cells_of sections_of some vertices_do_not_rise cells_do_not_rise face_missing without same rises precedes listed start tabulate
filled-accepted = refl

pub filled-chains : ChainComplex 48 (cells filled)
unfolding cells
filled-chains = accepted-chains 48 filled_triangle filled-bytes filled-accepted

-- one row of Q, a pivot 1, and the triangle as it was
abbrev pub filled-left : State
filled-left = record {
  matrix = (pos 1 ∷ []) ∷ [];
  row_follower = (pos 0 ∷ pos 0 ∷ pos 1 ∷ []) ∷ [];
  row_inverse = (pos 1 ∷ minus 1 ∷ pos 1 ∷ []) ∷ [];
  column_follower = (pos 1 ∷ []) ∷ [];
  column_inverse = [] ∷ [];
  peak = 1;
}

pub filled-reduced : two filled (second_columns_only true) ≡ reduced 1 1 filled-left
unfolding cells rule two reductions first_start after_first second product second_start after_second count_below boundary coefficient sign
    count_field cell_of cells_of sections_of without same start
    reduce run step next bring positive quotient row_pass column_pass column_keeps row_keeps row_indivisible first_indivisible
    release1 down_rows along_row better on_row on_column checked and_then within largest row_operation column_operation on_lines on_entries on_list line_less table_within table_largest row_largest table
    inverse identity null mul sum floor divides tabulate
filled-reduced = refl

pub filled-narrow : TooWide filled (second_columns_only true) → ⊥
filled-narrow wide = false≢true (ap went_wide (sym filled-reduced ∙ (two-wide filled (second_columns_only true) filled-chains).1 wide))

-- the hollow triangle has no column to keep
pub hollow-kept : two hollow (second_columns_only true) ≡ reduced 1 0 hollow-left
unfolding cells rule two reductions first_start after_first second product second_start after_second count_below boundary coefficient sign
    count_field cell_of cells_of sections_of without same start
    reduce run step next bring positive quotient row_pass column_pass column_keeps row_keeps row_indivisible first_indivisible
    release1 down_rows along_row better on_row on_column checked and_then within largest row_operation column_operation on_lines on_entries on_list line_less table_within table_largest row_largest table
    inverse identity null mul sum floor divides tabulate
hollow-kept = refl

pub hollow-kept-narrow : TooWide hollow (second_columns_only true) → ⊥
hollow-kept-narrow wide = false≢true (ap went_wide (sym hollow-kept ∙ (two-wide hollow (second_columns_only true) hollow-chains).1 wide))
