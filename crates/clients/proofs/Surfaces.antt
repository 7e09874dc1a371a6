-- The surface calls on the filled and the hollow triangle as they compute: each gives what specs/Filled and specs/Hollow have.
use mathlib.Core.Bool.{true}
use mathlib.Core.Path.{◌≡◌, refl}
use mathlib.Core.List.{[], ◌∷◌}
use lib.IntN.{pos, neg_ℤ}
use Rattle.integers.specs.Division.{floor, divides}
use Rattle.lists.specs.Tabulate.{tabulate}
use Rattle.lists.specs.Splice.{splice, splices}
use Rattle.matrices.specs.Sum.{sum}
use Rattle.matrices.specs.Matrix.{mul, identity, null}
use Rattle.matrices.specs.Vector.{apply}
use Rattle.matrices.specs.Operation.{inverse}
use Rattle.complexes.specs.Cell.{without, same, rises, precedes, listed}
use Rattle.complexes.specs.Boundary.{sign, coefficient, count_below, boundary}
use Rattle.sheet_format.specs.Layout.{start}
use Rattle.sheet_format.specs.Check.{count_field, offset_field, cell_of, cells_of, sections_of, some, vertices_do_not_rise, cells_do_not_rise, face_missing}
use Rattle.sheet_format.specs.Starred.{hollow_triangle, filled_triangle}
use Rattle.reduction_steps.specs.Table.{table, row_largest, table_largest, table_within}
use Rattle.reduction_steps.specs.Lines.{on_list, line_less, on_lines, on_entries}
use Rattle.reduction_steps.specs.State.{State, largest, row_operation, column_operation, within, checked, and_then, on_row, on_column}
use Rattle.reduction_steps.specs.Pivot.{better, along_row, down_rows, release1}
use Rattle.reduction_steps.specs.Step.{column_keeps, row_keeps, row_indivisible, first_indivisible, positive, bring, quotient, row_pass, column_pass, next, step, run, reduce}
use Rattle.reports.specs.Reductions.{reduced, second_columns_only, first_start, product, second_start, after_second, second, after_first, reductions}
use Rattle.reports.specs.Report.{reported, torsion_count, halvings, bits_of}
use Rattle.reports.specs.Surface.{bounds_nothing, surface_at, surface_list}
use Rattle.requests.specs.Question.{Question, asked, cells, rule, two}
use Rattle.requests.specs.Chains.{coefficient_exceeds, boundary_not_zero, chain_checks}
use Rattle.requests.specs.Call.{surface, call_checks, early_checks, call}
use Rattle.host_calls.specs.Bytes.{low_bytes, number_bytes, numbers_bytes, coefficient_at, other_length, chain_from}
use Rattle.host_calls.specs.Host.{host_call, surface_in}
use Rattle.clients.specs.Hollow.{nines, lent, loop, edge, loop_bytes, edge_bytes, nothing_bounded, host_nothing_bounded}
use Rattle.clients.specs.Filled.{surface_done, surface_refused, host_surface_done, host_surface_refused}

abbrev filled : Question
filled = asked filled_triangle 1

abbrev hollow : Question
hollow = asked hollow_triangle 1

-- what the second reduction leaves of the filled triangle: the last edge's coefficient is that of the triangle
abbrev filled_left : State
filled_left = record {
  matrix = (pos 1 ∷ []) ∷ [];
  row_follower = (pos 0 ∷ pos 0 ∷ pos 1 ∷ []) ∷ [];
  row_inverse = (pos 1 ∷ neg_ℤ (pos 1) ∷ pos 1 ∷ []) ∷ [];
  column_follower = (pos 1 ∷ []) ∷ [];
  column_inverse = [] ∷ [];
  peak = 1;
}

-- and of the hollow one, which has no column
abbrev hollow_left : State
hollow_left = record {
  matrix = [] ∷ [];
  row_follower = (pos 0 ∷ pos 0 ∷ pos 1 ∷ []) ∷ [];
  row_inverse = (pos 1 ∷ neg_ℤ (pos 1) ∷ pos 1 ∷ []) ∷ [];
  column_follower = [];
  column_inverse = [];
  peak = 1;
}

triangles-reduced : (two filled (second_columns_only true) ≡ reduced 1 1 filled_left) × (two hollow (second_columns_only true) ≡ reduced 1 0 hollow_left)
unfolding cells rule two reductions first_start after_first second product second_start after_second count_below boundary coefficient sign
    count_field cell_of cells_of sections_of without same start
    reduce run step next bring positive quotient row_pass column_pass column_keeps row_keeps row_indivisible first_indivisible
    release1 down_rows along_row better on_row on_column checked and_then within largest row_operation column_operation on_lines on_entries on_list line_less table_within table_largest row_largest table
    inverse identity null mul sum floor divides tabulate
triangles-reduced = (refl, refl)

pub record Surfaces : Type 0 where
  pub done : call 256 filled (surface loop) (nines 2) (nines 30) ≡ surface_done
  pub refused : call 256 filled (surface edge) (nines 2) (nines 30) ≡ surface_refused
  pub nothing : call 256 hollow (surface loop) (nines 2) (nines 30) ≡ nothing_bounded
  pub host_done : host_call filled (surface_in filled loop_bytes) (lent 13) ≡ host_surface_done
  pub host_refused : host_call filled (surface_in filled edge_bytes) (lent 13) ≡ host_surface_refused
  pub host_nothing : host_call hollow (surface_in hollow loop_bytes) (lent 13) ≡ host_nothing_bounded

pub surfaces : Surfaces
unfolding call host_call early_checks call_checks chain_checks coefficient_exceeds boundary_not_zero cells splices splice
    count_field offset_field cell_of cells_of sections_of some vertices_do_not_rise cells_do_not_rise face_missing without same rises precedes listed start
    count_below boundary coefficient sign apply sum floor divides tabulate bounds_nothing surface_list surface_at torsion_count bits_of halvings reported
    low_bytes number_bytes numbers_bytes coefficient_at other_length chain_from
surfaces = record {
  done = rw triangles-reduced.0;
  refused = refl;
  nothing = rw triangles-reduced.1;
  host_done = rw triangles-reduced.0;
  host_refused = refl;
  host_nothing = rw triangles-reduced.1;
}
