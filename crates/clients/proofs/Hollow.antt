-- The calls on the hollow triangle as they compute: each gives what specs/Hollow has.
use mathlib.Core.Path.{◌≡◌, refl}
use mathlib.Core.List.{[], ◌∷◌}
use lib.IntN.{pos, neg_ℤ}
use Rattle.integers.specs.Division.{floor, modulo, residue, divides}
use Rattle.lists.specs.Tabulate.{tabulate}
use Rattle.lists.specs.Splice.{splice, splices}
use Rattle.matrices.specs.Sum.{sum}
use Rattle.matrices.specs.Matrix.{mul, identity, null}
use Rattle.matrices.specs.Vector.{apply}
use Rattle.matrices.specs.Operation.{inverse}
use Rattle.complexes.specs.Cell.{without, same, rises, precedes, listed}
use Rattle.complexes.specs.Boundary.{sign, coefficient, count_below, boundary}
use Rattle.sheet_format.specs.Layout.{start}
use Rattle.sheet_format.specs.Check.{count_field, offset_field, cell_of, cells_of, sections_of, some, vertices_do_not_rise, cells_do_not_rise, face_missing}
use Rattle.sheet_format.specs.Starred.{hollow_triangle}
use Rattle.reduction_steps.specs.Table.{table, row_largest, table_largest, table_within}
use Rattle.reduction_steps.specs.Lines.{on_list, line_less, on_lines, on_entries}
use Rattle.reduction_steps.specs.State.{State, largest, row_operation, column_operation, within, checked, and_then, on_row, on_column}
use Rattle.reduction_steps.specs.Pivot.{better, along_row, down_rows, release1}
use Rattle.reduction_steps.specs.Step.{column_keeps, row_keeps, row_indivisible, first_indivisible, positive, bring, quotient, row_pass, column_pass, next, step, run, reduce}
use Rattle.reports.specs.Reductions.{reduced, no_transforms, first_start, product, second_start, after_second, second, after_first, reductions}
use Rattle.reports.specs.Report.{reported, columns_of, torsion_count, halvings, bits_of, report_list, coordinate_at, coordinate_list}
use Rattle.requests.specs.Question.{Question, asked, cells, rule, two}
use Rattle.requests.specs.Chains.{coefficient_exceeds, boundary_not_zero, chain_checks, cycles_checks, chains_checks}
use Rattle.requests.specs.Call.{report, coordinates, lists, call_checks, early_checks, call}
use Rattle.host_calls.specs.Bytes.{low_bytes, number_bytes, numbers_bytes, coefficient_at, other_length, chain_from}
use Rattle.host_calls.specs.Host.{host_call, coordinates_in, lists_in}
use Rattle.clients.specs.Hollow.{nines, lent, backwards, both, edge, backwards_bytes, both_bytes, edge_bytes, report_done, report_refused, coordinates_done, coordinates_refused, lists_done, lists_refused, host_report_done, host_report_refused, host_coordinates_done, host_coordinates_refused, host_lists_done, host_lists_refused}

abbrev hollow : Question
hollow = asked hollow_triangle 1

-- what the second reduction leaves
abbrev left : State
left = record {
  matrix = [] ∷ [];
  row_follower = (pos 0 ∷ pos 0 ∷ pos 1 ∷ []) ∷ [];
  row_inverse = (pos 1 ∷ neg_ℤ (pos 1) ∷ pos 1 ∷ []) ∷ [];
  column_follower = [];
  column_inverse = [];
  peak = 1;
}

hollow-reduced : two hollow no_transforms ≡ reduced 1 0 left
unfolding cells rule two reductions first_start after_first second product second_start after_second count_below boundary coefficient sign
    count_field cell_of cells_of sections_of without same start
    reduce run step next bring positive quotient row_pass column_pass column_keeps row_keeps row_indivisible first_indivisible
    release1 down_rows along_row better on_row on_column checked and_then within largest row_operation column_operation on_lines on_entries on_list line_less table_within table_largest row_largest table
    inverse identity null mul sum floor divides tabulate
hollow-reduced = refl

pub report-done : call 256 hollow report (nines 16) (nines 30) ≡ report_done
unfolding call host_call early_checks call_checks chain_checks chains_checks cycles_checks coefficient_exceeds boundary_not_zero cells splices splice
    count_field offset_field cell_of cells_of sections_of some vertices_do_not_rise cells_do_not_rise face_missing without same rises precedes listed start
    count_below boundary coefficient sign apply sum floor modulo residue tabulate report_list coordinate_list coordinate_at torsion_count bits_of halvings columns_of reported
    low_bytes number_bytes numbers_bytes coefficient_at other_length chain_from
report-done = rw hollow-reduced

pub report-refused : call 256 (asked hollow_triangle 4) report (nines 16) (nines 30) ≡ report_refused
unfolding call host_call early_checks call_checks chain_checks chains_checks cycles_checks coefficient_exceeds boundary_not_zero cells splices splice
    count_field offset_field cell_of cells_of sections_of some vertices_do_not_rise cells_do_not_rise face_missing without same rises precedes listed start
    count_below boundary coefficient sign apply sum floor modulo residue tabulate report_list coordinate_list coordinate_at torsion_count bits_of halvings columns_of reported
    low_bytes number_bytes numbers_bytes coefficient_at other_length chain_from
report-refused = refl

pub coordinates-done : call 256 hollow (coordinates backwards) (nines 4) (nines 30) ≡ coordinates_done
unfolding call host_call early_checks call_checks chain_checks chains_checks cycles_checks coefficient_exceeds boundary_not_zero cells splices splice
    count_field offset_field cell_of cells_of sections_of some vertices_do_not_rise cells_do_not_rise face_missing without same rises precedes listed start
    count_below boundary coefficient sign apply sum floor modulo residue tabulate report_list coordinate_list coordinate_at torsion_count bits_of halvings columns_of reported
    low_bytes number_bytes numbers_bytes coefficient_at other_length chain_from
coordinates-done = rw hollow-reduced

pub coordinates-refused : call 256 hollow (coordinates edge) (nines 4) (nines 30) ≡ coordinates_refused
unfolding call host_call early_checks call_checks chain_checks chains_checks cycles_checks coefficient_exceeds boundary_not_zero cells splices splice
    count_field offset_field cell_of cells_of sections_of some vertices_do_not_rise cells_do_not_rise face_missing without same rises precedes listed start
    count_below boundary coefficient sign apply sum floor modulo residue tabulate report_list coordinate_list coordinate_at torsion_count bits_of halvings columns_of reported
    low_bytes number_bytes numbers_bytes coefficient_at other_length chain_from
coordinates-refused = refl

pub lists-done : call 256 hollow (lists 2 both) (nines 7) (nines 30) ≡ lists_done
unfolding call host_call early_checks call_checks chain_checks chains_checks cycles_checks coefficient_exceeds boundary_not_zero cells splices splice
    count_field offset_field cell_of cells_of sections_of some vertices_do_not_rise cells_do_not_rise face_missing without same rises precedes listed start
    count_below boundary coefficient sign apply sum floor modulo residue tabulate report_list coordinate_list coordinate_at torsion_count bits_of halvings columns_of reported
    low_bytes number_bytes numbers_bytes coefficient_at other_length chain_from
lists-done = rw hollow-reduced

pub lists-refused : call 256 hollow (lists 2 edge) (nines 7) (nines 30) ≡ lists_refused
unfolding call host_call early_checks call_checks chain_checks chains_checks cycles_checks coefficient_exceeds boundary_not_zero cells splices splice
    count_field offset_field cell_of cells_of sections_of some vertices_do_not_rise cells_do_not_rise face_missing without same rises precedes listed start
    count_below boundary coefficient sign apply sum floor modulo residue tabulate report_list coordinate_list coordinate_at torsion_count bits_of halvings columns_of reported
    low_bytes number_bytes numbers_bytes coefficient_at other_length chain_from
lists-refused = refl

pub host-report-done : host_call hollow report (lent 118) ≡ host_report_done
unfolding call host_call early_checks call_checks chain_checks chains_checks cycles_checks coefficient_exceeds boundary_not_zero cells splices splice
    count_field offset_field cell_of cells_of sections_of some vertices_do_not_rise cells_do_not_rise face_missing without same rises precedes listed start
    count_below boundary coefficient sign apply sum floor modulo residue tabulate report_list coordinate_list coordinate_at torsion_count bits_of halvings columns_of reported
    low_bytes number_bytes numbers_bytes coefficient_at other_length chain_from
host-report-done = rw hollow-reduced

pub host-report-refused : host_call (asked hollow_triangle 4) report (lent 118) ≡ host_report_refused
unfolding call host_call early_checks call_checks chain_checks chains_checks cycles_checks coefficient_exceeds boundary_not_zero cells splices splice
    count_field offset_field cell_of cells_of sections_of some vertices_do_not_rise cells_do_not_rise face_missing without same rises precedes listed start
    count_below boundary coefficient sign apply sum floor modulo residue tabulate report_list coordinate_list coordinate_at torsion_count bits_of halvings columns_of reported
    low_bytes number_bytes numbers_bytes coefficient_at other_length chain_from
host-report-refused = refl

pub host-coordinates-done : host_call hollow (coordinates_in hollow backwards_bytes) (lent 29) ≡ host_coordinates_done
unfolding call host_call early_checks call_checks chain_checks chains_checks cycles_checks coefficient_exceeds boundary_not_zero cells splices splice
    count_field offset_field cell_of cells_of sections_of some vertices_do_not_rise cells_do_not_rise face_missing without same rises precedes listed start
    count_below boundary coefficient sign apply sum floor modulo residue tabulate report_list coordinate_list coordinate_at torsion_count bits_of halvings columns_of reported
    low_bytes number_bytes numbers_bytes coefficient_at other_length chain_from
host-coordinates-done = rw hollow-reduced

pub host-coordinates-refused : host_call hollow (coordinates_in hollow edge_bytes) (lent 29) ≡ host_coordinates_refused
unfolding call host_call early_checks call_checks chain_checks chains_checks cycles_checks coefficient_exceeds boundary_not_zero cells splices splice
    count_field offset_field cell_of cells_of sections_of some vertices_do_not_rise cells_do_not_rise face_missing without same rises precedes listed start
    count_below boundary coefficient sign apply sum floor modulo residue tabulate report_list coordinate_list coordinate_at torsion_count bits_of halvings columns_of reported
    low_bytes number_bytes numbers_bytes coefficient_at other_length chain_from
host-coordinates-refused = refl

pub host-lists-done : host_call hollow (lists_in hollow 2 both_bytes) (lent 51) ≡ host_lists_done
unfolding call host_call early_checks call_checks chain_checks chains_checks cycles_checks coefficient_exceeds boundary_not_zero cells splices splice
    count_field offset_field cell_of cells_of sections_of some vertices_do_not_rise cells_do_not_rise face_missing without same rises precedes listed start
    count_below boundary coefficient sign apply sum floor modulo residue tabulate report_list coordinate_list coordinate_at torsion_count bits_of halvings columns_of reported
    low_bytes number_bytes numbers_bytes coefficient_at other_length chain_from
host-lists-done = rw hollow-reduced

pub host-lists-refused : host_call hollow (lists_in hollow 2 edge_bytes) (lent 51) ≡ host_lists_refused
unfolding call host_call early_checks call_checks chain_checks chains_checks cycles_checks coefficient_exceeds boundary_not_zero cells splices splice
    count_field offset_field cell_of cells_of sections_of some vertices_do_not_rise cells_do_not_rise face_missing without same rises precedes listed start
    count_below boundary coefficient sign apply sum floor modulo residue tabulate report_list coordinate_list coordinate_at torsion_count bits_of halvings columns_of reported
    low_bytes number_bytes numbers_bytes coefficient_at other_length chain_from
host-lists-refused = refl
