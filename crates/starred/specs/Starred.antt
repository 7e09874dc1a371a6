-- `starred-sheets-and-calls`: the calls are good on every case of the table, which holds the starred sheets of document 01, calls on many chains and calls
-- for a surface. By `good-eq` of `Case`, a good case has exactly the answer, the output slice and the work slice expected.
-- `largest-number`: where there are no cells, as many chains as 64 bits can count are done.
use Rattle.std.specs.Prelude.{◌≡◌, refl, List, [], ◌++◌, T}
use Rattle.integers.specs.Division.{floor, modulo, residue, divides}
use Rattle.lists.specs.Tabulate.{tabulate}
use Rattle.lists.specs.Splice.{splice, splices}
use Rattle.matrices.specs.Sum.{sum}
use Rattle.matrices.specs.Matrix.{mul, identity, null}
use Rattle.matrices.specs.Vector.{apply}
use Rattle.matrices.specs.Operation.{inverse}
use Rattle.complexes.specs.Cell.{without, same, rises, precedes, listed}
use Rattle.complexes.specs.Boundary.{sign, coefficient, count_below, boundary}
use Rattle.sheet_format.specs.Layout.{start}
use Rattle.limits.specs.Limits.{library_limit}
use Rattle.sheet_format.specs.Starred.{hollow_triangle}
use Rattle.sheet_format.specs.Check.{count_field, offset_field, cell_of, cells_of, sections_of, some, vertices_do_not_rise, cells_do_not_rise, face_missing, refusal}
use Rattle.lists.specs.Same.{every, same_number, same_list}
use Rattle.reduction_steps.specs.Table.{table, row_largest, table_largest, table_within}
use Rattle.reduction_steps.specs.Lines.{on_list, line_less, on_lines, on_entries}
use Rattle.reduction_steps.specs.State.{largest, row_operation, column_operation, within, checked, and_then, on_row, on_column}
use Rattle.reduction_steps.specs.Pivot.{better, along_row, down_rows, release1}
use Rattle.reduction_steps.specs.Step.{column_keeps, row_keeps, row_indivisible, first_indivisible, positive, bring, quotient, row_pass, column_pass, next, step, run, reduce}
use Rattle.reports.specs.Reductions.{first_start, product, second_start, after_second, second, after_first, reductions}
use Rattle.reports.specs.Report.{reported, columns_of, torsion_count, halvings, bits_of, report_list, coordinate_at, coordinate_list}
use Rattle.reports.specs.Surface.{bounds_nothing, surface_at, surface_list}
use Rattle.trials.specs.Trial.{done}
use Rattle.requests.specs.Question.{asked, cells, rule, two}
use Rattle.requests.specs.Chains.{coefficient_exceeds, boundary_not_zero, chain_checks, cycles_checks, chains_checks}
use Rattle.requests.specs.Call.{lists, call_checks, early_checks, call}
use Rattle.requests.proofs.ListsLaws.{no_cells}
use Rattle.starred.specs.Same.{same_slice, same_counts, same_answer, same_called}
use Rattle.starred.specs.Case.{Case, good, counts, nines, zeros}
use Rattle.starred.specs.DoneCases.{no_cells_cases, report_cases, coordinate_cases}
use Rattle.starred.specs.RefusedCases.{sheet_cases, loose_cases, dimension_cases, slice_cases, chain_cases}
use Rattle.starred.specs.ListCases.{list_cases}
use Rattle.starred.specs.SurfaceCases.{surface_done_cases, bounds_nothing_cases, surface_refused_cases}

-- the table
abbrev pub cases : List Case
cases = no_cells_cases ++ (report_cases ++ (coordinate_cases ++ (sheet_cases ++ (loose_cases ++ (dimension_cases ++ (slice_cases ++ (chain_cases ++ (list_cases ++ (surface_done_cases ++ (bounds_nothing_cases ++ surface_refused_cases))))))))))

pub starred-sheets-and-calls : T (every good cases)
unfolding every good same_called same_answer same_counts same_slice same_list same_number
    call early_checks call_checks chain_checks chains_checks cycles_checks coefficient_exceeds boundary_not_zero cells rule two
    refusal count_field offset_field cell_of cells_of sections_of some vertices_do_not_rise cells_do_not_rise face_missing without same rises precedes listed start
    reductions first_start after_first second product second_start after_second count_below boundary coefficient sign
    reduce run step next bring positive quotient row_pass column_pass column_keeps row_keeps row_indivisible first_indivisible
    release1 down_rows along_row better on_row on_column checked and_then within largest row_operation column_operation on_lines on_entries on_list line_less table_within table_largest row_largest table
    inverse identity null mul apply sum floor modulo residue divides tabulate
    report_list coordinate_list coordinate_at torsion_count bits_of halvings columns_of reported bounds_nothing surface_list surface_at
    splices splice
starred-sheets-and-calls = tt

pub largest-number : call library_limit (asked hollow_triangle 2) (lists 18446744073709551615 []) (nines 2) (nines 3)
    ≡ record { answer = done (counts 0 0 0 0); output = nines 2; work = zeros 3 }
unfolding call early_checks call_checks chains_checks cycles_checks cells rule two splices
    refusal count_field offset_field cell_of cells_of sections_of some vertices_do_not_rise cells_do_not_rise face_missing without same rises precedes listed start
    reductions first_start after_first second product second_start after_second count_below boundary coefficient sign
    reduce run step next column_keeps row_keeps row_indivisible first_indivisible
    release1 down_rows along_row better within largest table_within table_largest row_largest table identity mul sum tabulate torsion_count bits_of halvings reported
largest-number = no_cells (asked hollow_triangle 2) refl library_limit 18446744073709551615 [] (nines 2) (nines 3)
