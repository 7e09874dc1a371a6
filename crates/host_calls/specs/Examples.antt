-- Host calls on the hollow triangle, through both reductions.
--     host-examples     every call of `host_cases` gives its number and leaves its bytes
--     largest-number    a call on 4294967295 chains where there are no cells is done
use Rattle.std.specs.Prelude.{Bool, ◌&&◌, ℕ, List, [], ◌≡◌, refl, T, eqb, replicate}
use Rattle.std.proofs.Common.{eqb→eq}
use Rattle.integers.specs.Division.{floor, modulo, residue, divides}
use Rattle.lists.specs.Tabulate.{tabulate}
use Rattle.lists.specs.Splice.{splice, splices}
use Rattle.lists.specs.Same.{every, same_list, both, same_list-eq}
use Rattle.matrices.specs.Vector.{apply}
use Rattle.matrices.specs.Sum.{sum}
use Rattle.matrices.specs.Matrix.{mul, identity, null}
use Rattle.matrices.specs.Operation.{inverse}
use Rattle.complexes.specs.Cell.{without, same, rises, precedes, listed}
use Rattle.complexes.specs.Boundary.{sign, coefficient, count_below, boundary}
use Rattle.sheet_format.specs.Layout.{start}
use Rattle.sheet_format.specs.Check.{count_field, offset_field, cell_of, cells_of, sections_of, some, vertices_do_not_rise, cells_do_not_rise, face_missing, refusal}
use Rattle.reduction_steps.specs.Table.{table, row_largest, table_largest, table_within}
use Rattle.reduction_steps.specs.Lines.{on_list, line_less, on_lines, on_entries}
use Rattle.reduction_steps.specs.State.{largest, row_operation, column_operation, within, checked, and_then, on_row, on_column}
use Rattle.reduction_steps.specs.Pivot.{better, along_row, down_rows, release1}
use Rattle.reduction_steps.specs.Step.{column_keeps, row_keeps, row_indivisible, first_indivisible, positive, bring, quotient, row_pass, column_pass, next, step, run, reduce}
use Rattle.sheet_format.specs.Starred.{hollow_triangle}
use Rattle.reports.specs.Reductions.{first_start, product, second_start, after_second, second, after_first, reductions}
use Rattle.reports.specs.Report.{reported, columns_of, torsion_count, report_list, coordinate_at, coordinate_list}
use Rattle.reports.specs.Surface.{bounds_nothing, surface_at, surface_list}
use Rattle.requests.specs.Question.{asked, cells, rule, two}
use Rattle.requests.specs.Chains.{coefficient_exceeds, boundary_not_zero, chain_checks, cycles_checks, chains_checks}
use Rattle.requests.specs.Call.{report, call_checks, early_checks}
use Rattle.host_calls.specs.Bytes.{low_bytes, number_bytes, numbers_bytes, coefficient_at, other_length, chain_from}
use Rattle.host_calls.specs.Host.{HostCalled, host_call, coordinates_in, lists_in, surface_in}
use Rattle.host_calls.specs.HostListsLaws.{host-no-cells}
use Rattle.host_calls.specs.HostCases.{HostRequest, report_of, coordinates_of, lists_of, surface_of, HostCase, host_cases}

-- what a request on the hollow triangle gives
unfoldable pub called : ℕ → HostRequest → List ℕ → HostCalled
called p report_of output = host_call (asked hollow_triangle p) report output
called p (coordinates_of chain) output = host_call (asked hollow_triangle p) (coordinates_in (asked hollow_triangle p) chain) output
called p (lists_of many chains) output = host_call (asked hollow_triangle p) (lists_in (asked hollow_triangle p) many chains) output
called p (surface_of chain) output = host_call (asked hollow_triangle p) (surface_in (asked hollow_triangle p) chain) output

unfoldable pub same_called : HostCalled → HostCalled → Bool
same_called x y = eqb x.number y.number && same_list eqb x.output y.output

unfoldable pub host_good : HostCase → Bool
host_good c = same_called (called c.dimension c.request c.output) c.expected

-- a good case has exactly its number and its bytes
pub host_good-eq : (c : HostCase) → T (host_good c) → called c.dimension c.request c.output ≡ c.expected
unfolding host_good same_called
host_good-eq c t =
    let x = called c.dimension c.request c.output in
    let (number, output) = both (eqb x.number c.expected.number) _ t in
    λ i. record {
      number = eqb→eq x.number c.expected.number number i;
      output = same_list-eq eqb eqb→eq x.output c.expected.output output i;
    }

pub host-examples : T (every host_good host_cases)
unfolding every same_list host_good called same_called
    refusal count_field offset_field cell_of cells_of sections_of some vertices_do_not_rise cells_do_not_rise face_missing without same rises precedes listed start
    two cells rule reductions first_start after_first second product second_start after_second count_below boundary coefficient sign
    reduce run step next bring positive quotient row_pass column_pass column_keeps row_keeps row_indivisible first_indivisible
    release1 down_rows along_row better on_row on_column checked and_then within largest row_operation column_operation on_lines on_entries on_list line_less table_within table_largest row_largest table
    inverse identity null mul apply sum floor modulo residue divides tabulate reported torsion_count
    host_call early_checks call_checks chain_checks coefficient_exceeds boundary_not_zero chains_checks cycles_checks splices splice
    chain_from other_length coefficient_at numbers_bytes number_bytes low_bytes report_list coordinate_list coordinate_at columns_of bounds_nothing surface_list surface_at
host-examples = tt

-- where there are no cells, as many chains as the host call can be asked for are done
pub largest-number : host_call (asked hollow_triangle 2) (lists_in (asked hollow_triangle 2) 4294967295 []) (replicate 5 9) ≡ record { number = 0; output = replicate 5 9 }
unfolding host_call early_checks call_checks chains_checks cycles_checks splices chain_from
    refusal count_field offset_field cell_of cells_of sections_of some vertices_do_not_rise cells_do_not_rise face_missing without same rises precedes listed start
    two cells rule reductions first_start after_first second product second_start after_second count_below boundary coefficient sign
    reduce run step next column_keeps row_keeps row_indivisible first_indivisible
    release1 down_rows along_row better within largest table_within table_largest row_largest table identity mul sum tabulate torsion_count reported
largest-number = host-no-cells (asked hollow_triangle 2) refl 4294967295 [] (replicate 5 9)
