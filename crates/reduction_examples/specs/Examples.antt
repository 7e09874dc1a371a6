-- `reduction-examples`: the reduction of document 01, with the pivot rule of release 1, is good on every case of the table.
-- By `good-eq` of `Case`, a good case has exactly the outcome expected.
use Rattle.std.specs.Prelude.{List, ◌++◌, T}
use Rattle.lists.specs.Tabulate.{tabulate}
use Rattle.lists.specs.Same.{every, same_number, same_list}
use Rattle.integers.specs.Division.{floor, divides}
use Rattle.matrices.specs.Matrix.{identity}
use Rattle.matrices.specs.Operation.{inverse}
use Rattle.reduction_steps.specs.Table.{table, row_largest, table_largest}
use Rattle.reduction_steps.specs.Lines.{on_list, line_less, on_lines, on_entries}
use Rattle.reduction_steps.specs.State.{largest, row_operation, column_operation, within, checked, and_then, on_row, on_column}
use Rattle.reduction_steps.specs.Pivot.{better, along_row, down_rows, release1}
use Rattle.reduction_steps.specs.Step.{column_keeps, row_keeps, row_indivisible, first_indivisible, positive, bring, quotient, row_pass, column_pass, next, step, run, reduce}
use Rattle.reduction_examples.specs.Same.{same_table, same_state, same_machine}
use Rattle.reduction_examples.specs.Case.{Case, outcome, good}
use Rattle.reduction_examples.specs.StepCases.{steps, shapes}
use Rattle.reduction_examples.specs.LimitCases.{limits}
use Rattle.reduction_examples.specs.PeakCases.{peaks}

-- the table
abbrev pub cases : List Case
cases = steps ++ (shapes ++ (limits ++ peaks))

pub reduction-examples : T (every good cases)
unfolding tabulate floor divides identity inverse table row_largest table_largest largest on_list line_less on_lines on_entries row_operation column_operation within checked and_then on_row on_column better along_row down_rows release1 column_keeps row_keeps row_indivisible first_indivisible positive bring quotient row_pass column_pass next step run reduce same_number same_list same_table same_state same_machine outcome good every
reduction-examples = tt
