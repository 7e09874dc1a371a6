-- The program's text: of two reductions with orders, and of sheets of document 01 through both reductions.
--     text-examples     every sheet of `text_cases` gives its text; kinds 1, 2, 6 and free give their lines, and too wide gives `R 13`
use Rattle.std.specs.Prelude.{Bool, [], ◌∷◌, ◌≡◌, refl, T, eqb}
use Rattle.std.proofs.Common.{eqb→eq}
use Rattle.integers.specs.Division.{floor, modulo, divides}
use Rattle.lists.specs.Tabulate.{tabulate}
use Rattle.lists.specs.Same.{every, same_list, same_list-eq}
use Rattle.matrices.specs.Sum.{sum}
use Rattle.matrices.specs.Matrix.{mul, identity, null}
use Rattle.matrices.specs.Operation.{inverse}
use Rattle.complexes.specs.Cell.{without, same, rises, precedes, listed}
use Rattle.complexes.specs.Boundary.{sign, coefficient, count_below, boundary}
use Rattle.sheet_format.specs.Layout.{start}
use Rattle.sheet_format.specs.Check.{count_field, offset_field, cell_of, cells_of, sections_of, some, vertices_do_not_rise, cells_do_not_rise, face_missing, refusal}
use Rattle.reduction_steps.specs.Table.{table, row_largest, table_largest, table_within}
use Rattle.reduction_steps.specs.Lines.{on_list, line_less, on_lines, on_entries}
use Rattle.reduction_steps.specs.State.{largest, row_operation, column_operation, within, checked, and_then, on_row, on_column}
use Rattle.reduction_steps.specs.Pivot.{better, along_row, down_rows, release1}
use Rattle.reduction_steps.specs.Step.{column_keeps, row_keeps, row_indivisible, first_indivisible, positive, bring, quotient, row_pass, column_pass, next, step, run, reduce}
use Rattle.reports.specs.Reductions.{too_wide, reduced, first_start, product, second_start, after_second, second, after_first, reductions}
use Rattle.reports.specs.Report.{reported, torsion_count}
use Rattle.reports.specs.ReportExamples.{left}
use Rattle.requests.specs.Question.{cells, rule, two}
use Rattle.program_text.specs.Text.{digits, decimal, spaced, generator_lines, dimension_text, dimensions_text, text_for, program_text}
use Rattle.program_text.specs.TextCases.{TextCase, text_cases}

unfoldable pub text_good : TextCase → Bool
text_good c = same_list eqb (program_text c.sheet) c.text

-- a good case has exactly its text
pub text_good-eq : (c : TextCase) → T (text_good c) → program_text c.sheet ≡ c.text
unfolding text_good
text_good-eq c t = same_list-eq eqb eqb→eq (program_text c.sheet) c.text t

pub record TextExamples : Type 0 where
  pub texts : T (every text_good text_cases)
  -- H 1 1 2 2 6, G -12 1 0 0, G 0 0 1 0 and G 0 0 0 1
  pub text : dimension_text 1 4 (reduced 4 3 left)
      ≡ 72 ∷ 32 ∷ 49 ∷ 32 ∷ 49 ∷ 32 ∷ 50 ∷ 32 ∷ 50 ∷ 32 ∷ 54 ∷ 10
      ∷ 71 ∷ 32 ∷ 45 ∷ 49 ∷ 50 ∷ 32 ∷ 49 ∷ 32 ∷ 48 ∷ 32 ∷ 48 ∷ 10
      ∷ 71 ∷ 32 ∷ 48 ∷ 32 ∷ 48 ∷ 32 ∷ 49 ∷ 32 ∷ 48 ∷ 10
      ∷ 71 ∷ 32 ∷ 48 ∷ 32 ∷ 48 ∷ 32 ∷ 48 ∷ 32 ∷ 49 ∷ 10
      ∷ []
  -- R 13
  pub wide : dimension_text 1 4 too_wide ≡ 82 ∷ 32 ∷ 49 ∷ 51 ∷ 10 ∷ []

pub text-examples : TextExamples
unfolding every same_list text_good
    refusal count_field offset_field cell_of cells_of sections_of some vertices_do_not_rise cells_do_not_rise face_missing without same rises precedes listed start
    two cells rule reductions first_start after_first second product second_start after_second count_below boundary coefficient sign
    reduce run step next bring positive quotient row_pass column_pass column_keeps row_keeps row_indivisible first_indivisible
    release1 down_rows along_row better on_row on_column checked and_then within largest row_operation column_operation on_lines on_entries on_list line_less table_within table_largest row_largest table
    inverse identity null mul sum floor modulo divides tabulate reported torsion_count
    program_text text_for dimensions_text dimension_text generator_lines spaced decimal digits
text-examples = record { texts = tt; text = refl; wide = refl }
