-- The two reductions of an edge at the entry limits 0 and 1: too wide in the first, too wide in the product, the peak of the first, and every transform
-- kept.
--     examples      where the work ends, and what it leaves
use Rattle.std.specs.Prelude.{true, [], ◌∷◌, ◌≡◌, refl, ℕ, ℤ, pos, neg_ℤ}
use Rattle.integers.specs.Division.{floor, modulo, divides}
use Rattle.lists.specs.Tabulate.{tabulate}
use Rattle.matrices.specs.Sum.{sum}
use Rattle.matrices.specs.Matrix.{mul, identity, null}
use Rattle.matrices.specs.Operation.{inverse}
use Rattle.complexes.specs.Cell.{without, same, listed}
use Rattle.complexes.specs.Boundary.{sign, coefficient, count_below, boundary}
use Rattle.sheet_format.specs.Starred.{edge_sections}
use Rattle.reduction_steps.specs.Table.{table, row_largest, table_largest, table_within}
use Rattle.reduction_steps.specs.Lines.{on_list, line_less, on_lines, on_entries}
use Rattle.reduction_steps.specs.State.{largest, row_operation, column_operation, within, checked, and_then, on_row, on_column}
use Rattle.reduction_steps.specs.Pivot.{better, along_row, down_rows, release1}
use Rattle.reduction_steps.specs.Step.{column_keeps, row_keeps, row_indivisible, first_indivisible, positive, bring, quotient, row_pass, column_pass, next, step, run, reduce}
use Rattle.reports.specs.Reductions.{reduced, Transforms, no_transforms, first_start, product, second_start, after_second, second, after_first, reductions}
use Rattle.reports.specs.WideEnd.{in_first, in_product, at_end, end_of_second, end_of_product, end_of_first, end}

abbrev minus : ℕ → ℤ
minus n = neg_ℤ (pos n)

abbrev all_transforms : Transforms
all_transforms = record { first_rows = true; second_rows = true; second_columns = true; second_columns_inverse = true }

pub record Examples : Type 0 where
  pub wide_in_first : end no_transforms release1 0 edge_sections 1 ≡ in_first
  pub wide_in_product : end no_transforms release1 0 edge_sections 0 ≡ in_product
  pub not_wide : end no_transforms release1 1 edge_sections 1 ≡ at_end
  -- the second reduction has no entries: the peak is that of the first
  pub peak_of_first : reductions no_transforms release1 1 edge_sections 1
      ≡ reduced 0 0 (record { matrix = []; row_follower = []; row_inverse = []; column_follower = []; column_inverse = []; peak = 1 })
  -- all transforms kept, in dimension 0: Q and G are identities with identities beside them. Row 0 of the product (-1, 1) is negated, then taken from
  -- row 1; in G column 0 is negated, then column 1 added to it; there is no operation on the one column
  pub all_kept : reductions all_transforms release1 1 edge_sections 0
      ≡ reduced 2 1 (record {
        matrix = (pos 1 ∷ []) ∷ (pos 0 ∷ []) ∷ [];
        row_follower = (minus 1 ∷ pos 0 ∷ minus 1 ∷ pos 0 ∷ []) ∷ (pos 1 ∷ pos 1 ∷ pos 1 ∷ pos 1 ∷ []) ∷ [];
        row_inverse = (minus 1 ∷ pos 1 ∷ minus 1 ∷ pos 1 ∷ []) ∷ (pos 0 ∷ pos 1 ∷ pos 0 ∷ pos 1 ∷ []) ∷ [];
        column_follower = (pos 1 ∷ []) ∷ [];
        column_inverse = (pos 1 ∷ []) ∷ [];
        peak = 1;
      })

pub examples : Examples
unfolding end end_of_first end_of_product end_of_second
    reductions first_start after_first second product second_start after_second count_below boundary coefficient sign without same listed
    reduce run step next bring positive quotient row_pass column_pass column_keeps row_keeps row_indivisible first_indivisible
    release1 down_rows along_row better on_row on_column checked and_then within largest row_operation column_operation on_lines on_entries on_list line_less table_within table_largest row_largest table
    inverse identity null mul sum floor modulo divides tabulate
examples = record { wide_in_first = refl; wide_in_product = refl; not_wide = refl; peak_of_first = refl; all_kept = refl }
