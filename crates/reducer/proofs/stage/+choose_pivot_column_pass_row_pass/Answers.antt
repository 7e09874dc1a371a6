-- The cycle of calls of a stage: pivot choice, row pass and column pass meet their contracts. Where a function goes, with what holds there, is a lemma
-- of `Stages`.
use Rattle.std.proofs.Common.{ℕ, length, sym, ap, ◌∙◌, arith}
use Rattle.std.proofs.Math.Nat as Nat
use Rattle.std.proofs.lemmas.Result.{err_from_is_err_and}
use Rattle.reduction_steps.specs.Pivot.{place, pivot_rule, Least}
use Rattle.reduction_steps.proofs.PivotLaws.{pivot_rule-is-rule}
use Rattle.reduction_steps.specs.Step.{Letter, at, row}
use Rattle.operations.specs.Laid.{state_of}
use Rattle.scans.specs.Scan.{pivot_choice, indivisible_row}
use Rattle.passes.specs.PassAnswers.{matrix_of, row_pass_of, column_pass_of, PassMade}
use Rattle.passes.proofs.States.{operated-done, operated-under, operated-wide}
use Rattle.passes.proofs.Words.{pivot-positive}
use Rattle.reducer.proofs.Measures.{calls-range}
use Rattle.reducer.proofs.Stages.{ToRows, ToChoice, ToColumns, ColumnsAgain, onward-ends, again, passed-made, pass-stops, Chosen, exhausted, chosen-least, bring-goes, to-rows, rows-go, column-reduced, rows-to-choice, rows-to-columns, columns-go, columns-to-choice, RowClear, row-clear, Found, cleared, row-lower, row_within, add-stops, columns-again}
use Rattle.reducer.proofs.stage.+choose_pivot_column_pass_row_pass.Goals as goal
use Rattle.reducer.proofs.stage.+choose_pivot_column_pass_row_pass.Goals.{choose_pivot-In-Some, choose_pivot-In_ok-brought, column_pass-In_ok-cleared, column_pass-Then-row_keeps, column_pass-Else-row_keeps, column_pass-In-Some, column_pass-After-max-reached, row_pass-In_ok-cleared, row_pass-Then-column_keeps, row_pass-Else-column_keeps}

-- ---- the pivot choice

pub choose_pivot-returns-then-rounds-eq0 : goal.choose_pivot-returns-then-rounds-eq0
choose_pivot-returns-then-rounds-eq0 t c = again c.requires c.args.rounds c.if-rounds-eq0.true

pub choose_pivot-returns-in_default : goal.choose_pivot-returns-in_default
choose_pivot-returns-in_default t c =
    exhausted pivot_rule-is-rule c.args.workspace c.args.k c.args.peak c.args.w.now c.requires (sym (ap pivot_choice c.in_default.is) ∙ c.find_pivot.ensures)

-- the place that was found
module _ (t : ℕ) (c : choose_pivot-In-Some t) where
  found : Chosen pivot_rule-is-rule c.args.workspace c.args.k c.args.peak c.args.w.now (place c.in-Some.i c.in-Some.j)
  found = sym (ap pivot_choice c.in-Some.is) ∙ c.find_pivot.ensures

  least : Least c.args.workspace.matrix.lines c.args.workspace.matrix.width c.args.k (matrix_of c.args.workspace c.args.w.now) c.in-Some.i c.in-Some.j
  least = chosen-least pivot_rule-is-rule c.args.workspace c.args.k c.args.peak c.args.w.now c.in-Some.i c.in-Some.j found

pub choose_pivot-bring_pivot-requires-clause-k_lt_lines :
    goal.choose_pivot-bring_pivot-requires-clause-k_lt_lines
choose_pivot-bring_pivot-requires-clause-k_lt_lines t c =
    let h = least t (goal.at.choose_pivot-bring_pivot-requires-clause-k_lt_lines t c).In-Some in
    (Nat.lt_of_le_of_lt h.row_from h.row_below, Nat.lt_of_le_of_lt h.column-from h.column-below, h.row_below, h.column-below)

pub choose_pivot-returns-in_err-brought : goal.choose_pivot-returns-in_err-brought
choose_pivot-returns-in_err-brought t c =
    let p = err_from_is_err_and c.from_residual.result c.from_residual.ensures.1 in
    rw (p.1, p.2) (pass-stops c.args.workspace (at Letter.a c.args.k (state_of c.args.workspace c.args.peak c.args.w.now)) c.bring_pivot.result c.bring_pivot.new.w
    (bring-goes pivot_rule-is-rule c.args.workspace c.args.k c.args.peak c.args.w.now c.in-Some.i c.in-Some.j
    (found t (goal.at.choose_pivot-returns-in_err-brought t c).In-Some))
    c.in_err-brought.was c.bring_pivot.ensures)

-- after step b
module _ (t : ℕ) (c : choose_pivot-In_ok-brought t) where
  to-row-pass : ToRows pivot_rule c.args.workspace c.args.k c.args.peak c.args.w.now c.in_ok-brought.brought c.bring_pivot.new.w
  to-row-pass =
      to-rows pivot_rule-is-rule c.args.workspace c.args.k c.args.peak c.args.w.now c.in-Some.i c.in-Some.j
      (found t (goal.at.choose_pivot-In_ok-brought t c).In-Some) c.requires (passed-made c.in_ok-brought.was c.bring_pivot.ensures)

pub choose_pivot-row_pass-requires : goal.choose_pivot-row_pass-requires
choose_pivot-row_pass-requires t c =
    (omega (arith, c.decreases, c.if-rounds-eq0.false), (to-row-pass t (goal.at.choose_pivot-row_pass-requires t c).In_ok-brought).holds)

pub choose_pivot-returns : goal.choose_pivot-returns
choose_pivot-returns t c =
    onward-ends (to-row-pass t (goal.at.choose_pivot-returns t c).In_ok-brought) _ _ (omega (arith, c.if-rounds-eq0.false)) c.row_pass.result c.row_pass.new.w c.row_pass.ensures

-- ---- the column pass

pub column_pass-returns-in_err-cleared : goal.column_pass-returns-in_err-cleared
column_pass-returns-in_err-cleared t c =
    let p = err_from_is_err_and c.from_residual.result c.from_residual.ensures.1 in
    rw (p.1, p.2) (pass-stops c.args.workspace (at Letter.d c.args.k (state_of c.args.workspace c.args.peak c.args.w.now)) c.clear_row.result c.clear_row.new.w
    (columns-go pivot_rule-is-rule c.requires) c.in_err-cleared.was c.clear_row.ensures)

-- after step d
columns-made :
    (t : ℕ) (c : column_pass-In_ok-cleared t)
    → PassMade c.args.workspace (column_pass_of c.args.workspace c.args.k c.args.peak c.args.w.now) (length c.args.w.now) c.in_ok-cleared.cleared c.clear_row.new.w
columns-made t c = passed-made c.in_ok-cleared.was c.clear_row.ensures

column-to-choice :
    (t : ℕ) (c : column_pass-Then-row_keeps t)
    → ToChoice pivot_rule Letter.d c.args.workspace c.args.k c.args.peak c.args.w.now c.in_ok-cleared.cleared c.clear_row.new.w
column-to-choice t c =
    columns-to-choice pivot_rule-is-rule c.requires (columns-made t (goal.at.column_pass-Then-row_keeps t c).In_ok-cleared) (sym c.if-row_keeps.true ∙ c.row_keeps.ensures)

column-cleared :
    (t : ℕ) (c : column_pass-Else-row_keeps t)
    → RowClear pivot_rule c.args.workspace c.args.k c.args.peak c.args.w.now c.in_ok-cleared.cleared c.clear_row.new.w
column-cleared t c =
    row-clear pivot_rule-is-rule c.requires (columns-made t (goal.at.column_pass-Else-row_keeps t c).In_ok-cleared) (sym c.if-row_keeps.false ∙ c.row_keeps.ensures)

pub column_pass-choose_pivot-requires : goal.column_pass-choose_pivot-requires
column_pass-choose_pivot-requires t c =
    (omega (arith, c.decreases, calls-range c.args.workspace.matrix.width c.args.k (matrix_of c.args.workspace c.args.w.now)), (column-to-choice t (goal.at.column_pass-choose_pivot-requires t c).Then-row_keeps).holds)

pub column_pass-returns-then-row_keeps : goal.column_pass-returns-then-row_keeps
column_pass-returns-then-row_keeps t c =
    onward-ends (column-to-choice t (goal.at.column_pass-returns-then-row_keeps t c).Then-row_keeps) _ _ (omega arith) c.choose_pivot.result c.choose_pivot.new.w c.choose_pivot.ensures

pub column_pass-first_indivisible-requires-clause-k_lt_lines :
    goal.column_pass-first_indivisible-requires-clause-k_lt_lines
column_pass-first_indivisible-requires-clause-k_lt_lines t c =
    let ready = (column-cleared t (goal.at.column_pass-first_indivisible-requires-clause-k_lt_lines t c).Else-row_keeps).ready.ready.ready in
    (ready.row, ready.column, pivot-positive c.args.workspace c.args.k c.clear_row.new.w ready)

pub column_pass-returns-in_default :
    goal.column_pass-returns-in_default
column_pass-returns-in_default t c =
    cleared (column-cleared t (goal.at.column_pass-returns-in_default t c).Else-row_keeps)
    (sym (ap indivisible_row c.in_default.is) ∙ c.first_indivisible.ensures)

-- the row that was found
module _ (t : ℕ) (c : column_pass-In-Some t) where
  before-row : RowClear pivot_rule c.args.workspace c.args.k c.args.peak c.args.w.now c.in_ok-cleared.cleared c.clear_row.new.w
  before-row = column-cleared t (goal.at.column_pass-In-Some t c).Else-row_keeps

  found-lower : Found before-row (row c.in-Some.i)
  found-lower = sym (ap indivisible_row c.in-Some.is) ∙ c.first_indivisible.ensures

pub column_pass-on_rows-requires-clause-fits : goal.column_pass-on_rows-requires-clause-fits
column_pass-on_rows-requires-clause-fits t c =
    let r = (goal.at.column_pass-on_rows-requires-clause-fits t c).In-Some in
    let h = before-row t r in
    let f = found-lower t r in record {
      within = record {
        changed = h.ready.ready.ready.row;
        taken = row_within h c.in-Some.i f;
        distinct = λ e. omega (arith, row-lower h c.in-Some.i f);
      };
      factor = omega arith;
    }

-- the addition of step e went too wide
pub column_pass-returns-in_default-on_rows : goal.column_pass-returns-in_default-on_rows
column_pass-returns-in_default-on_rows t c =
    let r = (goal.at.column_pass-returns-in_default-on_rows t c).In-Some in
    let h = before-row t r in
    add-stops h c.in-Some.i (found-lower t r) c.on_rows.new.w (operated-wide c.on_rows.ensures c.in_default-on_rows.is h.under) c.clear.ensures c.on_rows.auto.w

-- after step e
column_again :
    (t : ℕ) (c : column_pass-After-max-reached t)
    → ColumnsAgain pivot_rule c.args.workspace c.args.k c.args.peak c.args.w.now c.max-reached.result c.on_rows.new.w
column_again t c =
    let r = (goal.at.column_pass-After-max-reached t c).In-Some in
    let h = before-row t r in let is = c.in-Ok.is in
    columns-again h c.in-Some.i (found-lower t r) (operated-done c.on_rows.ensures is h.under c.max-reached.ensures)
    (operated-under c.on_rows.ensures is h.under c.max-reached.ensures) c.on_rows.auto.w

pub column_pass-column_pass-requires : goal.column_pass-column_pass-requires
column_pass-column_pass-requires t c =
    let o = column_again t (goal.at.column_pass-column_pass-requires t c).After-max-reached in
    (omega (arith, c.decreases, o.calls), o.onward.holds)

pub column_pass-returns : goal.column_pass-returns
column_pass-returns t c =
    onward-ends (column_again t (goal.at.column_pass-returns t c).After-max-reached).onward _ _ (omega arith) c.column_pass.result c.column_pass.new.w c.column_pass.ensures

-- ---- the row pass

pub row_pass-returns-in_err-cleared : goal.row_pass-returns-in_err-cleared
row_pass-returns-in_err-cleared t c =
    let p = err_from_is_err_and c.from_residual.result c.from_residual.ensures.1 in
    rw (p.1, p.2) (pass-stops c.args.workspace (at Letter.c c.args.k (state_of c.args.workspace c.args.peak c.args.w.now)) c.clear_column.result c.clear_column.new.w
    (rows-go pivot_rule-is-rule c.requires) c.in_err-cleared.was c.clear_column.ensures)

-- after step c
rows_made :
    (t : ℕ) (c : row_pass-In_ok-cleared t)
    → PassMade c.args.workspace (row_pass_of c.args.workspace c.args.k c.args.peak c.args.w.now) (length c.args.w.now) c.in_ok-cleared.cleared c.clear_column.new.w
rows_made t c = passed-made c.in_ok-cleared.was c.clear_column.ensures

pub row_pass-column_keeps-requires-clause-k_lt_lines :
    goal.row_pass-column_keeps-requires-clause-k_lt_lines
row_pass-column_keeps-requires-clause-k_lt_lines t c =
    let h = c.requires in
    (h.ready.row, h.ready.column, column-reduced pivot_rule-is-rule h (rows_made t (goal.at.row_pass-column_keeps-requires-clause-k_lt_lines t c).In_ok-cleared))

row-to-choice :
    (t : ℕ) (c : row_pass-Then-column_keeps t)
    → ToChoice pivot_rule Letter.c c.args.workspace c.args.k c.args.peak c.args.w.now c.in_ok-cleared.cleared c.clear_column.new.w
row-to-choice t c =
    rows-to-choice pivot_rule-is-rule c.requires (rows_made t (goal.at.row_pass-Then-column_keeps t c).In_ok-cleared) (sym c.if-column_keeps.true ∙ c.column_keeps.ensures)

row-to-columns :
    (t : ℕ) (c : row_pass-Else-column_keeps t)
    → ToColumns pivot_rule Letter.c c.args.workspace c.args.k c.args.peak c.args.w.now c.in_ok-cleared.cleared c.clear_column.new.w
row-to-columns t c =
    rows-to-columns pivot_rule-is-rule c.requires (rows_made t (goal.at.row_pass-Else-column_keeps t c).In_ok-cleared) (sym c.if-column_keeps.false ∙ c.column_keeps.ensures)

pub row_pass-choose_pivot-requires : goal.row_pass-choose_pivot-requires
row_pass-choose_pivot-requires t c = (omega (arith, c.decreases), (row-to-choice t (goal.at.row_pass-choose_pivot-requires t c).Then-column_keeps).holds)

pub row_pass-returns-then-column_keeps : goal.row_pass-returns-then-column_keeps
row_pass-returns-then-column_keeps t c =
    onward-ends (row-to-choice t (goal.at.row_pass-returns-then-column_keeps t c).Then-column_keeps) _ _ (omega arith) c.choose_pivot.result c.choose_pivot.new.w c.choose_pivot.ensures

pub row_pass-column_pass-requires : goal.row_pass-column_pass-requires
row_pass-column_pass-requires t c =
    (omega (arith, c.decreases, calls-range c.args.workspace.matrix.width c.args.k (matrix_of c.args.workspace c.clear_column.new.w)), (row-to-columns t (goal.at.row_pass-column_pass-requires t c).Else-column_keeps).holds)

pub row_pass-returns : goal.row_pass-returns
row_pass-returns t c =
    onward-ends (row-to-columns t (goal.at.row_pass-returns t c).Else-column_keeps) _ _ (omega arith) c.column_pass.result c.column_pass.new.w c.column_pass.ensures
