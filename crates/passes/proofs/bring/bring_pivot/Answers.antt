-- `bring_pivot` meets its contract: each operation is one of those of step b, and the test of the sign is the one that step b makes.
use mathlib.Core.Path.{◌≡◌, ◌∙◌}
use Prim.Native.Nat.{ℕ}
use lib.ListN.{length}
use Rattle.matrices.specs.Operation.{swap, negate}
use Rattle.reduction_steps.specs.State.{made, on_row}
use Rattle.reduction_steps.specs.Step.{positive}
use Rattle.matrix_lines.specs.Slice.{entry_limit, Under}
use Rattle.operations.specs.Laid.{sizes_of, state_of}
use Rattle.passes.specs.PassAnswers.{bring_of}
use Rattle.passes.proofs.States.{operated-done, operated-under, operated-wide}
use Rattle.passes.proofs.Passes.{pass-refused}
use Rattle.passes.proofs.Brings.{bring-rows-wide, bring-columns-wide, bring-swapped, positive-left, positive-taken}
use Rattle.passes.proofs.bring.bring_pivot.Goals as goal
use Rattle.passes.proofs.bring.bring_pivot.Goals.{Start, After-swap_rows, After-max-swapped, After-swap_columns, After-max-brought, After-on_rows}

-- ---- after the rows were swapped

module _ (c : After-max-swapped) where
  abbrev first : Start
  first = (goal.at.After-max-swapped c).Start

  abbrev rows-called : After-swap_rows
  rows-called = (goal.at.After-max-swapped c).After-swap_rows

  abbrev rows-peak : ℕ
  rows-peak = c.max-swapped.result

  rows-swapped :
      on_row entry_limit (sizes_of first.args.workspace) (swap first.args.i first.args.k) (state_of first.args.workspace first.args.peak first.args.w.now)
      ≡ made (state_of first.args.workspace rows-peak rows-called.swap_rows.new.w)
  rows-swapped = operated-done rows-called.swap_rows.ensures c.in-Ok.is first.requires.under c.max-swapped.ensures

  rows_under : Under rows-peak rows-called.swap_rows.new.w
  rows_under = operated-under rows-called.swap_rows.ensures c.in-Ok.is first.requires.under c.max-swapped.ensures

-- ---- after the columns were swapped

module _ (c : After-max-brought) where
  abbrev rows : After-max-swapped
  rows = (goal.at.After-max-brought c).After-max-swapped

  abbrev called : After-swap_columns
  called = (goal.at.After-max-brought c).After-swap_columns

  abbrev peak : ℕ
  peak = c.max-brought.result

  under : Under peak called.swap_columns.new.w
  under = operated-under called.swap_columns.ensures c.in-Ok-swap_columns.is (rows_under rows) c.max-brought.ensures

  both-swapped :
      bring_of (first rows).args.workspace (first rows).args.k (first rows).args.i (first rows).args.j (first rows).args.peak (first rows).args.w.now
      ≡ positive entry_limit (sizes_of (first rows).args.workspace) (first rows).args.k (state_of (first rows).args.workspace peak called.swap_columns.new.w)
  both-swapped =
      bring-swapped entry_limit (sizes_of (first rows).args.workspace) (first rows).args.k (first rows).args.i (first rows).args.j (state_of (first rows).args.workspace (first rows).args.peak (first rows).args.w.now)
      (state_of (first rows).args.workspace (rows-peak rows) (rows-called rows).swap_rows.new.w)
      (state_of (first rows).args.workspace peak called.swap_columns.new.w)
      (rows-swapped rows) (operated-done called.swap_columns.ensures c.in-Ok-swap_columns.is (rows_under rows) c.max-brought.ensures)

  kept-both : length called.swap_columns.new.w ≡ length (first rows).args.w.now
  kept-both = called.swap_columns.auto.w ∙ (rows-called rows).swap_rows.auto.w

-- ---- what is answered

pub returns-in_default : goal.returns-in_default
returns-in_default c =
    let start = (goal.at.returns-in_default c).Start in
    let called = c.swap_rows in
    pass-refused called.new.w
    (bring-rows-wide entry_limit (sizes_of start.args.workspace) start.args.k start.args.i start.args.j (state_of start.args.workspace start.args.peak start.args.w.now)
    (operated-wide called.ensures c.in_default.is start.requires.under))
    c.clear.ensures called.auto.w

pub returns-in_default-swap_columns : goal.returns-in_default-swap_columns
returns-in_default-swap_columns c =
    let rows = (goal.at.returns-in_default-swap_columns c).After-max-swapped in
    let called = c.swap_columns in
    pass-refused called.new.w
    (bring-columns-wide entry_limit (sizes_of (first rows).args.workspace) (first rows).args.k (first rows).args.i (first rows).args.j
    (state_of (first rows).args.workspace (first rows).args.peak (first rows).args.w.now)
    (state_of (first rows).args.workspace (rows-peak rows) (rows-called rows).swap_rows.new.w)
    (rows-swapped rows) (operated-wide called.ensures c.in_default-swap_columns.is (rows_under rows)))
    c.clear-in_default-swap_columns.ensures (called.auto.w ∙ (rows-called rows).swap_rows.auto.w)

-- row k was negated
module _ (c : After-on_rows) where
  abbrev both : After-max-brought
  both = (goal.at.After-on_rows c).After-max-brought

  negated :
      bring_of (first (rows both)).args.workspace (first (rows both)).args.k (first (rows both)).args.i (first (rows both)).args.j (first (rows both)).args.peak (first (rows both)).args.w.now
      ≡ on_row entry_limit (sizes_of (first (rows both)).args.workspace) (negate (first (rows both)).args.k) (state_of (first (rows both)).args.workspace (peak both) (called both).swap_columns.new.w)
  negated =
      both-swapped both
      ∙ positive-taken entry_limit (sizes_of (first (rows both)).args.workspace) (first (rows both)).args.workspace (first (rows both)).args.k (called both).swap_columns.new.w
      (under both) (first (rows both)).requires.k_lt_lines.0 (first (rows both)).requires.k_lt_lines.1 c.entry.ensures c.if-entry-lt0.true

pub returns-in_default-on_rows : goal.returns-in_default-on_rows
returns-in_default-on_rows c =
    let called = (goal.at.returns-in_default-on_rows c).After-on_rows in
    pass-refused called.on_rows.new.w (negated called ∙ operated-wide called.on_rows.ensures c.in_default-on_rows.is (under (both called)))
    c.clear-in_default-on_rows.ensures (called.on_rows.auto.w ∙ kept-both (both called))

pub returns-then-entry-lt0 : goal.returns-then-entry-lt0
returns-then-entry-lt0 c =
    let called = (goal.at.returns-then-entry-lt0 c).After-on_rows in let is = c.in-Ok-on_rows.is in
    record {
      outcome = negated called ∙ operated-done called.on_rows.ensures is (under (both called)) c.max.ensures;
      kept = record {
        same_length = called.on_rows.auto.w ∙ kept-both (both called);
        under = operated-under called.on_rows.ensures is (under (both called)) c.max.ensures;
      };
    }

pub returns : goal.returns
returns c =
    let swapped = (goal.at.returns c).After-max-brought in
    let start = first (rows swapped) in
    let w = (called swapped).swap_columns.new.w in
    record {
      outcome =
          both-swapped swapped
          ∙ positive-left entry_limit (sizes_of start.args.workspace) start.args.workspace start.args.k w (under swapped)
          start.requires.k_lt_lines.0 start.requires.k_lt_lines.1 c.entry.ensures c.if-entry-lt0.false;
      kept = record { same_length = kept-both swapped; under = under swapped };
    }
