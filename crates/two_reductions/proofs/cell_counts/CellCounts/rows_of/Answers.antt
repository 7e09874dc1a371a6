-- `CellCounts::rows_of` meets its contract: dimension 0 has no rows.
use mathlib.Core.Path.{sym, ◌∙◌}
use native.Mathlib.Omega.{arith}
use Rattle.sheet_format.specs.Check.{sections_of}
use Rattle.two_reductions.proofs.Sheet.{rows_none, rows_before}
use Rattle.two_reductions.proofs.cell_counts.CellCounts.rows_of.Goals as goal

pub returns-then-p-eq0 : goal.returns-then-p-eq0
returns-then-p-eq0 c =
    let args = c.args in
    record { is = sym (rows_none (sections_of args.s.now) args.p c.if-p-eq0.true); below = omega arith }

pub returns-else-p-eq0 : goal.returns-else-p-eq0
returns-else-p-eq0 c =
    let args = c.args in
    record {
      is = c.count.ensures.is ∙ sym (rows_before args.s.now args.p c.if-p-eq0.false);
      below = c.count.ensures.below;
    }
