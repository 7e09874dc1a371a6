-- `reductions::reduce_first` meets its contract: the slice is filled with the start of the first reduction, which is then the definition's (`Outcomes`).
use mathlib.Core.Path.{◌≡◌, ◌∙◌, ap}
use lib.ListN.{length}
use Rattle.complexes.specs.Complex.{count}
use Rattle.sheet_format.specs.Check.{sections_of}
use Rattle.reduction_steps.specs.Pivot.{pivot_rule}
use Rattle.two_reductions.specs.Slices.{first_workspace_of, start_peak}
use Rattle.two_reductions.proofs.Sheet.{cells-of, first_of}
use Rattle.two_reductions.proofs.Filling.{laid}
use Rattle.two_reductions.proofs.Outcomes.{first-reduces}
use Rattle.two_reductions.proofs.reductions.reduce_first.Goals as goal
use Rattle.two_reductions.proofs.reductions.reduce_first.Goals.{Start, After-first_workspace-first, After-start_peak, After-reduce_matrix}

module _ (c : After-first_workspace-first) where
  abbrev start : Start
  start = (goal.at.After-first_workspace-first c).Start

  first-is : c.first_workspace-first.result ≡ first_workspace_of (sections_of start.args.s.now) start.args.p
  first-is = c.first_workspace-first.ensures ∙ first_of start.requires.cell_counts_read

module _ (c : After-start_peak) where
  abbrev first : After-first_workspace-first
  first = (goal.at.After-start_peak c).After-first_workspace-first

  -- the peak at the start
  started-from : let s = start first in c.start_peak.result ≡ start_peak (count (sections_of s.args.s.now) s.args.p)
  started-from = c.start_peak.ensures ∙ ap start_peak (cells-of (start first).requires.cell_counts_read)

pub reduce_matrix-requires : goal.reduce_matrix-requires
reduce_matrix-requires c =
    let s = start (first c) in
    let filled = c.fill_first.ensures in
    record {
      laid = rw filled.kept.same_length
          (laid (sections_of s.args.s.now) s.args.p (length s.args.w.now) s.requires.p_in_bounds (first c).first_workspace-first.result (first-is (first c)));
      under = rw (started-from c) filled.kept.under;
    }

pub returns : goal.returns
returns c =
    let called = (goal.at.returns c).After-reduce_matrix in
    let began = first (goal.at.After-reduce_matrix called).After-start_peak in
    let s = start began in
    first-reduces pivot_rule (sections_of s.args.s.now) s.args.p (length s.args.w.now) began.first_workspace-first.result (first-is began)
    called.fill_first.ensures (started-from (goal.at.After-reduce_matrix called).After-start_peak) called.reduce_matrix.result called.reduce_matrix.new.w called.reduce_matrix.ensures
