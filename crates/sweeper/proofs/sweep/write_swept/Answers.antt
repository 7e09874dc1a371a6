-- `write_swept` meets its contract: the loose nodes are marked, and the cells without a mark are kept.
use mathlib.Core.Path.{subst}
use Rattle.complexes.specs.Complex.{Sections}
use Rattle.sheet_format.specs.Layout.{layout}
use Rattle.refusal.specs.Written.{WriteAnswers}
use Rattle.cell_keeper.specs.Keeps.{write_over}
use Rattle.sweeper.proofs.Marked.{no-marks, marks-room, marked-swept}
use Rattle.sweeper.proofs.sweep.write_swept.Goals as goal
use Rattle.sweeper.proofs.sweep.write_swept.Goals.{Start, After-mark_loose, After-keep_cells}

pub mark_loose-requires : goal.mark_loose-requires
mark_loose-requires c = let start = (goal.at.mark_loose-requires c).Start in no-marks start.args.s.now start.requires

pub keep_cells-requires : goal.keep_cells-requires
keep_cells-requires c =
    let marked = (goal.at.keep_cells-requires c).After-mark_loose in
    let start = (goal.at.After-mark_loose marked).Start in
    (start.requires, marks-room start.args.s.now start.requires marked.mark_loose.ensures)

pub returns : goal.returns
returns c =
    let kept = (goal.at.returns c).After-keep_cells in
    let marked = (goal.at.After-keep_cells kept).After-mark_loose in
    let start = (goal.at.After-mark_loose marked).Start in
    subst (λ (K : Sections). WriteAnswers (write_over (layout K) start.args.out.now) kept.keep_cells.result kept.keep_cells.new.out)
    (marked-swept start.args.s.now start.requires marked.mark_loose.ensures) kept.keep_cells.ensures
