-- `count_line` meets its contract, step by step.
use mathlib.Core.Path.{refl, ◌∙◌}
use Rattle.mesh_format.specs.Parse.{line_end, count_line}
use Rattle.mesh_words.proofs.Steps.{fails, goes, from, failed-from}
use Rattle.mesh_words.proofs.Told.{skipped-none, skipped-moved, read-none, read-moved, read-fails, read-goes}
use Rattle.mesh_lines.proofs.line.count_line.Goals as goal

pub returns-in_err-n : goal.returns-in_err-n
unfolding count_line
returns-in_err-n c = c.from_residual.ensures ∙ read-fails _ (fails _ (read-none _ c.in_err-n.ensures))

pub returns-in_err-line_end : goal.returns-in_err-line_end
unfolding count_line
returns-in_err-line_end c =
    let n = read-moved _ c.in_ok-n.ensures in
    c.from_residual-in_err-line_end.ensures
    ∙ read-fails _ (goes _ n.is (fails _ (failed-from line_end c.args.r n.same (skipped-none _ c.in_err-line_end.ensures))))

pub returns : goal.returns
unfolding count_line
returns c =
    let n = read-moved _ c.in_ok-n.ensures in let end = from line_end c.args.r n.same (skipped-moved _ c.in_ok-line_end.ensures) in
    read-goes _ (record { is = goes _ n.is (goes _ end.is refl); same = end.same })
