-- `node_line` meets its contract, step by step.
use mathlib.Core.Path.{refl, ◌∙◌}
use Rattle.mesh_format.specs.Parse.{words, line_end, node_line}
use Rattle.mesh_words.proofs.Steps.{fails, goes, from, failed-from}
use Rattle.mesh_words.proofs.Told.{skipped-none, skipped-moved, read-none, read-moved, read-fails, read-goes}
use Rattle.mesh_lines.proofs.line.node_line.Goals as goal

pub returns-in_err-v : goal.returns-in_err-v
unfolding node_line
returns-in_err-v c = c.from_residual.ensures ∙ read-fails _ (fails _ (read-none _ c.in_err-v.ensures))

pub returns-in_err-words : goal.returns-in_err-words
unfolding node_line
returns-in_err-words c =
    let v = read-moved _ c.in_ok-v.ensures in
    c.from_residual-in_err-words.ensures
    ∙ read-fails _ (goes _ v.is (fails _ (failed-from (words 3) c.args.r v.same (skipped-none _ c.in_err-words.ensures))))

pub returns-in_err-line_end : goal.returns-in_err-line_end
unfolding node_line
returns-in_err-line_end c =
    let v = read-moved _ c.in_ok-v.ensures in let w = from (words 3) c.args.r v.same (skipped-moved _ c.in_ok-words.ensures) in
    c.from_residual-in_err-line_end.ensures
    ∙ read-fails _ (goes _ v.is (goes _ w.is (fails _ (failed-from line_end c.args.r w.same (skipped-none _ c.in_err-line_end.ensures)))))

pub returns : goal.returns
unfolding node_line
returns c =
    let v = read-moved _ c.in_ok-v.ensures in let w = from (words 3) c.args.r v.same (skipped-moved _ c.in_ok-words.ensures) in
    let end = from line_end c.args.r w.same (skipped-moved _ c.in_ok-line_end.ensures) in
    read-goes _ (record { is = goes _ v.is (goes _ w.is (goes _ end.is refl)); same = end.same })
