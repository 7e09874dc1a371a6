-- `word_line` meets its contract, step by step.
use mathlib.Core.Path.{refl, ap, ◌∙◌}
use Rattle.mesh_format.specs.Parse.{word, line_end, word_line}
use Rattle.mesh_words.specs.Class.{some_of}
use Rattle.mesh_words.specs.Tells.{bytes_of}
use Rattle.mesh_words.proofs.Steps.{fails, goes, from, failed-from}
use Rattle.mesh_words.proofs.Told.{skipped-none, skipped-moved, read-none, read-moved, read-fails, read-goes}
use Rattle.mesh_lines.proofs.line.word_line.Goals as goal

pub returns-in_err-word : goal.returns-in_err-word
unfolding word_line word some_of
returns-in_err-word c = ap bytes_of c.from_residual.ensures ∙ read-fails _ (fails _ (read-none _ c.in_err-word.ensures))

pub returns-in_err-line_end : goal.returns-in_err-line_end
unfolding word_line word some_of
returns-in_err-line_end c =
    let w = read-moved _ c.in_ok-word.ensures in
    ap bytes_of c.from_residual-in_err-line_end.ensures
    ∙ read-fails _ (goes _ w.is (fails _ (failed-from line_end c.args.r w.same (skipped-none _ c.in_err-line_end.ensures))))

pub returns : goal.returns
unfolding word_line word some_of
returns c =
    let w = read-moved _ c.in_ok-word.ensures in let end = from line_end c.args.r w.same (skipped-moved _ c.in_ok-line_end.ensures) in
    read-goes _ (record { is = goes _ w.is (goes _ end.is refl); same = end.same })
