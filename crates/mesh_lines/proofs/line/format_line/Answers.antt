-- `format_line` meets its contract, step by step.
use mathlib.Core.Path.{refl, sym, ap, ◌∙◌}
use mathlib.Core.List.{List}
use Prim.Native.Nat.{ℕ}
use Rattle.mesh_format.specs.Words.{zero_word}
use Rattle.mesh_format.specs.Parse.{Parsed, gap, the_word, number, line_end, format_line}
use Rattle.mesh_words.specs.Steps.{skip}
use Rattle.mesh_words.specs.Tells.{tell_skipped}
use Rattle.mesh_words.proofs.Steps.{fails, goes, skip-fails, skip-goes, from, failed-from}
use Rattle.mesh_words.proofs.Told.{skipped-none, skipped-moved, read-none, read-moved, skipped-fails, skipped-from}
use Rattle.mesh_lines.proofs.line.format_line.Goals as goal

-- the steps so far
abbrev spaces : List ℕ → ℕ → Parsed Unit
spaces s at = skip (gap s at)

pub returns-in_err-version : goal.returns-in_err-version
unfolding format_line
returns-in_err-version c = c.from_residual.ensures ∙ skipped-fails _ (fails _ (skipped-none _ c.in_err-version.ensures))

pub returns-in_err-spaces : goal.returns-in_err-spaces
unfolding format_line
returns-in_err-spaces c =
    let v = skipped-moved _ c.in_ok-version.ensures in
    c.from_residual-in_err-spaces.ensures
    ∙ skipped-fails _ (goes _ v.is (skip-fails _ _ (failed-from spaces c.args.r v.same (skipped-none _ c.in_err-spaces.ensures))))

pub returns-in_err-zero : goal.returns-in_err-zero
unfolding format_line
returns-in_err-zero c =
    let v = skipped-moved _ c.in_ok-version.ensures in let a = from spaces c.args.r v.same (skipped-moved _ c.in_ok-spaces.ensures) in
    c.from_residual-in_err-zero.ensures
    ∙ skipped-fails _ (goes _ v.is (skip-goes _ _ a.is (fails _ (failed-from (the_word zero_word) c.args.r a.same (skipped-none _ c.in_err-zero.ensures)))))

pub returns-in_err-spaces-2 : goal.returns-in_err-spaces-2
unfolding format_line
returns-in_err-spaces-2 c =
    let v = skipped-moved _ c.in_ok-version.ensures in let a = from spaces c.args.r v.same (skipped-moved _ c.in_ok-spaces.ensures) in
    let z = from (the_word zero_word) c.args.r a.same (skipped-moved _ c.in_ok-zero.ensures) in
    c.from_residual-in_err-spaces-2.ensures
    ∙ skipped-fails _ (goes _ v.is (skip-goes _ _ a.is (goes _ z.is
    (skip-fails _ _ (failed-from spaces c.args.r z.same (skipped-none _ c.in_err-spaces-2.ensures))))))

pub returns-in_err-end : goal.returns-in_err-end
unfolding format_line
returns-in_err-end c =
    let v = skipped-moved _ c.in_ok-version.ensures in let a = from spaces c.args.r v.same (skipped-moved _ c.in_ok-spaces.ensures) in
    let z = from (the_word zero_word) c.args.r a.same (skipped-moved _ c.in_ok-zero.ensures) in
    let b = from spaces c.args.r z.same (skipped-moved _ c.in_ok-spaces-2.ensures) in
    c.from_residual-in_err-end.ensures
    ∙ skipped-fails _ (goes _ v.is (skip-goes _ _ a.is (goes _ z.is (skip-goes _ _ b.is
    (fails _ (failed-from number c.args.r b.same (read-none _ c.in_err-end.ensures)))))))

pub returns : goal.returns
unfolding format_line
returns c =
    let v = skipped-moved _ c.in_ok-version.ensures in let a = from spaces c.args.r v.same (skipped-moved _ c.in_ok-spaces.ensures) in
    let z = from (the_word zero_word) c.args.r a.same (skipped-moved _ c.in_ok-zero.ensures) in
    let b = from spaces c.args.r z.same (skipped-moved _ c.in_ok-spaces-2.ensures) in
    let n = from number c.args.r b.same (read-moved _ c.in_ok-end.ensures) in
    c.line_end.ensures ∙ skipped-from line_end c.args.r _ n.same
    ∙ sym (ap (tell_skipped c.args.r) (goes _ v.is (skip-goes _ _ a.is (goes _ z.is (skip-goes _ _ b.is (goes _ n.is refl))))))
