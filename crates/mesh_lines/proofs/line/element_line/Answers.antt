-- `element_line` meets its contract, step by step.
use mathlib.Core.Path.{refl, sym, ap, ◌∙◌}
use mathlib.Core.List.{List}
use Prim.Native.Nat.{ℕ}
use Rattle.mesh_format.specs.Parse.{Parsed, gap, number, words, element_line}
use Rattle.mesh_words.specs.Steps.{skip}
use Rattle.mesh_words.proofs.Steps.{fails, goes, skip-fails, skip-goes, from, failed-from}
use Rattle.mesh_words.proofs.Told.{skipped-none, skipped-moved, read-none, read-moved}
use Rattle.mesh_lines.specs.Nodes.{element_nodes}
use Rattle.mesh_lines.specs.Tells.{tell_element}
use Rattle.mesh_lines.proofs.Told.{element-fails, element-from}
use Rattle.mesh_lines.proofs.line.element_line.Goals as goal

abbrev spaces : List ℕ → ℕ → Parsed Unit
spaces s at = skip (gap s at)

pub returns-in_err-a : goal.returns-in_err-a
unfolding element_line
returns-in_err-a c =
    c.from_residual.ensures ∙ element-fails _ (fails _ (read-none _ c.in_err-a.ensures))

pub returns-in_err-spaces : goal.returns-in_err-spaces
unfolding element_line
returns-in_err-spaces c =
    let n = read-moved _ c.in_ok-a.ensures in
    c.from_residual-in_err-spaces.ensures ∙ element-fails _ (goes _ n.is (skip-fails _ _ (failed-from spaces c.args.r n.same (skipped-none _ c.in_err-spaces.ensures))))

pub returns-in_err-kind : goal.returns-in_err-kind
unfolding element_line
returns-in_err-kind c =
    let n = read-moved _ c.in_ok-a.ensures in
    let s1 = from spaces c.args.r n.same (skipped-moved _ c.in_ok-spaces.ensures) in
    c.from_residual-in_err-kind.ensures ∙ element-fails _ (goes _ n.is (skip-goes _ _ s1.is (fails _ (failed-from number c.args.r s1.same (read-none _ c.in_err-kind.ensures)))))

pub returns-in_err-spaces-2 : goal.returns-in_err-spaces-2
unfolding element_line
returns-in_err-spaces-2 c =
    let n = read-moved _ c.in_ok-a.ensures in
    let s1 = from spaces c.args.r n.same (skipped-moved _ c.in_ok-spaces.ensures) in
    let k = from number c.args.r s1.same (read-moved _ c.in_ok-kind.ensures) in
    c.from_residual-in_err-spaces-2.ensures ∙ element-fails _ (goes _ n.is (skip-goes _ _ s1.is (goes _ k.is (skip-fails _ _ (failed-from spaces c.args.r k.same (skipped-none _ c.in_err-spaces-2.ensures))))))

pub returns-in_err-tags : goal.returns-in_err-tags
unfolding element_line
returns-in_err-tags c =
    let n = read-moved _ c.in_ok-a.ensures in
    let s1 = from spaces c.args.r n.same (skipped-moved _ c.in_ok-spaces.ensures) in
    let k = from number c.args.r s1.same (read-moved _ c.in_ok-kind.ensures) in
    let s2 = from spaces c.args.r k.same (skipped-moved _ c.in_ok-spaces-2.ensures) in
    c.from_residual-in_err-tags.ensures ∙ element-fails _ (goes _ n.is (skip-goes _ _ s1.is (goes _ k.is (skip-goes _ _ s2.is (fails _ (failed-from number c.args.r s2.same (read-none _ c.in_err-tags.ensures)))))))

pub returns-in_err-words : goal.returns-in_err-words
unfolding element_line
returns-in_err-words c =
    let n = read-moved _ c.in_ok-a.ensures in
    let s1 = from spaces c.args.r n.same (skipped-moved _ c.in_ok-spaces.ensures) in
    let k = from number c.args.r s1.same (read-moved _ c.in_ok-kind.ensures) in
    let s2 = from spaces c.args.r k.same (skipped-moved _ c.in_ok-spaces-2.ensures) in
    let t = from number c.args.r s2.same (read-moved _ c.in_ok-tags.ensures) in
    c.from_residual-in_err-words.ensures ∙ element-fails _ (goes _ n.is (skip-goes _ _ s1.is (goes _ k.is (skip-goes _ _ s2.is (goes _ t.is (fails _ (failed-from (words c.in_ok-tags.tags) c.args.r t.same (skipped-none _ c.in_err-words.ensures))))))))

pub returns : goal.returns
unfolding element_line element_nodes
returns c =
    let n = read-moved _ c.in_ok-a.ensures in
    let s1 = from spaces c.args.r n.same (skipped-moved _ c.in_ok-spaces.ensures) in
    let k = from number c.args.r s1.same (read-moved _ c.in_ok-kind.ensures) in
    let s2 = from spaces c.args.r k.same (skipped-moved _ c.in_ok-spaces-2.ensures) in
    let t = from number c.args.r s2.same (read-moved _ c.in_ok-tags.ensures) in
    let w = from (words c.in_ok-tags.tags) c.args.r t.same (skipped-moved _ c.in_ok-words.ensures) in
    c.element_nodes.ensures ∙ element-from (element_nodes c.in_ok-kind.kind) c.args.r _ w.same
    ∙ sym (ap (tell_element c.args.r) (goes _ n.is (skip-goes _ _ s1.is (goes _ k.is (skip-goes _ _ s2.is (goes _ t.is (goes _ w.is (refl))))))))
