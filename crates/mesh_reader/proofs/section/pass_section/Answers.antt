use mathlib.Core.Path.{refl, ◌∙◌}
use native.Mathlib.Omega.{arith}
use Rattle.mesh_words.specs.Steps.{fed_line}
use Rattle.mesh_words.proofs.Steps.{from, failed-from}
use Rattle.mesh_words.proofs.Told.{read-none, read-moved, skipped-fails, skipped-goes}
use Rattle.mesh_reader.proofs.Closing.{fed-within, closing-none, closing-found, closing-next}
use Rattle.mesh_reader.proofs.section.pass_section.Goals as goal

pub loop-line-init : goal.loop-line-init
loop-line-init c = (refl, refl)

pub returns-then-closes : goal.returns-then-closes
returns-then-closes c =
    let inv = c.loop-line.invariant in let m = from fed_line c.args.r inv.1 (read-moved _ c.in-Some.ensures) in
    skipped-goes _ (record { is = inv.0 ∙ closing-found _ _ _ m.is c.closes.ensures c.if-closes.true; same = m.same })

pub loop-line-smaller : goal.loop-line-smaller
loop-line-smaller c =
    let m = from fed_line c.args.r c.loop-line.invariant.1 (read-moved _ c.in-Some.ensures) in let ends = fed-within _ _ m.is in
    omega (arith, ends.0, ends.1)

pub loop-line-preserved : goal.loop-line-preserved
loop-line-preserved c =
    let inv = c.loop-line.invariant in let m = from fed_line c.args.r inv.1 (read-moved _ c.in-Some.ensures) in
    (inv.0 ∙ closing-next _ _ _ m.is c.closes.ensures c.if-closes.false, m.same)

pub returns : goal.returns
returns c =
    let inv = c.loop-line.invariant in
    skipped-fails _ (inv.0 ∙ closing-none _ _ _ (failed-from fed_line c.args.r inv.1 (read-none _ c.in_default.ensures)))
