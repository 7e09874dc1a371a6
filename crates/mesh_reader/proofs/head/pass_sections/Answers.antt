use mathlib.Core.Path.{◌≡◌, ◌∙◌}
use Prim.Native.Nat.{suc}
use native.Mathlib.Omega.{arith}
use Rattle.mesh_format.specs.Parse.{word_line, sections}
use Rattle.mesh_format.proofs.ReadLaws.{Within}
use Rattle.mesh_words.proofs.Steps.{from, failed-from}
use Rattle.mesh_words.proofs.Told.{Moved, read-none, read-moved, skipped-none, skipped-moved, skipped-fails, skipped-goes}
use Rattle.mesh_reader.proofs.Sections.{name-is, sections-none, sections-nodes, sections-other, sections-stuck, sections-passed}
use Rattle.mesh_reader.proofs.head.pass_sections.Goals as goal
use Rattle.mesh_reader.proofs.head.pass_sections.Goals.{In_ok-word, In_ok-here}

pub returns-in_err-word : goal.returns-in_err-word
returns-in_err-word c =
    let inv = c.loop-word.invariant in
    c.from_residual.ensures
    ∙ skipped-fails _ (inv.0 ∙ sections-none _ _ (failed-from word_line c.args.r inv.1 (read-none _ c.in_err-word.ensures)))

-- the line of one word
line : (c : In_ok-word) → Moved (word_line c.args.r.text.now c.loop-word.here.at) c.in_ok-word.word.now c.args.r c.in_ok-word.next
line c = from word_line c.args.r c.loop-word.invariant.1 (read-moved _ c.in_ok-word.ensures)

pub returns-then-opens_nodes : goal.returns-then-opens_nodes
returns-then-opens_nodes c =
    let m = line (goal.at.returns-then-opens_nodes c).In_ok-word in
    skipped-goes _ (record { is = c.loop-word.invariant.0 ∙ sections-nodes _ _ m.is c.if-opens_nodes.ensures; same = m.same })

pub returns-then-not-opens_section : goal.returns-then-not-opens_section
returns-then-not-opens_section c =
    let m = line (goal.at.returns-then-not-opens_section c).In_ok-word in
    skipped-fails _ (c.loop-word.invariant.0 ∙ sections-other _ _ m.is c.if-opens_nodes.ensures c.if-not-opens_section.ensures)

pub returns-in_err-here : goal.returns-in_err-here
returns-in_err-here c =
    let m = line (goal.at.returns-in_err-here c).In_ok-word in
    let e = rw (m.same, name-is c.in_ok-word.word.now) at (skipped-none _ c.in_err-here.ensures) in
    c.from_residual-in_err-here.ensures
    ∙ skipped-fails _ (c.loop-word.invariant.0 ∙ sections-stuck _ _ m.is c.if-opens_nodes.ensures c.if-not-opens_section.ensures e)

-- the section is passed over
module _ (c : In_ok-here) where
  passed : ((sections c.args.r.text.now c.loop-word.here.at ≡ sections c.args.r.text.now c.in_ok-here.here.at)
      × Within (suc c.loop-word.here.at) c.args.r.text.now c.in_ok-here.here.at)
      × (c.in_ok-here.here.text ≡ c.args.r.text)
  passed =
      let m = line (goal.at.In_ok-here c).In_ok-word in let k = skipped-moved _ c.in_ok-here.ensures in
      let e = rw (m.same, name-is c.in_ok-word.word.now) at k.is in
      (sections-passed _ _ m.is c.if-opens_nodes.ensures c.if-not-opens_section.ensures e, k.same ∙ m.same)

pub loop-word-smaller : goal.loop-word-smaller
loop-word-smaller c = let p = (passed (goal.at.loop-word-smaller c).In_ok-here).0.1 in omega (arith, p.past, p.inside)

pub loop-word-preserved : goal.loop-word-preserved
loop-word-preserved c = let p = passed (goal.at.loop-word-preserved c).In_ok-here in (c.loop-word.invariant.0 ∙ p.0.0, p.1)
