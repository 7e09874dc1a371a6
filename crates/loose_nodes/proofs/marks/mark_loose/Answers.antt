use mathlib.Core.Path.{sym, ◌∙◌}
use native.Mathlib.Omega.{arith}
use Rattle.sheet_format.specs.Check.{sections_of}
use Rattle.loose_nodes.proofs.Marking.{marking-start, marking-loose, marking-used, marking-end, marks-none}
use Rattle.loose_nodes.proofs.marks.mark_loose.Goals as goal
use Rattle.loose_nodes.proofs.marks.mark_loose.Goals.{else-is_loose, then-is_loose}

pub returns-then-count-eq0 : goal.returns-then-count-eq0
returns-then-count-eq0 c = marks-none c.args.s.now c.requires (sym c.count.ensures.is ∙ c.if-count-eq0.true)

pub loop-i-init : goal.loop-i-init
loop-i-init c = let a = c.args in marking-start (sections_of a.s.now) a.marks.now

pub loop-i-preserved : goal.loop-i-preserved
loop-i-preserved c =
    elim c.if-is_loose.branch [ then-is_loose w ↦ rw w.marks-is (marking-loose c.loop-i.invariant (omega arith) (sym c.is_loose.ensures ∙ w.if-is_loose.true)) | else-is_loose w ↦ rw w.marks-is (marking-used c.loop-i.invariant (c.requires.clear c.loop-i.i (omega arith)) (sym c.is_loose.ensures ∙ w.if-is_loose.false)) ]

pub returns : goal.returns
returns c = marking-end c.args.s.now c.loop-i.invariant (omega arith)
