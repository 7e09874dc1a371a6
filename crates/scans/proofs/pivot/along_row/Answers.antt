use mathlib.Core.Path.{refl}
use Rattle.std.specs.Prelude.{Some}
use Rattle.scans.proofs.Scanning.{along-first, along-next, along_one, along-ends}
use Rattle.scans.proofs.pivot.along_row.Goals as goal
use Rattle.scans.proofs.pivot.along_row.Goals.{Start, in-Some+else-found-eq1, in_default}

pub loop-j-init : goal.loop-j-init
loop-j-init c =
    let s = (goal.at.loop-j-init c).Start in
    along-first s.args.m s.args.w.now s.requires.i_lt_lines.2 c.line.ensures c.first_nonzero-j.ensures

pub returns-then-found-eq1 : goal.returns-then-found-eq1
returns-then-found-eq1 c =
    let taken = c.in-Some.ensures in
    (taken.0, along_one c.loop-j.invariant {b' = Some c.in-Some.found} c.loop-j-test.true taken.0 taken.1 refl c.if-found-eq1.true)

pub loop-j-preserved : goal.loop-j-preserved
loop-j-preserved c =
    let h = c.loop-j.invariant in
    let l = c.loop-j-test.true in
    elim c.match-better.branch [
      | in-Some+else-found-eq1 w ↦ rw w.chosen-is (along-next h {b' = Some w.in-Some.found} l w.in-Some.ensures.0 w.in-Some.ensures.1)
      | in_default w ↦ rw w.chosen-is (along-next h l h.best (rw w.in_default.is at c.better.ensures.1))
    ]

pub returns : goal.returns
returns c = (c.loop-j.invariant.best, along-ends c.loop-j.invariant c.loop-j-test.false)
