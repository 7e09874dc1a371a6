use borrow.Author.Rules.{rules}
use Rattle.reduction_steps.specs.Pivot.{release1}
use Rattle.scans.proofs.Scanning.{down-next, down-one, down_ends}
use Rattle.scans.proofs.pivot.down_rows.Goals as goal
use Rattle.scans.proofs.pivot.down_rows.Goals.{Start, After-loop-i, After-along_row-best}

pub returns-in-Some-eq1 : goal.returns-in-Some-eq1
unfolding release1
returns-in-Some-eq1 c =
    let b = c.along_row-best.ensures in
    down-one c.loop-i.invariant c.loop-i-test.true b.0 b.1 c.in-Some-eq1.is (search rules)

pub loop-i-preserved : goal.loop-i-preserved
loop-i-preserved c =
    let a = (goal.at.loop-i-preserved c).After-along_row-best in
    let b = a.along_row-best.ensures in
    down-next a.loop-i.invariant a.loop-i-test.true b.0 b.1

pub returns : goal.returns
unfolding release1
returns c = down_ends c.loop-i.invariant c.loop-i-test.false
