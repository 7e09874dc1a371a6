use Prim.Native.Nat.{◌<◌}
use lib.ListN.{length}
use Rattle.matrix_lines.specs.Matrices.{Held}
use Rattle.elementary_operations.proofs.Places.{one-passed, passed-held, negated-place}
use Rattle.elementary_operations.proofs.apply.negate_places.Goals as goal
use Rattle.elementary_operations.proofs.apply.negate_places.Goals.{Start, At-loop-i, After-line-at, After-negate_places-largest}

module _ (c : After-line-at) where
  abbrev head : At-loop-i
  head = (goal.at.After-line-at c).At-loop-i

  abbrev start : Start
  start = (goal.at.At-loop-i head).Start

  more : head.loop-i.i < start.args.m.lines
  more = c.loop-i-test.true

  held : Held (length head.loop-i.w) start.args.m
  held = passed-held head.loop-i.invariant start.requires.held

pub loop-i-preserved : goal.loop-i-preserved
loop-i-preserved c =
    let called = (goal.at.loop-i-preserved c).After-negate_places-largest in let at = (goal.at.After-negate_places-largest called).After-line-at in let s = start at in
    one-passed (head at).loop-i.invariant s.requires.fits.within (more at)
    (negated-place s.args.m (head at).loop-i.i at.line-at.result at.line-at.ensures (head at).loop-i.w called.negate_places-largest.new.w s.args.k
    (head at).loop-i.largest called.negate_places-largest.result s.requires.fits.within called.negate_places-largest.ensures)
