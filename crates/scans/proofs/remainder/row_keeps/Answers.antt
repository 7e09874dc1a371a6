-- `scans::remainder::row_keeps` meets its contract: the row keeps a nonzero entry exactly where its first one stands before its end.
use Rattle.scans.proofs.Tests.{row_keeps-first}
use Rattle.scans.proofs.remainder.row_keeps.Goals as goal
use Rattle.scans.proofs.remainder.row_keeps.Goals.{Start}

pub returns : goal.returns
returns c =
    let s = (goal.at.returns c).Start in
    row_keeps-first s.args.m s.args.w.now s.args.k c.line.result c.first_nonzero.result s.requires.k_lt_lines.1 c.line.ensures c.first_nonzero.ensures
