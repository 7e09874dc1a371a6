-- `operations::workspace::Workspace::swap_rows` meets its contract: a row exchanged with itself leaves all as it is.
use Rattle.matrices.specs.Operation.{swap}
use Rattle.operations.proofs.Unchanged.{swap-fits, unchanged}
use Rattle.operations.proofs.Side.{rows}
use Rattle.operations.proofs.workspace.Workspace.swap_rows.Goals as goal
use Rattle.operations.proofs.workspace.Workspace.swap_rows.Goals.{Start}

pub returns-then-i-k : goal.returns-then-i-k
returns-then-i-k c =
    let start = (goal.at.returns-then-i-k c).Start in
    unchanged (record {
      side = rows;
      operation = swap start.args.i start.args.k;
      workspace = start.args.self;
      slice = start.args.w.now;
      laid = start.requires.laid;
      fits = swap-fits start.args.i start.args.k start.requires.i_lt_lines;
    }) start.requires.small c.if-i-k.true
