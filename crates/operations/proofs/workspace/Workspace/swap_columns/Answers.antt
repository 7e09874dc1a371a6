-- `operations::workspace::Workspace::swap_columns` meets its contract: a column exchanged with itself leaves all as it is.
use Rattle.matrices.specs.Operation.{swap}
use Rattle.operations.proofs.Unchanged.{swap-fits, unchanged}
use Rattle.operations.proofs.Side.{columns}
use Rattle.operations.proofs.workspace.Workspace.swap_columns.Goals as goal
use Rattle.operations.proofs.workspace.Workspace.swap_columns.Goals.{Start}

pub returns-then-j-k : goal.returns-then-j-k
returns-then-j-k c =
    let start = (goal.at.returns-then-j-k c).Start in
    unchanged (record {
      side = columns;
      operation = swap start.args.j start.args.k;
      workspace = start.args.self;
      slice = start.args.w.now;
      laid = start.requires.laid;
      fits = swap-fits start.args.j start.args.k start.requires.j_lt_width;
    }) start.requires.small c.if-j-k.true
