-- `operations::workspace::Workspace::on_columns` meets its contract: the matrix undergoes it, then its companions of the columns.
use Rattle.elementary_operations.specs.Operations.{operation_of}
use Rattle.operations.proofs.Side.{columns}
use Rattle.operations.proofs.Operate.{Task, MatrixCalled, wide-matrix, companions-ready, comes}
use Rattle.operations.proofs.workspace.Workspace.on_columns.Goals as goal
use Rattle.operations.proofs.workspace.Workspace.on_columns.Goals.{Start, After-on_places}

abbrev task : Start → Task
task s = record {
  side = columns;
  operation = operation_of s.args.op;
  workspace = s.args.self;
  slice = s.args.w.now;
  laid = s.requires.laid;
  fits = s.requires.fits.0;
}

-- the call on the matrix
abbrev matrix : After-on_places → MatrixCalled
matrix c = let a = c.on_places in record { task = task (goal.at.After-on_places c).Start; left = a.new.w; result = a.result; became = a.ensures }

pub returns-in_err-first : goal.returns-in_err-first
returns-in_err-first c =
    wide-matrix (matrix (goal.at.returns-in_err-first c).After-on_places) c.in_err-first.was c.from_residual.result c.from_residual.ensures.0

pub follow-requires-clause-fits : goal.follow-requires-clause-fits
follow-requires-clause-fits c =
    let ready = companions-ready (matrix (goal.at.follow-requires-clause-fits c).After-on_places) c.in_ok-first.was in
    (ready.follower-fits, ready.inverse-fits)

pub returns : goal.returns
returns c = comes (matrix (goal.at.returns c).After-on_places) c.in_ok-first.was c.follow.ensures
