-- `CellCounts::second_workspace` meets its contract: every place is a sum of products of two counts.
use Rattle.two_reductions.specs.Workspaces.{second_workspace}
use Rattle.two_reductions.proofs.cell_counts.CellCounts.second_workspace.Goals as goal

pub returns : goal.returns
unfolding second_workspace
returns c = rw c.room-room.ensures
