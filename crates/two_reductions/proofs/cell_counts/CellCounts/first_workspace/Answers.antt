-- `CellCounts::first_workspace` meets its contract: the room for the matrix is a product of two counts.
use Rattle.two_reductions.specs.Workspaces.{first_workspace}
use Rattle.two_reductions.proofs.cell_counts.CellCounts.first_workspace.Goals as goal

pub returns : goal.returns
unfolding first_workspace
returns c = rw c.room-room.ensures
