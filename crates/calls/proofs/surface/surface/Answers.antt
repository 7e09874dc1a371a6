-- `surface::surface` meets its contract: the library's sheet has the library's limit.
use Rattle.calls.proofs.surface.surface.Goals as goal

pub returns : goal.returns
returns c = rw c.library.ensures at c.surface_at.ensures
