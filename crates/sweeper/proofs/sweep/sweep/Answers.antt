-- `sweep` meets its contract: it is the sweep at the library's limit.
use Rattle.sweeper.proofs.sweep.sweep.Goals as goal

pub returns : goal.returns
returns c = rw c.library.ensures at c.sweep_at.ensures
