-- `new` meets its contract: every section is empty.
use mathlib.Core.Path.{refl}
use native.Mathlib.Omega.{arith}
use Rattle.cell_sets.proofs.Own.{holds-none}
use Rattle.cell_sets.proofs.set.CellSet.new.Goals as goal

pub returns-clause-none : goal.returns-clause-none
returns-clause-none c = holds-none _ (omega arith) refl
