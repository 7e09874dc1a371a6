-- `join` meets its contract: it is the sum that `packed` is, with the vertices taken one after another.
use native.Mathlib.Omega.{arith}
use Rattle.complexes.specs.Packed.{packed}
use Rattle.cells.proofs.word.join.Goals as goal

pub returns : goal.returns
unfolding packed
returns c = omega arith
