-- `apply::swap_places` meets its contract. The invariant: the lines passed have been changed.
use Rattle.matrices.specs.Operation.{swap}
use Rattle.elementary_operations.proofs.Places.{Passed}
use Rattle.elementary_operations.proofs.apply.swap_places.Given as goal

abbrev pub invariant-loop-i : goal.invariant-loop-i
invariant-loop-i l = Passed l.m l.initial.w (swap l.j l.k) l.before l.w l.largest l.i
