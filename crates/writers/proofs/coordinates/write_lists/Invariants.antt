-- `coordinates::write_lists` meets its contract. The invariant: the lists of the chains passed are written. The measure is how many are left.
use mathlib.Core.Path.{◌≡◌}
use Prim.Native.Nat.{◌≤◌}
use lib.ListN.{length}
use Rattle.lists.specs.Splice.{splices}
use Rattle.requests.specs.Chains.{chain_at}
use Rattle.writers.specs.Written.{coordinates_of}
use Rattle.writers.proofs.coordinates.write_lists.Given as goal

abbrev pub invariant-loop-i : goal.invariant-loop-i
invariant-loop-i l = (l.i ≤ l.many) × (l.coordinates ≡ splices l.cells (λ k. coordinates_of l.reduced l.w (chain_at l.cells l.chains k)) l.i l.initial.coordinates) × (length l.coordinates ≡ length l.initial.coordinates)
