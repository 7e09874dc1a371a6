-- `element_nodes` meets its contract. The loop's invariant: some node numbers are read, and the others stand from `here` on; `many` is their number and
-- `packed` the first of them packed. The measure is what is left of the text.
use mathlib.Core.Path.{◌≡◌}
use Prim.Native.Nat.{◌-◌}
use lib.ListN.{length}
use Rattle.mesh_lines.proofs.NodeNumbers.{Nodes}
use Rattle.mesh_lines.proofs.nodes.element_nodes.Given as goal

abbrev pub invariant-loop-node : goal.invariant-loop-node
invariant-loop-node l = Nodes l.r.text.now l.r.at l.here.at l.many l.packed × (l.here.text ≡ l.r.text)

abbrev pub decreases-loop-node : goal.decreases-loop-node
decreases-loop-node l = length l.r.text.now - l.here.at
