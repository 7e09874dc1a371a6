-- `list_edges` meets its contract. The loop's invariant: the first j of the edges' vertex numbers are listed, and no other.
use Rattle.loose_nodes.proofs.EdgeMap.{MapsFields}
use Rattle.loose_nodes.proofs.edges.list_edges.Given as goal

abbrev pub invariant-loop-j : goal.invariant-loop-j
invariant-loop-j l = MapsFields l.s l.at l.j l.map.bytes
