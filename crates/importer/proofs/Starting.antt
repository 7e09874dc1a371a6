-- Where the import starts: a map that lists no node.
use mathlib.Core.List.{List, []}
use Prim.Native.Nat.{ℕ}
use Rattle.closures.specs.Closure.{member}
use Rattle.node_maps.specs.Map.{Empty}
use Rattle.mesh_elements.specs.Listed.{Maps}

pub no-nodes-listed : {map : List ℕ} → Empty map → Maps map []
unfolding member
no-nodes-listed h = record { sized = h.sized; lists = λ v l. h.none v }
