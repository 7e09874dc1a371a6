-- `NodeMap::new` meets its contract: a map of zeros lists no node.
use Rattle.node_maps.proofs.EmptyMap.{empty-map}
use Rattle.node_maps.proofs.map.NodeMap.new.Goals as goal

pub returns : goal.returns
returns c = empty-map
