-- `is_listed` meets its contract: the lowest bit of the byte, shifted by k, is bit k.
use Rattle.std.proofs.lemmas.Nat.Bits.{shr_and_one}
use Rattle.node_maps.specs.Map.{bit_of}
use Rattle.node_maps.proofs.map.is_listed.Goals as goal

pub returns : goal.returns
unfolding bit_of
returns c = rw shr_and_one
