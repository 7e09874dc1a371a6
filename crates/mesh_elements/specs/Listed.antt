-- Whether the nodes of an element are listed.
use Rattle.std.specs.Prelude.{◌≡◌, Bool, List, ℕ, ◌<◌, length}
use Rattle.lists.specs.Same.{every}
use Rattle.complexes.specs.Complex.{vertex_bound}
use Rattle.complexes.specs.Packed.{packed, Numbered}
use Rattle.closures.specs.Closure.{member}
use Rattle.node_maps.specs.Map.{map_length, in_map}

-- r tells whether all nodes of a list of n are listed, from the word w of the list
abbrev pub AllListed : List ℕ → ℕ → ℕ → Bool → Type 0
AllListed map w n r = (nodes : List ℕ) → length nodes ≡ n → Numbered nodes → packed nodes ≡ w → r ≡ every (in_map map) nodes

-- the map has exactly the nodes that are listed
pub record Maps (map listed : List ℕ) : Type 0 where
  pub sized : length map ≡ map_length
  pub lists : (v : ℕ) → v < vertex_bound → in_map map v ≡ member v listed
