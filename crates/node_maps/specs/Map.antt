-- A set of vertex numbers as a map: a bit for each vertex number, eight in a byte.
use Rattle.std.specs.Prelude.{◌≡◌, ◌≢◌, Bool, true, false, List, ℕ, ◌/◌, ◌%◌, ◌^◌, eqb, length, get_or}
use Rattle.complexes.specs.Complex.{vertex_bound}

abbrev pub map_length : ℕ
map_length = vertex_bound / 8

-- bit k of a byte is set
unfoldable pub bit_of : ℕ → ℕ → Bool
bit_of byte k = eqb (byte / 2 ^ k % 2) 1

-- the node v is in the map
abbrev pub in_map : List ℕ → ℕ → Bool
in_map map v = bit_of (get_or map (v / 8) 0) (v % 8)

-- the map `after` is the map `before` with the node v too
pub record Lists (v : ℕ) (before after : List ℕ) : Type 0 where
  pub sized : length after ≡ length before
  pub here : in_map after v ≡ true
  pub elsewhere : (u : ℕ) → u ≢ v → in_map after u ≡ in_map before u

-- the map lists no node
pub record Empty (map : List ℕ) : Type 0 where
  pub sized : length map ≡ map_length
  pub none : (v : ℕ) → in_map map v ≡ false
