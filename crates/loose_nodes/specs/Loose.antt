-- Loose nodes by a map of the vertices of the edges, and marks of them: a byte for each vertex, 1 for a loose one.
use Rattle.std.specs.Prelude.{◌≡◌, List, ℕ, ◌≤◌, ◌<◌, eqb, length, get_or}
use Rattle.complexes.specs.Complex.{Sections, count}
use Rattle.sheet_format.specs.Check.{some, on_edge, loose}
use Rattle.node_maps.specs.Map.{map_length, in_map}

-- the map lists exactly the vertices of the edges of K
pub record MapsEdges (K : Sections) (map : List ℕ) : Type 0 where
  pub sized : length map ≡ map_length
  pub lists : (v : ℕ) → in_map map v ≡ some (count K 1) (on_edge K v)

-- none of the first n is marked
pub record NoneMarked (n : ℕ) (marks : List ℕ) : Type 0 where
  pub room : n ≤ length marks
  pub clear : (i : ℕ) → i < n → get_or marks i 0 ≡ 0

-- of the vertices of K exactly the loose ones are marked with 1; the marks past the vertices are left
pub record MarksLoose (K : Sections) (before after : List ℕ) : Type 0 where
  pub sized : length after ≡ length before
  pub here : (i : ℕ) → i < count K 0 → eqb (get_or after i 0) 1 ≡ loose K i
  pub past : (i : ℕ) → count K 0 ≤ i → get_or after i 0 ≡ get_or before i 0
