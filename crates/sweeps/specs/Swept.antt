-- What it means that a sweep has written a sheet: document 02, Note 7, "the sheet without loose nodes".
use Rattle.std.specs.Prelude.{◌≡◌, ◌↔◌, List, ℕ, ◌<◌, take}
use Rattle.complexes.specs.Cell.{Cell, Listed}
use Rattle.complexes.specs.Complex.{Sections, section, count}
use Rattle.complexes.specs.Loose.{InEdge}
use Rattle.sheet_format.specs.Check.{sections_of}
use Rattle.sheet_format.specs.Written.{WrittenSheet}

-- c is a cell of dimension p of K, and if it is a vertex and K has an edge, c stands in one
pub record StaysIn (K : Sections) (p : ℕ) (c : Cell) : Type 0 where
  pub listed : Listed c (section K p)
  pub used : p ≡ 0 → 0 < count K 1 → InEdge K c

-- L has exactly the cells of K less the vertices in no edge, where there is an edge
pub record IsSwept (K L : Sections) : Type 0 where
  pub exactly : (p : ℕ) (c : Cell) → Listed c (section L p) ↔ StaysIn K p c

-- the first n bytes of the slice are a sheet that was written, and its cells are those of the sheet b less the loose nodes
pub record SweptSheet (limit : ℕ) (b before after : List ℕ) (n : ℕ) : Type 0 where
  pub sheet : WrittenSheet limit before after n
  pub cells : IsSwept (sections_of b) (sections_of (take n after))
