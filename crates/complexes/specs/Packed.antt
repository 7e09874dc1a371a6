-- The vertices of a cell packed into a word: document 02, Note 2.
use Rattle.std.specs.Prelude.{[], ◌∷◌, ℕ, ◌+◌, ◌*◌, ◌^◌, ◌<◌, length, get_or}
use Rattle.complexes.specs.Cell.{Cell}
use Rattle.complexes.specs.Complex.{vertex_bound}

-- the vertices that a word of 64 bits has room for
abbrev pub word_vertices : ℕ
word_vertices = 4

-- the word of a cell: 16 bits for each vertex, the first in the highest
unfoldable pub packed : Cell → ℕ
packed [] = 0
packed (v ∷ c) = v * vertex_bound ^ length c + packed c

-- every vertex of c is a vertex number
pub record Numbered (c : Cell) : Type 0 where
  pub at : (j : ℕ) → j < length c → get_or c j 0 < vertex_bound
