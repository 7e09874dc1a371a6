-- Loose nodes: document 02, Note 7, "A sheet with at least one edge and a vertex in no edge".
use Rattle.std.specs.Prelude.{ℕ, ◌<◌}
use Rattle.complexes.specs.Cell.{Cell, Subset}
use Rattle.complexes.specs.Complex.{Sections, count, cell}

-- c stands in an edge of K
pub record InEdge (K : Sections) (c : Cell) : Type 0 where
  pub edge : ℕ
  pub below : edge < count K 1
  pub subset : Subset c (cell K 1 edge)

-- a loose node: a vertex of K in no edge, where there is an edge
pub record LooseNode (K : Sections) : Type 0 where
  pub edges : 0 < count K 1
  pub place : ℕ
  pub below : place < count K 0
  pub alone : InEdge K (cell K 0 place) → ⊥

-- K has no edge, or each of its vertices stands in one
pub record NoLooseNodes (K : Sections) : Type 0 where
  pub used : 0 < count K 1 → (i : ℕ) → i < count K 0 → InEdge K (cell K 0 i)
