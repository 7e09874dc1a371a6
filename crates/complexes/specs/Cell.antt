-- Cells, their faces and their order: document 01, "The sheet". Each test computes.
use Rattle.std.specs.Prelude.{◌≡◌, Bool, true, false, ◌&&◌, ◌||◌, List, [], ◌∷◌, ℕ, zero, suc, ◌<◌, eqb, ltb, length, get_or}

-- a cell is the list of its vertex numbers: a simplex
abbrev pub Cell : Type 0
Cell = List ℕ

-- the cell without vertex number i, counted from 0: a face
unfoldable pub without : ℕ → Cell → Cell
without i [] = []
without zero (v ∷ c) = c
without (suc i) (v ∷ c) = v ∷ without i c

-- the two cells have the same vertices in the same order
unfoldable pub same : Cell → Cell → Bool
same [] [] = true
same [] (w ∷ d) = false
same (v ∷ c) [] = false
same (v ∷ c) (w ∷ d) = eqb v w && same c d

-- the vertex numbers rise strictly
unfoldable pub rises : Cell → Bool
rises [] = true
rises (v ∷ []) = true
rises (v ∷ w ∷ c) = ltb v w && rises (w ∷ c)

-- the first cell stands before the second: compared by first vertex, then the next
unfoldable pub precedes : Cell → Cell → Bool
precedes [] [] = false
precedes [] (w ∷ d) = true
precedes (v ∷ c) [] = false
precedes (v ∷ c) (w ∷ d) = ltb v w || (eqb v w && precedes c d)

-- the cell stands in the list
unfoldable pub listed : Cell → List Cell → Bool
listed c [] = false
listed c (d ∷ l) = same c d || listed c l

-- the cell stands at a place of the list
pub record Listed (c : Cell) (l : List Cell) : Type 0 where
  pub place : ℕ
  pub below : place < length l
  pub is : get_or l place [] ≡ c

-- the first cell is the second with some vertices left out
pub data Sublist : Cell → Cell → Type 0 where
  none : Sublist [] []
  skip : {d c : Cell} (v : ℕ) → Sublist d c → Sublist d (v ∷ c)
  keep : {d c : Cell} (v : ℕ) → Sublist d c → Sublist (v ∷ d) (v ∷ c)

-- v is a vertex of c
pub record Vertex (v : ℕ) (c : Cell) : Type 0 where
  pub place : ℕ
  pub below : place < length c
  pub is : get_or c place 0 ≡ v

-- every vertex of d is one of c
abbrev pub Subset : Cell → Cell → Type 0
Subset d c = (v : ℕ) → Vertex v d → Vertex v c
