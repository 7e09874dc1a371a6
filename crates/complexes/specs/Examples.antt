-- The order of cells, their words, and the boundary matrices of the full tetrahedron on the vertices 0 to 3, entry by entry.
--     order-examples, word-order-examples    the cells of the table rise, and so do their words
--     packed-examples                        the words of the table are those of its cells
--     boundary-examples                      the rows of the matrix of each dimension 0 to 4 are those of the table
use Rattle.std.specs.Prelude.{Bool, not, ◌&&◌, List, [], ◌∷◌, ℕ, T, eqb, ltb, ℤ, pos, neg_ℤ}
use Rattle.lists.specs.Tabulate.{tabulate}
use Rattle.lists.specs.Same.{every, same_number, same_list}
use Rattle.matrices.specs.Sum.{sum}
use Rattle.complexes.specs.Cell.{Cell, without, same, precedes}
use Rattle.complexes.specs.Complex.{Sections, count}
use Rattle.complexes.specs.Packed.{packed}
use Rattle.complexes.specs.Boundary.{sign, coefficient, count_below, boundary}

-- ---- the order of cells

-- two cells of which the first stands before the second
pub record Pair : Type 0 where
  pub first : Cell
  pub second : Cell

abbrev pub pairs : List Pair
pairs =
    -- the first vertex decides
    record { first = 0 ∷ 3 ∷ []; second = 1 ∷ 2 ∷ [] }
    ∷ record { first = 0 ∷ 8 ∷ 9 ∷ []; second = 1 ∷ 2 ∷ 3 ∷ [] }
    -- where the first vertices are equal, the next
    ∷ record { first = 0 ∷ 1 ∷ []; second = 0 ∷ 2 ∷ [] }
    ∷ record { first = 0 ∷ 1 ∷ 9 ∷ []; second = 0 ∷ 2 ∷ 3 ∷ [] }
    ∷ []

unfoldable pub rising : Pair → Bool
rising pair = precedes pair.first pair.second && not (precedes pair.second pair.first)

pub order-examples : T (every rising pairs)
unfolding every rising precedes
order-examples = tt

-- ---- words

-- a cell and its word
pub record Packing : Type 0 where
  pub cell : Cell
  pub word : ℕ

abbrev pub packings : List Packing
packings =
    record { cell = 7 ∷ []; word = 7 }
    -- the first vertex in the highest bits: 1 × 65536 + 2
    ∷ record { cell = 1 ∷ 2 ∷ []; word = 65538 }
    -- 0001 0002 0003 0004 in base 16
    ∷ record { cell = 1 ∷ 2 ∷ 3 ∷ 4 ∷ []; word = 281483566841860 }
    -- all 64 bits
    ∷ record { cell = 65535 ∷ 65535 ∷ 65535 ∷ 65535 ∷ []; word = 18446744073709551615 }
    -- lists of other lengths may share a word
    ∷ record { cell = 0 ∷ 7 ∷ []; word = 7 }
    ∷ []

unfoldable pub packs : Packing → Bool
packs packing = eqb (packed packing.cell) packing.word

pub packed-examples : T (every packs packings)
unfolding every packs packed
packed-examples = tt

-- of each pair above the first cell has the lesser word
unfoldable pub words_rise : Pair → Bool
words_rise pair = ltb (packed pair.first) (packed pair.second)

pub word-order-examples : T (every words_rise pairs)
unfolding every words_rise packed
word-order-examples = tt

-- ---- the tetrahedron

-- its vertices, edges, triangles and itself
abbrev pub tetrahedron : Sections
tetrahedron =
    ((0 ∷ []) ∷ (1 ∷ []) ∷ (2 ∷ []) ∷ (3 ∷ []) ∷ [])
    ∷ ((0 ∷ 1 ∷ []) ∷ (0 ∷ 2 ∷ []) ∷ (0 ∷ 3 ∷ []) ∷ (1 ∷ 2 ∷ []) ∷ (1 ∷ 3 ∷ []) ∷ (2 ∷ 3 ∷ []) ∷ [])
    ∷ ((0 ∷ 1 ∷ 2 ∷ []) ∷ (0 ∷ 1 ∷ 3 ∷ []) ∷ (0 ∷ 2 ∷ 3 ∷ []) ∷ (1 ∷ 2 ∷ 3 ∷ []) ∷ [])
    ∷ ((0 ∷ 1 ∷ 2 ∷ 3 ∷ []) ∷ [])
    ∷ []

-- the rows of the boundary matrix of dimension p
unfoldable pub rows_of : Sections → ℕ → List (List ℤ)
rows_of K p = tabulate (count_below K p) (λ i. tabulate (count K p) (λ j. boundary K p i j))

abbrev minus : ℕ → ℤ
minus n = neg_ℤ (pos n)

-- a dimension and the rows of its matrix
pub record Line : Type 0 where
  pub dimension : ℕ
  pub rows : List (List ℤ)

abbrev pub lines : List Line
lines =
    -- dimension 0: no rows
    record { dimension = 0; rows = [] }
    -- rows 0, 1, 2, 3; columns 01, 02, 03, 12, 13, 23
    ∷ record {
      dimension = 1;
      rows =
          (minus 1 ∷ minus 1 ∷ minus 1 ∷ pos 0 ∷ pos 0 ∷ pos 0 ∷ [])
          ∷ (pos 1 ∷ pos 0 ∷ pos 0 ∷ minus 1 ∷ minus 1 ∷ pos 0 ∷ [])
          ∷ (pos 0 ∷ pos 1 ∷ pos 0 ∷ pos 1 ∷ pos 0 ∷ minus 1 ∷ [])
          ∷ (pos 0 ∷ pos 0 ∷ pos 1 ∷ pos 0 ∷ pos 1 ∷ pos 1 ∷ [])
          ∷ [];
    }
    -- rows 01, 02, 03, 12, 13, 23; columns 012, 013, 023, 123
    ∷ record {
      dimension = 2;
      rows =
          (pos 1 ∷ pos 1 ∷ pos 0 ∷ pos 0 ∷ [])
          ∷ (minus 1 ∷ pos 0 ∷ pos 1 ∷ pos 0 ∷ [])
          ∷ (pos 0 ∷ minus 1 ∷ minus 1 ∷ pos 0 ∷ [])
          ∷ (pos 1 ∷ pos 0 ∷ pos 0 ∷ pos 1 ∷ [])
          ∷ (pos 0 ∷ pos 1 ∷ pos 0 ∷ minus 1 ∷ [])
          ∷ (pos 0 ∷ pos 0 ∷ pos 1 ∷ pos 1 ∷ [])
          ∷ [];
    }
    -- rows 012, 013, 023, 123; column 0123
    ∷ record { dimension = 3; rows = (minus 1 ∷ []) ∷ (pos 1 ∷ []) ∷ (minus 1 ∷ []) ∷ (pos 1 ∷ []) ∷ [] }
    -- dimension 4: a row for 0123, no columns
    ∷ record { dimension = 4; rows = [] ∷ [] }
    ∷ []

unfoldable pub good : Line → Bool
good line = same_list (same_list same_number) (rows_of tetrahedron line.dimension) line.rows

pub boundary-examples : T (every good lines)
unfolding every good same_list same_number rows_of tabulate count_below boundary coefficient sign sum without same
boundary-examples = tt
