-- The bytes of a sheet: document 01, "The sheet".
use Rattle.std.specs.Prelude.{List, [], ◌∷◌, ◌++◌, ℕ, zero, suc, ◌+◌, ◌*◌, ◌/◌, ◌%◌}
use Rattle.complexes.specs.Cell.{Cell}
use Rattle.complexes.specs.Complex.{Sections, count}

-- the highest dimension of a sheet
abbrev pub top : ℕ
top = 3

-- the bytes of the header: a count and an offset for each dimension
abbrev pub header_length : ℕ
header_length = 4 * suc top

-- a field: unsigned 16-bit, low byte first
abbrev pub field : ℕ → List ℕ
field v = v % 256 ∷ v / 256 % 256 ∷ []

-- a cell: its vertex numbers, one after another
unfoldable pub cell_bytes : Cell → List ℕ
cell_bytes [] = []
cell_bytes (v ∷ c) = field v ++ cell_bytes c

-- a section: its cells, one after another
unfoldable pub section_bytes : List Cell → List ℕ
section_bytes [] = []
section_bytes (c ∷ l) = cell_bytes c ++ section_bytes l

-- the sections, one after another
unfoldable pub sections_bytes : Sections → List ℕ
sections_bytes [] = []
sections_bytes (l ∷ K) = section_bytes l ++ sections_bytes K

-- where section p starts, for the counts n: section 0 after the header, every later one where the one before ends
unfoldable pub start : (ℕ → ℕ) → ℕ → ℕ
start n zero = header_length
start n (suc p) = start n p + 2 * (suc p * n p)

-- the header's entries for `more` dimensions from p on: for each a count and an offset
unfoldable pub header_bytes : (ℕ → ℕ) → ℕ → ℕ → List ℕ
header_bytes n p zero = []
header_bytes n p (suc more) = field (n p) ++ (field (start n p) ++ header_bytes n (suc p) more)

-- the sheet of the cells K
unfoldable pub layout : Sections → List ℕ
layout K = header_bytes (count K) 0 (suc top) ++ sections_bytes K

-- the vertex numbers in one cell of each dimension below p: 1 + .. + p
abbrev pub vertex_numbers : ℕ → ℕ
vertex_numbers zero = zero
vertex_numbers (suc p) = vertex_numbers p + suc p

-- the bytes of the longest sheet with at most `limit` cells in each dimension
abbrev pub longest : ℕ → ℕ
longest limit = header_length + 2 * (limit * vertex_numbers (suc top))
