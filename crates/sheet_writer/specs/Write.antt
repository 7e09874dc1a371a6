-- What writing the sheet of the cells held leaves.
use Rattle.std.specs.Prelude.{◌≡◌, List, [], ◌++◌, map, ℕ, suc, ◌≤◌, length, get_or, drop}
use Rattle.lists.specs.Splice.{splice}
use Rattle.limits.specs.Limits.{library_limit}
use Rattle.complexes.specs.Cell.{Cell}
use Rattle.complexes.specs.Complex.{Sections}
use Rattle.complexes.specs.Packed.{packed}
use Rattle.sheet_format.specs.Layout.{top, header_length, cell_bytes, section_bytes, sections_bytes, start, layout}
use Rattle.closures.specs.Rising.{All, HasVertices}
use Rattle.cells.specs.Word.{Packs}
use Rattle.cell_sets.specs.Set.{Holds}
use Rattle.cell_sets.specs.declared.set.CellSet.{CellSet}

-- the number of cells of dimension p
abbrev pub count_of : List ℕ → ℕ → ℕ
count_of counts p = get_or counts p 0

-- no count exceeds the library's limit
pub record Small (counts : List ℕ) : Type 0 where
  pub within : (p : ℕ) → p ≤ top → count_of counts p ≤ library_limit

-- the cell of n vertices with the word w was put over from byte `at` on
abbrev pub WritesCell : ℕ → ℕ → ℕ → List ℕ → List ℕ → Type 0
WritesCell n w at sheet sheet' = (c : Cell) → Packs n c w → sheet' ≡ splice at (cell_bytes c) sheet

-- .. the cells of n vertices with the words ws
abbrev pub WritesSection : ℕ → List ℕ → ℕ → List ℕ → List ℕ → Type 0
WritesSection n ws at sheet sheet' =
    (l : List Cell) → All (HasVertices n) [] l → ws ≡ map packed l → sheet' ≡ splice at (section_bytes l) sheet

-- r is the length of the sheet of the cells that the set holds
abbrev pub Measures : CellSet → ℕ → Type 0
Measures s r = (K : Sections) → Holds s K → r ≡ length (layout K)

-- there is room for the sheet of the cells held
abbrev pub Fits : CellSet → List ℕ → Type 0
Fits s sheet = start (count_of s.counts) (suc top) ≤ length sheet

-- its sections were put over behind the header
abbrev pub WritesSections : CellSet → List ℕ → List ℕ → Type 0
WritesSections s sheet sheet' = (K : Sections) → Holds s K → sheet' ≡ splice header_length (sections_bytes K) sheet

-- all of it was written from the start on, and the rest is untouched
abbrev pub WritesSheet : CellSet → List ℕ → List ℕ → Type 0
WritesSheet s sheet sheet' = (K : Sections) → Holds s K → sheet' ≡ layout K ++ drop (length (layout K)) sheet
