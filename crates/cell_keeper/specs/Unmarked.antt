-- The cells of a sheet whose marks are not 1, and what counting and copying them tells and leaves.
use Rattle.std.specs.Prelude.{◌≡◌, Bool, not, cond, List, [], ◌∷◌, ℕ, suc, ◌+◌, ◌≤◌, eqb, length, get_or}
use Rattle.lists.specs.Splice.{splice}
use Rattle.complexes.specs.Cell.{Cell}
use Rattle.complexes.specs.Complex.{Sections, count}
use Rattle.sheet_format.specs.Layout.{top}
use Rattle.sheet_format.specs.Check.{count_field, sections_of}
use Rattle.closures.specs.Keep.{keep, unmarked}

-- the cells of the sheet b whose marks are not 1
abbrev pub unmarked_cells : List ℕ → List ℕ → Sections
unmarked_cells b marks = keep (unmarked marks (count_field b)) (sections_of b)

-- a cell with this mark stays
abbrev pub stays : ℕ → Bool
stays mark = not (eqb mark 1)

-- the cell, if it stays with this mark
abbrev pub if_stays : ℕ → Cell → List Cell
if_stays mark c = cond (stays mark) (c ∷ []) []

-- cell i of those whose marks stand from place `from` on stays
abbrev pub stays_at : List ℕ → ℕ → ℕ → Bool
stays_at marks from i = stays (get_or marks (from + i) 0)

-- the counts of the cells K, by dimension
pub record Counts (K : Sections) (counts : List ℕ) : Type 0 where
  pub sized : length counts ≡ suc top
  pub counted : (p : ℕ) → p ≤ top → get_or counts p 0 ≡ count K p

-- the bytes xs were put over from byte `at` on, and the next go to byte r
pub record Puts (at : ℕ) (xs sheet : List ℕ) (r : ℕ) (sheet' : List ℕ) : Type 0 where
  pub ends : r ≡ at + length xs
  pub is : sheet' ≡ splice at xs sheet
