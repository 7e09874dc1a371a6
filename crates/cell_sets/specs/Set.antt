-- The cells of a complex as the words of a set, and what adding one tells and leaves.
use Rattle.std.specs.Prelude.{◌≡◌, List, [], ◌∷◌, map, ℕ, suc, ◌*◌, ◌≤◌, ◌<◌, length, get_or, set, Result, Ok, Err}
use Rattle.complexes.specs.Cell.{Cell, precedes}
use Rattle.complexes.specs.Complex.{Sections, section}
use Rattle.complexes.specs.Packed.{packed}
use Rattle.closures.specs.Closure.{element_top}
use Rattle.closures.specs.Insert.{insert, insert_all}
use Rattle.closures.specs.Rising.{All, Rising, HasVertices}
use Rattle.cells.specs.Word.{Packs}
use Rattle.cell_sets.specs.Words.{part}
use Rattle.cell_sets.specs.declared.insert.Full.{Full}
use Rattle.cell_sets.specs.declared.set.CellSet.{CellSet}

-- the words of dimension p
abbrev pub words_of : CellSet → ℕ → List ℕ
words_of s p = part (p * s.limit) (get_or s.counts p 0) s.words

-- the set holds the cells l of dimension p: their words stand from place p × limit on, and counts[p] is their number
pub record HoldsSection (s : CellSet) (p : ℕ) (l : List Cell) : Type 0 where
  pub counted : get_or s.counts p 0 ≡ length l
  pub within : length l ≤ s.limit
  pub words : part (p * s.limit) (length l) s.words ≡ map packed l
  pub rising : Rising precedes [] l
  pub vertices : All (HasVertices (suc p)) [] l

-- .. the cells of K
pub record Holds (s : CellSet) (K : Sections) : Type 0 where
  pub room : suc element_top * s.limit ≤ length s.words
  pub sized : length s.counts ≡ suc element_top
  pub dimensions : length K ≡ suc element_top
  pub sections : (p : ℕ) → p ≤ element_top → HoldsSection s p (section K p)

-- K with the cells cs added to section p, one after another
unfoldable pub adding : Sections → ℕ → List Cell → Sections
adding K p cs = set K p (insert_all precedes (section K p) cs)

-- what adding the cells cs to section p of K tells and leaves: whether they fit, and if so, K with them
abbrev pub Adds : ℕ → Sections → ℕ → List Cell → Result (Unit {0}) Full → CellSet → Type 0
Adds limit K p cs (Ok u) s = Holds s (adding K p cs)
Adds limit K p cs (Err e) s = limit < length (insert_all precedes (section K p) cs)

-- the cell c is one too many for section p of K, and nothing changed
pub record Overfull (K : Sections) (p : ℕ) (c : Cell) (s s' : CellSet) : Type 0 where
  pub longer : length (insert precedes c (section K p)) ≡ suc s.limit
  pub words-kept : s'.words ≡ s.words
  pub counts-kept : s'.counts ≡ s.counts

-- what adding the cell c to section p of K tells and leaves
abbrev pub AddsOne : Sections → ℕ → Cell → CellSet → Result (Unit {0}) Full → CellSet → Type 0
AddsOne K p c s (Ok u) s' = Holds s' (adding K p (c ∷ []))
AddsOne K p c s (Err e) s' = Overfull K p c s s'

-- .. for every cell of dimension p with the word w, and every K held
abbrev pub AddsCell : ℕ → ℕ → CellSet → Result (Unit {0}) Full → CellSet → Type 0
AddsCell p w s r s' = (K : Sections) (c : Cell) → Holds s K → Packs (suc p) c w → AddsOne K p c s r s'
