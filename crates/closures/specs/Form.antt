-- What it means that sections list exactly some vertex sets and their nonempty subsets: document 02, Note 3, "its cells are exactly the elements'
-- vertex sets and their nonempty subsets".
use Rattle.std.specs.Prelude.{◌≡◌, ◌↔◌, true, List, [], ℕ, suc, ◌<◌, length, get_or}
use Rattle.complexes.specs.Cell.{Cell, rises, precedes, Listed, Subset}
use Rattle.complexes.specs.Complex.{Sections, section, count, cell}

-- c is a cell of dimension p, and all its vertices stand in the same one of the lists
pub record IsPart (lists : List (List ℕ)) (p : ℕ) (c : Cell) : Type 0 where
  pub sized : length c ≡ suc p
  pub rising : rises c ≡ true
  pub place : ℕ
  pub below : place < length lists
  pub subset : Subset c (get_or lists place [])

-- K has the dimensions 0 to `top`, its sections rise strictly, and section p lists exactly the parts of dimension p
pub record IsClosure (top : ℕ) (lists : List (List ℕ)) (K : Sections) : Type 0 where
  pub dimensions : length K ≡ suc top
  pub ordered : (p i : ℕ) → suc i < count K p → precedes (cell K p i) (cell K p (suc i)) ≡ true
  pub exactly : (p : ℕ) (c : Cell) → Listed c (section K p) ↔ IsPart lists p c
