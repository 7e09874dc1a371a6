-- What finding cells answers.
use Rattle.std.specs.Prelude.{◌≡◌, ◌≢◌, Bool, true, not, List, [], ℕ, suc, ◌≤◌, ◌<◌, length, get_or, Option, Some, None}
use Rattle.complexes.specs.Cell.{Cell, without, precedes, listed}
use Rattle.sheet_format.specs.Layout.{top}
use Rattle.sheet_format.specs.Check.{some}
use Rattle.cells.specs.Word.{Packs}

-- a step within `left` cells: one at least, where there is one, and not past them
pub record Steps (left r : ℕ) : Type 0 where
  pub some_left : 0 < left → 0 < r
  pub within : r ≤ left

-- the cells rise strictly
pub record Rising (l : List Cell) : Type 0 where
  pub next : (i : ℕ) → suc i < length l → precedes (get_or l i []) (get_or l (suc i) []) ≡ true

-- the place of c in l, or that there is none
abbrev pub Finds : Cell → List Cell → Option ℕ → Type 0
Finds c l (Some i) = (i < length l) × (get_or l i [] ≡ c)
Finds c l None = (i : ℕ) → i < length l → get_or l i [] ≢ c

-- .. told of a cell of n vertices from its word w
abbrev pub FindsWord : ℕ → ℕ → List Cell → Option ℕ → Type 0
FindsWord n w l r = (c : Cell) → Packs n c w → Finds c l r

-- whether all n + 1 faces of c stand in l; if so, the first n + 1 of the numbers, one for each face that a cell may have, are their places
pub record FindsFaces (n : ℕ) (c : Cell) (l : List Cell) (all : Bool) (places : List ℕ) : Type 0 where
  pub tells : not all ≡ some (suc n) (λ j. not (listed (without j c) l))
  pub finds : all ≡ true → (j : ℕ) → j < suc n → Finds (without j c) l (Some (get_or places j 0))
  pub sized : length places ≡ suc top
