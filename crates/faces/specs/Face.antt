-- Faces by their places in an accepted sheet.
use Rattle.std.specs.Prelude.{◌≡◌, List, ℕ, suc, ◌<◌, length, get_or}
use Rattle.complexes.specs.Cell.{without}
use Rattle.complexes.specs.Complex.{count, cell}
use Rattle.sheet_format.specs.Layout.{top}
use Rattle.sheet_format.specs.Check.{sections_of, refusal}
use Rattle.limits.specs.Limits.{library_limit}

-- the sheet is accepted at the library's limit
pub record Accepted (b : List ℕ) : Type 0 where
  pub none-applies : refusal library_limit b ≡ 0

-- r is the place in section p of the face of cell j of section p + 1 without vertex number t
pub record IsFace (b : List ℕ) (p j t r : ℕ) : Type 0 where
  pub below : r < count (sections_of b) p
  pub is : cell (sections_of b) p r ≡ without t (cell (sections_of b) (suc p) j)

-- of the numbers, one for each face that a cell may have, the first p + 2 are the places of the faces of cell j of section p + 1
pub record AreFaces (b : List ℕ) (p j : ℕ) (places : List ℕ) : Type 0 where
  pub sized : length places ≡ suc top
  pub face : (t : ℕ) → t < suc (suc p) → IsFace b p j t (get_or places t 0)
