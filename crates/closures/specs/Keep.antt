-- Some of the cells of a complex: those that a choice keeps. It computes.
use Rattle.std.specs.Prelude.{Bool, not, cond, List, [], ◌∷◌, ◌++◌, ℕ, zero, suc, ◌+◌, eqb, length, get_or}
use Rattle.lists.specs.Tabulate.{tabulate}
use Rattle.complexes.specs.Cell.{Cell}
use Rattle.complexes.specs.Complex.{Sections, section, count}

-- of the first n cells of the list those whose places the choice keeps, in their order
unfoldable pub kept : (ℕ → Bool) → List Cell → ℕ → List Cell
kept keeps l zero = []
kept keeps l (suc n) = kept keeps l n ++ cond (keeps n) (get_or l n [] ∷ []) []

-- the cells that the choice keeps, which goes by dimension and place
unfoldable pub keep : (ℕ → ℕ → Bool) → Sections → Sections
keep keeps K = tabulate (length K) (λ p. kept (keeps p) (section K p) (count K p))

-- the number of cells of dimensions below p, for the counts n: in sheet order, cell i of dimension p is cell `cells_below n p + i`
unfoldable pub cells_below : (ℕ → ℕ) → ℕ → ℕ
cells_below n zero = zero
cells_below n (suc p) = cells_below n p + n p

-- the choice by marks, a byte for each cell in sheet order: a cell stays unless its byte is 1
abbrev pub unmarked : List ℕ → (ℕ → ℕ) → ℕ → ℕ → Bool
unmarked marks n p i = not (eqb (get_or marks (cells_below n p + i) 0) 1)
