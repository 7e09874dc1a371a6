-- The complex of some cells: they and their nonempty subsets. It computes. `Form` says the same without an order of work.
use Rattle.std.specs.Prelude.{Bool, false, cond, ◌||◌, List, [], ◌∷◌, ◌++◌, ℕ, zero, suc, ◌-◌, eqb, ltb, length}
use Rattle.lists.specs.Tabulate.{tabulate}
use Rattle.complexes.specs.Cell.{Cell, without, precedes}
use Rattle.complexes.specs.Complex.{Sections}
use Rattle.closures.specs.Insert.{insert_all}

-- the highest dimension of an element of a mesh
abbrev pub element_top : ℕ
element_top = 3

-- the cell with these vertices, which may stand in any order and more than once
abbrev pub cell_with : List ℕ → Cell
cell_with vertices = insert_all ltb [] vertices

-- v stands in the list
unfoldable pub member : ℕ → List ℕ → Bool
member v [] = false
member v (w ∷ vertices) = eqb v w || member v vertices

-- some vertex stands twice
unfoldable pub repeats : List ℕ → Bool
repeats [] = false
repeats (v ∷ vertices) = member v vertices || repeats vertices

-- those of dimension p
unfoldable pub of_dimension : ℕ → List Cell → List Cell
of_dimension p [] = []
of_dimension p (c ∷ cells) = cond (eqb (length c) (suc p)) (c ∷ of_dimension p cells) (of_dimension p cells)

-- those of dimension p, each once, in document 01's order
abbrev pub own_section : List Cell → ℕ → List Cell
own_section cells p = insert_all precedes [] (of_dimension p cells)

-- the faces of cells of n vertices
unfoldable pub faces_of : ℕ → List Cell → List Cell
faces_of n [] = []
faces_of n (c ∷ cells) = tabulate n (λ j. without j c) ++ faces_of n cells

-- dimension p of the complex, where `more` dimensions stand above it: its own cells, and the faces of those one dimension above
unfoldable pub closed_section : List Cell → ℕ → ℕ → List Cell
closed_section cells zero p = own_section cells p
closed_section cells (suc more) p = insert_all precedes (own_section cells p) (faces_of (suc (suc p)) (closed_section cells more (suc p)))

-- the sections of dimensions 0 to `top`, before and with the faces
unfoldable pub own_sections : ℕ → List Cell → Sections
own_sections top cells = tabulate (suc top) (own_section cells)

unfoldable pub closure : ℕ → List Cell → Sections
closure top cells = tabulate (suc top) (λ p. closed_section cells (top - p) p)
