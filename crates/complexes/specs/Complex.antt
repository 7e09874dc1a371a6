-- A finite simplicial complex, its cells listed by dimension: document 01, "The sheet".
use Rattle.std.specs.Prelude.{◌≡◌, true, List, [], ℕ, suc, ◌≤◌, ◌<◌, length, get_or}
use Rattle.complexes.specs.Cell.{Cell, without, rises, precedes, Listed}

-- section p lists the cells of dimension p
abbrev pub Sections : Type 0
Sections = List (List Cell)

-- the cells of dimension p: none outside the dimensions that are listed
abbrev pub section : Sections → ℕ → List Cell
section K p = get_or K p []

-- their number, n_p
abbrev pub count : Sections → ℕ → ℕ
count K p = length (section K p)

-- cell i of dimension p
abbrev pub cell : Sections → ℕ → ℕ → Cell
cell K p i = get_or (section K p) i []

-- vertex numbers are below this
abbrev pub vertex_bound : ℕ
vertex_bound = 65536

-- K lists the cells of a complex of dimensions 0 to `top` with at most `limit` cells in each: cells of dimension p have p + 1 vertices, which
-- are vertex numbers and rise strictly, the cells of a section rise strictly, and every face of a cell is listed.
pub record Complex (top limit : ℕ) (K : Sections) : Type 0 where
  pub dimensions : length K ≡ suc top
  pub within : (p : ℕ) → count K p ≤ limit
  pub sized : (p i : ℕ) → i < count K p → length (cell K p i) ≡ suc p
  pub numbered : (p i j : ℕ) → i < count K p → j < suc p → get_or (cell K p i) j 0 < vertex_bound
  pub rising : (p i : ℕ) → i < count K p → rises (cell K p i) ≡ true
  pub ordered : (p i : ℕ) → suc i < count K p → precedes (cell K p i) (cell K p (suc i)) ≡ true
  pub closed : (p i j : ℕ) → i < count K (suc p) → j < suc (suc p) → Listed (without j (cell K (suc p) i)) (section K p)
