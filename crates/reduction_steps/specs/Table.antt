-- A matrix as the list of its rows.
use Rattle.std.specs.Prelude.{Bool, List, [], ◌∷◌, ℕ, max, leb, ℤ, pos, nat_abs, get_or}
use Rattle.lists.specs.Tabulate.{tabulate}
use Rattle.matrices.specs.Matrix.{Matrix}

abbrev pub Table : Type 0
Table = List (List ℤ)

-- its entries, 0 outside
abbrev pub entry : Table → Matrix
entry T i j = get_or (get_or T i []) j (pos 0)

-- the table of m rows and n columns of a matrix
unfoldable pub table : ℕ → ℕ → Matrix → Table
table m n A = tabulate m (λ i. tabulate n (λ j. A i j))

-- the largest absolute value of an entry, 0 where there is none
unfoldable pub row_largest : List ℤ → ℕ
row_largest [] = 0
row_largest (x ∷ r) = max (nat_abs x) (row_largest r)

unfoldable pub table_largest : Table → ℕ
table_largest [] = 0
table_largest (r ∷ T) = max (row_largest r) (table_largest T)

-- every entry lies within the limit either way from zero
unfoldable pub table_within : ℕ → Table → Bool
table_within limit T = leb (table_largest T) limit
