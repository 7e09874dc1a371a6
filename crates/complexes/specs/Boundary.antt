-- Boundary matrices: document 01, "Boundary matrices".
use Rattle.std.specs.Prelude.{cond, ℕ, zero, suc, length, ℤ, pos, neg_ℤ}
use Rattle.matrices.specs.Sum.{sum}
use Rattle.matrices.specs.Matrix.{Matrix}
use Rattle.complexes.specs.Cell.{Cell, without, same}
use Rattle.complexes.specs.Complex.{Sections, count, cell}

-- +1 for even i and -1 for odd i
unfoldable pub sign : ℕ → ℤ
sign zero = pos 1
sign (suc i) = neg_ℤ (sign i)

-- the entry of the cell f in the column of the cell c: the face of c without vertex number i gets sign i, every other cell 0
unfoldable pub coefficient : Cell → Cell → ℤ
coefficient f c = sum (length c) (λ i. cond (same (without i c) f) (sign i) (pos 0))

-- n_(p-1), the number of rows of the matrix of p: none for dimension 0
unfoldable pub count_below : Sections → ℕ → ℕ
count_below K zero = 0
count_below K (suc p) = count K p

-- the boundary matrix of dimension p: n_(p-1) rows and n_p columns in sheet order
unfoldable pub boundary : Sections → ℕ → Matrix
boundary K zero i j = pos 0
boundary K (suc p) i j = coefficient (cell K p i) (cell K (suc p) j)
