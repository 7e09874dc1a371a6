-- The report and the coordinates that the two reductions give: document 01, "The report and the coordinates"; document 02, Notes 4 and 5.
use Rattle.std.specs.Prelude.{cond, List, [], ◌∷◌, ◌++◌, map, ℕ, zero, suc, ◌-◌, ◌/◌, eqb, length, get_or, ℤ, pos, nat_abs}
use Rattle.integers.specs.Division.{residue}
use Rattle.lists.specs.Tabulate.{tabulate}
use Rattle.matrices.specs.Vector.{apply}
use Rattle.reduction_steps.specs.Table.{Table, entry}
use Rattle.reduction_steps.specs.State.{State}

-- the diagonal: 1, an order above 1, or 0 where there is no pivot
abbrev pub kind : State → ℕ → ℤ
kind x i = entry x.matrix i i

-- the places below n whose kind is not 1, in rising order
unfoldable pub reported : (ℕ → ℤ) → ℕ → List ℕ
reported e zero = []
reported e (suc n) = reported e n ++ cond (eqb (nat_abs (e n)) 1) [] (n ∷ [])

-- n coefficients of each of these columns of G, one column after another
unfoldable pub columns_of : Table → ℕ → List ℕ → List ℤ
columns_of G n [] = []
columns_of G n (i ∷ l) = tabulate n (λ j. entry G i j) ++ columns_of G n l

-- Below, n is the number of cells, s the number of rows of Q, r the rank of the second reduction and x the state that it leaves: Q by rows in its
-- `row_follower`, G by columns in its `row_inverse`.

-- the free rank b: the rows of Q without a pivot
abbrev pub free_rank : ℕ → ℕ → ℕ
free_rank s r = s - r

-- the number t of orders
unfoldable pub torsion_count : ℕ → State → ℕ
torsion_count r x = length (reported (kind x) r)

-- how often n can be halved, rounded down, until it is 0, of at most `most` times
unfoldable pub halvings : ℕ → ℕ → ℕ
halvings zero n = 0
halvings (suc most) zero = 0
halvings (suc most) (suc n) = suc (halvings most (suc n / 2))

-- the number of bits that n needs, 0 for 0: each halving takes one bit away, and n halvings are enough
unfoldable pub bits_of : ℕ → ℕ
bits_of n = halvings n n

-- the report's counts, the largest absolute value that an entry of the two reductions has had, and the number of bits that it needs
pub record Counts : Type 0 where
  pub free : ℕ
  pub torsion : ℕ
  pub peak : ℕ
  pub bits : ℕ

abbrev pub counts_of : ℕ → ℕ → State → Counts
counts_of s r x = record { free = free_rank s r; torsion = torsion_count r x; peak = x.peak; bits = bits_of x.peak }

-- b, t, the t orders in rising place, then the columns of G for the orders and after them the free ones
unfoldable pub report_list : ℕ → ℕ → ℕ → State → List ℤ
report_list n s r x =
    pos (free_rank s r) ∷ pos (torsion_count r x) ∷ (map (kind x) (reported (kind x) r) ++ columns_of x.row_inverse n (reported (kind x) s))

-- row i of Q times the chain z
abbrev pub row_times : ℕ → State → List ℤ → ℕ → ℤ
row_times n x z i = apply n (entry x.row_follower) (λ j. get_or z j (pos 0)) i

-- of a row of order d the residue above -d/2 and up to d/2; a free row, of order 0, is kept
unfoldable pub coordinate_at : ℕ → State → List ℤ → ℕ → ℤ
coordinate_at n x z i = residue (row_times n x z i) (kind x i)

-- the coordinates of z, in the report's order
unfoldable pub coordinate_list : ℕ → ℕ → State → List ℤ → List ℤ
coordinate_list n s x z = map (coordinate_at n x z) (reported (kind x) s)
