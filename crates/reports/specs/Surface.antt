-- The surface that a cycle bounds: document 02, Note 6. Below, n is the number of cells of the cycle's dimension and l that of the next; s is the number of
-- rows of Q, r the rank of the second reduction and x the state that it leaves, with the transform of its columns, by columns, in its `column_follower`.
use Rattle.std.specs.Prelude.{Bool, not, List, ℕ, ℤ, ◌*ℤ◌}
use Rattle.integers.specs.Division.{floor, divides}
use Rattle.lists.specs.Tabulate.{tabulate}
use Rattle.matrices.specs.Sum.{sum}
use Rattle.sheet_format.specs.Check.{some}
use Rattle.reduction_steps.specs.Table.{entry}
use Rattle.reduction_steps.specs.State.{State}
use Rattle.reports.specs.Report.{kind, row_times}

-- 17: the kind of some row of Q does not divide that row times the chain z; 0, the kind of a row without a pivot, divides only 0
unfoldable pub bounds_nothing : ℕ → ℕ → State → List ℤ → Bool
bounds_nothing n s x z = some s (λ i. not (divides (kind x i) (row_times n x z i)))

-- coefficient j: "The answer sums, over the pivots, the tracked column times its row of Q times the chain, over the pivot"
unfoldable pub surface_at : ℕ → ℕ → State → List ℤ → ℕ → ℤ
surface_at n r x z j = sum r (λ i. floor (row_times n x z i) (kind x i) *ℤ entry x.column_follower i j)

-- the l coefficients
unfoldable pub surface_list : ℕ → ℕ → ℕ → State → List ℤ → List ℤ
surface_list n l r x z = tabulate l (surface_at n r x z)
