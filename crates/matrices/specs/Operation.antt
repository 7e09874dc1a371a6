-- The elementary operations on the rows or on the columns of a matrix, and the inverse of each.
use Rattle.std.specs.Prelude.{cond, ℕ, eqb, ℤ, neg_ℤ, ◌-ℤ◌, ◌*ℤ◌}
use Rattle.matrices.specs.Matrix.{Matrix, transpose}

-- On rows: `subtract i k q` takes q times row k from row i, `swap i k` exchanges rows i and k, `negate k` negates row k.
-- On columns the same with columns. To add row k to row i is to subtract it -1 times.
pub data Operation : Type 0 where
  subtract : ℕ → ℕ → ℤ → Operation
  swap : ℕ → ℕ → Operation
  negate : ℕ → Operation

-- the operation on the rows of A
unfoldable pub on_rows : Operation → Matrix → Matrix
on_rows (subtract i k q) A a b = cond (eqb a i) (A i b -ℤ q *ℤ A k b) (A a b)
on_rows (swap i k) A a b = cond (eqb a i) (A k b) (cond (eqb a k) (A i b) (A a b))
on_rows (negate k) A a b = cond (eqb a k) (neg_ℤ (A k b)) (A a b)

-- the operation on the columns of A
unfoldable pub on_columns : Operation → Matrix → Matrix
on_columns op A i j = on_rows op (transpose A) j i

-- What the other side undergoes: where `op` is done to the rows of A, `inverse op` done to the columns of B keeps B times A,
-- and likewise with columns and rows exchanged.
unfoldable pub inverse : Operation → Operation
inverse (subtract i k q) = subtract k i (neg_ℤ q)
inverse (swap i k) = swap i k
inverse (negate k) = negate k
