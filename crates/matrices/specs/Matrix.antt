-- Matrices of any size: equality on a range, product, identity, transpose.
use Rattle.std.specs.Prelude.{◌≡◌, cond, ℕ, ◌<◌, eqb, ℤ, pos, ◌*ℤ◌}
use Rattle.matrices.specs.Sum.{sum}

abbrev pub Matrix : Type 0
Matrix = ℕ → ℕ → ℤ

-- A and B agree on m rows and n columns
pub record Eq (m n : ℕ) (A B : Matrix) : Type 0 where
  pub at : (i j : ℕ) → i < m → j < n → A i j ≡ B i j

-- the product; n is the number of columns of A and of rows of B
unfoldable pub mul : ℕ → Matrix → Matrix → Matrix
mul n A B i j = sum n (λ k. A i k *ℤ B k j)

unfoldable pub identity : Matrix
identity i j = cond (eqb i j) (pos 1) (pos 0)

abbrev pub transpose : Matrix → Matrix
transpose A i j = A j i

unfoldable pub null : Matrix
null i j = pos 0
