-- Chains with whole coefficients of any size, cycles and boundaries, for any two matrices: document 01, "Boundary matrices".
use Rattle.std.specs.Prelude.{ℕ, ◌<◌, ◌≡◌, ℤ, pos, ◌*ℤ◌}
use Rattle.matrices.specs.Sum.{sum}
use Rattle.matrices.specs.Matrix.{Matrix}
use Rattle.matrices.specs.Vector.{apply}

-- a chain is a vector of whole numbers; its length stands beside it
abbrev pub Chain : Type 0
Chain = ℕ → ℤ

-- two chains agree at their n places
pub record Same (n : ℕ) (x y : Chain) : Type 0 where
  pub at : (i : ℕ) → i < n → x i ≡ y i

-- z is a cycle of the matrix A of m rows and n columns: A z has no nonzero entry
pub record Cycle (m n : ℕ) (A : Matrix) (z : Chain) : Type 0 where
  pub vanishes : (i : ℕ) → i < m → apply n A z i ≡ pos 0

-- z is a boundary of the matrix B of n rows and l columns: B times some chain
pub record Boundary (n l : ℕ) (B : Matrix) (z : Chain) : Type 0 where
  pub filling : Chain
  pub fills : Same n (apply l B filling) z

-- the sum of c j times the chain g j over j below k
unfoldable pub combination : ℕ → (ℕ → ℤ) → (ℕ → Chain) → Chain
combination k c g i = sum k (λ j. c j *ℤ g j i)
