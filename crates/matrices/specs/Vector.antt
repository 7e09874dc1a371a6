-- A matrix times a vector.
use Rattle.std.specs.Prelude.{ℕ, ℤ, ◌*ℤ◌}
use Rattle.matrices.specs.Sum.{sum}
use Rattle.matrices.specs.Matrix.{Matrix}

-- A vector is a function of the place; its length stands beside it.
abbrev pub Vector : Type 0
Vector = ℕ → ℤ

-- A times x; n is the number of columns of A
unfoldable pub apply : ℕ → Matrix → Vector → Vector
apply n A x i = sum n (λ j. A i j *ℤ x j)
