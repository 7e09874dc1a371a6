-- The elementary operations of the code, and what a call of one asks.
use Rattle.std.specs.Prelude.{◌≡◌, ◌⊎◌, ◌≢◌, List, ℕ, ◌<◌, ◌≤◌, ℤ, pos, nat_abs, Result}
use Rattle.matrices.specs.Operation as theory
use Rattle.matrices.specs.Within.{Within}
use Rattle.matrix_lines.specs.Slice.{entry_limit}
use Rattle.matrix_lines.specs.Matrices.{contents, Became}
use Rattle.matrix_lines.specs.declared.matrix.Matrix.{Matrix}
use Rattle.matrix_lines.specs.declared.line.TooWide.{TooWide}
use Rattle.elementary_operations.specs.declared.operation.Operation.{Operation}
use Rattle.elementary_operations.specs.declared.operation.Operation.TheVariants.{Subtract, Swap, Negate}

-- the definitions' operation
abbrev pub operation_of : Operation → theory.Operation
operation_of (Subtract i k q) = theory.subtract i k q
operation_of (Swap i k) = theory.swap i k
operation_of (Negate k) = theory.negate k

-- the factor of a subtraction lies within the limit
abbrev pub FactorWithin : theory.Operation → Type 0
FactorWithin (theory.subtract i k q) = nat_abs q ≤ entry_limit
FactorWithin (theory.swap i k) = Unit {0}
FactorWithin (theory.negate k) = Unit {0}

-- the lines, or places, that it writes
abbrev pub Writes : theory.Operation → ℕ → Type 0
Writes (theory.subtract i k q) a = a ≡ i
Writes (theory.swap i k) a = (a ≡ i) ⊎ (a ≡ k)
Writes (theory.negate k) a = a ≡ k

-- what it answers and leaves where it is done to the lines of a matrix, and to the places of every line
abbrev pub OnLines : Matrix → List ℤ → theory.Operation → ℕ → Result ℕ TooWide → List ℤ → Type 0
OnLines M w op before r w' = Became M w (λ i j. Writes op i) (theory.on_rows op (contents M w)) before r w'

abbrev pub OnPlaces : Matrix → List ℤ → theory.Operation → ℕ → Result ℕ TooWide → List ℤ → Type 0
OnPlaces M w op before r w' = Became M w (λ i j. Writes op j) (theory.on_columns op (contents M w)) before r w'

-- it is one of n lines or places
pub record Fits (n : ℕ) (op : theory.Operation) : Type 0 where
  pub within : Within n op
  pub factor : FactorWithin op

-- line k has the only nonzero entry at place k
pub record AloneAt (M : Matrix) (w : List ℤ) (k : ℕ) : Type 0 where
  pub line : k < M.lines
  pub zero : (a : ℕ) → a < M.lines → a ≢ k → contents M w a k ≡ pos 0

-- so it is where place k is taken from another
abbrev pub Alone : Matrix → List ℤ → theory.Operation → Type 0
Alone M w (theory.subtract j k q) = AloneAt M w k
Alone M w (theory.swap j k) = Unit {0}
Alone M w (theory.negate k) = Unit {0}
