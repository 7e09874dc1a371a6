-- The two reductions of one dimension: document 01, "The reduction". `kernel_basis` and `kernel_rows` are G and Q after the first one,
-- `generators` and `coordinates` the final G and Q.
use Prim.Native.Nat.{ℕ, ◌+◌}
use mathlib.Core.Path.{◌≡◌}
use lib.IntN.{ℤ}
use Rattle.matrices.specs.Matrix.{Matrix, Eq, mul, null}
use Rattle.smith.proofs.Certificate.{Smith}
use Rattle.smith.proofs.Rank.{IsRank}

-- the columns of the column transform C from the rank r on
unfoldable pub kernel_basis : ℕ → Matrix → Matrix
kernel_basis r C i j = C i (r + j)

-- the rows of its inverse Ci from r on
unfoldable pub kernel_rows : ℕ → Matrix → Matrix
kernel_rows r Ci i j = Ci (r + i) j

-- the kernel basis of s columns times the inverse Pi of the second row transform
abbrev pub generators : ℕ → ℕ → Matrix → Matrix → Matrix
generators s r C Pi = mul s (kernel_basis r C) Pi

-- the second row transform P times the s kernel rows
abbrev pub coordinates : ℕ → ℕ → Matrix → Matrix → Matrix
coordinates s r P Ci = mul s P (kernel_rows r Ci)

-- G (n rows, s columns) and Q (s rows, n columns) are what the two reductions leave for A (m rows, n columns) and B (n rows, l columns)
-- with A B = 0: the first brings A to a diagonal of rank n - s, the second brings kernel rows times B to the diagonal e.
-- The program keeps no more than G, Q, e and s, so the transforms are fields.
pub record Reduced (m n l : ℕ) (A B : Matrix) (s : ℕ) (e : ℕ → ℤ) (G Q : Matrix) : Type 0 where
  pub complex : Eq m l (mul n A B) null
  pub rank : ℕ
  pub size : rank + s ≡ n
  pub d : ℕ → ℤ
  pub U : Matrix
  pub Ui : Matrix
  pub C : Matrix
  pub Ci : Matrix
  pub first : Smith m n A d U Ui C Ci
  pub is_rank : IsRank d rank
  pub P : Matrix
  pub Pi : Matrix
  pub W : Matrix
  pub Wi : Matrix
  pub second : Smith s l (mul n (kernel_rows rank Ci) B) e P Pi W Wi
  pub is_generators : Eq n s G (generators s rank C Pi)
  pub is_coordinates : Eq s n Q (coordinates s rank P Ci)
