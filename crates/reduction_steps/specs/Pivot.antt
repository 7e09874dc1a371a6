-- The choice of a pivot: document 01, "The reduction", step a.
use Rattle.std.specs.Prelude.{cond, not, ◌&&◌, ◌≡◌, ◌≢◌, ℕ, zero, suc, ◌-◌, ◌≤◌, ◌<◌, eqb, ltb, pos, nat_abs}
use Rattle.matrices.specs.Matrix.{Matrix}

-- a place of the matrix, or none
pub data Choice : Type 0 where
  none : Choice
  place : ℕ → ℕ → Choice

-- For m rows, n columns and stage k: the pivot of a matrix among its rows and columns from k on.
abbrev pub Rule : Type 0
Rule = ℕ → ℕ → ℕ → Matrix → Choice

-- the entry at (i, j) takes the place of the one chosen so far where it is nonzero and of lesser absolute value
unfoldable pub better : Matrix → Choice → ℕ → ℕ → Choice
better A none i j = cond (eqb (nat_abs (A i j)) 0) none (place i j)
better A (place a b) i j = cond (not (eqb (nat_abs (A i j)) 0) && ltb (nat_abs (A i j)) (nat_abs (A a b))) (place i j) (place a b)

-- the choice after the entries of row i at `more` columns from j on
unfoldable pub along_row : Matrix → ℕ → ℕ → ℕ → Choice → Choice
along_row A i zero j best = best
along_row A i (suc more) j best = along_row A i more (suc j) (better A best i j)

-- the choice after `more` rows from i on, each at `across` columns from k on
unfoldable pub down_rows : Matrix → ℕ → ℕ → ℕ → ℕ → Choice → Choice
down_rows A k across zero i best = best
down_rows A k across (suc more) i best = down_rows A k across more (suc i) (along_row A i across k best)

-- Release 1: the nonzero entry of least absolute value; ties go to the lowest row, then the lowest column.
unfoldable pub release1 : Rule
release1 m n k A = down_rows A k (n - k) (m - k) k none

-- the rule of the calls and of the program
abbrev pub pivot_rule : Rule
pivot_rule = release1

-- ---- what the rest relies on

-- (i, j) is a nonzero entry of least absolute value among rows and columns from k on
pub record Least (m n k : ℕ) (A : Matrix) (i j : ℕ) : Type 0 where
  pub row_from : k ≤ i
  pub row_below : i < m
  pub column-from : k ≤ j
  pub column-below : j < n
  pub nonzero : A i j ≢ pos 0
  pub least : (a b : ℕ) → k ≤ a → a < m → k ≤ b → b < n → A a b ≢ pos 0 → nat_abs (A i j) ≤ nat_abs (A a b)

-- a rule chooses a least nonzero entry, or none where there is none, and reads only rows and columns from k on
pub record IsRule (rule : Rule) : Type 0 where
  pub chosen : (m n k : ℕ) (A : Matrix) (i j : ℕ) → rule m n k A ≡ place i j → Least m n k A i j
  pub empty : (m n k : ℕ) (A : Matrix) → rule m n k A ≡ none → (a b : ℕ) → k ≤ a → a < m → k ≤ b → b < n → A a b ≡ pos 0
  pub block :
      (m n k : ℕ) (A B : Matrix) → ((i j : ℕ) → k ≤ i → i < m → k ≤ j → j < n → A i j ≡ B i j)
      → rule m n k A ≡ rule m n k B
