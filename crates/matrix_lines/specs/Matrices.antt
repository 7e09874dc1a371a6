-- A matrix in a slice, and what an operation on it leaves.
use Rattle.std.specs.Prelude.{◌≡◌, ◌⊎◌, List, ℕ, ◌+◌, ◌*◌, ◌<◌, ◌≤◌, length, ℤ, nat_abs, Result, Ok, Err}
use Rattle.matrices.specs.Matrix.{Eq}
use Rattle.matrices.specs.Matrix as theory
use Rattle.integers.specs.Slot.{slot}
use Rattle.matrix_lines.specs.Slice.{entry_limit, line_at, Bounded, Covered}
use Rattle.matrix_lines.specs.declared.matrix.Matrix.{Matrix}
use Rattle.matrix_lines.specs.declared.line.TooWide.{TooWide}

-- one past the last place of the matrix
abbrev pub end : Matrix → ℕ
end M = M.at + M.lines * M.width

-- the matrix lies within a slice of length n
pub record Held (n : ℕ) (M : Matrix) : Type 0 where
  pub ends : end M ≤ n

-- its entries
abbrev pub contents : Matrix → List ℤ → theory.Matrix
contents M w i j = slot w (line_at M.at M.width i + j)

-- a place that is not the matrix's
abbrev pub Off : Matrix → ℕ → Type 0
Off M i = (i < M.at) ⊎ (end M ≤ i)

-- some entries of a matrix
abbrev pub Entries : Type 1
Entries = ℕ → ℕ → Type 0

-- all of them
abbrev pub everywhere : Entries
everywhere i j = Unit {0}

-- n is the absolute value of an entry of A among these
pub record EntryOf (M : Matrix) (among : Entries) (A : theory.Matrix) (n : ℕ) : Type 0 where
  pub line : ℕ
  pub place : ℕ
  pub line-below : line < M.lines
  pub place-below : place < M.width
  pub chosen : among line place
  pub is : n ≡ nat_abs (A line place)

-- w' holds A where the matrix stands, and is w elsewhere. x is the largest absolute value that was written, with those entries: it covers every
-- entry that differs, and is the one before or that of an entry among them.
pub record Holds (M : Matrix) (w : List ℤ) (among : Entries) (A : theory.Matrix) (before x : ℕ) (w' : List ℤ) : Type 0 where
  pub same_length : length w' ≡ length w
  pub on : Eq M.lines M.width (contents M w') A
  pub off : (i : ℕ) → Off M i → slot w' i ≡ slot w i
  pub bounded : Bounded x w'
  pub above : before ≤ x
  pub covered : Covered w w' x
  pub wrote : (x ≡ before) ⊎ EntryOf M among A x

-- some entry of A lies beyond the limit
pub record Exceeds (M : Matrix) (w : List ℤ) (A : theory.Matrix) (w' : List ℤ) : Type 0 where
  pub same_length : length w' ≡ length w
  pub line : ℕ
  pub place : ℕ
  pub line-below : line < M.lines
  pub place-below : place < M.width
  pub beyond : entry_limit < nat_abs (A line place)

-- what an operation that makes A of the matrix, by writing some entries, answers and leaves
abbrev pub Became : Matrix → List ℤ → Entries → theory.Matrix → ℕ → Result ℕ TooWide → List ℤ → Type 0
Became M w among A before (Ok x) w' = Holds M w among A before x w'
Became M w among A before (Err e) w' = Exceeds M w A w'

-- the places of line i, as a matrix of that many lines of one entry
abbrev pub places_of : Matrix → ℕ → Matrix
places_of M i = record { at = line_at M.at M.width i; lines = M.width; width = 1 }
