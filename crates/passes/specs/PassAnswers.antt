-- What steps b, c and d answer and leave in the slice, and what the passes start from.
use Rattle.std.specs.Prelude.{◌≡◌, List, ℕ, suc, ◌-◌, length, replicate, ℤ, pos, Result, Ok, Err}
use Rattle.matrices.specs.Matrix.{Matrix}
use Rattle.reduction_steps.specs.Table.{entry}
use Rattle.reduction_steps.specs.State.{Outcome, made, too_wide}
use Rattle.reduction_steps.specs.Step.{bring, row_pass, column_pass}
use Rattle.reduction_laws.specs.StageLaws as stage_laws
use Rattle.reduction_laws.specs.Letters.{ReadyC, ReadyD}
use Rattle.matrix_lines.specs.Slice.{entry_limit, Under}
use Rattle.refusal.specs.Number.{number_of}
use Rattle.refusal.specs.declared.Refusal.{Refusal}
use Rattle.operations.specs.Laid.{Laid, sizes_of, lines_of, state_of}
use Rattle.operations.specs.declared.workspace.Workspace.{Workspace}

-- ---- what the passes of stage k start from

-- the matrix that the slice w holds
abbrev pub matrix_of : Workspace → List ℤ → Matrix
matrix_of W w = entry (lines_of W.matrix w)

-- the rows above k are finished: they have no nonzero entry from column k on
abbrev pub RowsDone : Workspace → ℕ → List ℤ → Type 0
RowsDone W k w = stage_laws.RowsDone W.matrix.width k (matrix_of W w)

-- letter c: the pivot is positive
pub record Placed (W : Workspace) (k peak : ℕ) (w : List ℤ) : Type 0 where
  pub laid : Laid (length w) W
  pub under : Under peak w
  pub ready : ReadyC (sizes_of W) k (state_of W peak w)
  pub rows-done : RowsDone W k w

-- letter d: column k is zero off the pivot
pub record ColumnClear (W : Workspace) (k peak : ℕ) (w : List ℤ) : Type 0 where
  pub laid : Laid (length w) W
  pub under : Under peak w
  pub ready : ReadyD (sizes_of W) k (state_of W peak w)
  pub rows-done : RowsDone W k w

-- ---- what the steps make of the slice w with the peak so far

-- step b, for the entry at (i, j)
abbrev pub bring_of : Workspace → ℕ → ℕ → ℕ → ℕ → List ℤ → Outcome
bring_of W k i j peak w = bring entry_limit (sizes_of W) k i j (state_of W peak w)

-- step c
abbrev pub row_pass_of : Workspace → ℕ → ℕ → List ℤ → Outcome
row_pass_of W k peak w = row_pass entry_limit (sizes_of W) k (W.matrix.lines - suc k) (suc k) (state_of W peak w)

-- step d
abbrev pub column_pass_of : Workspace → ℕ → ℕ → List ℤ → Outcome
column_pass_of W k peak w = column_pass entry_limit (sizes_of W) k (W.matrix.width - suc k) (suc k) (state_of W peak w)

-- ---- what is answered

-- refusal 13, and the slice of length n reads 0 throughout
pub record Cleared (n : ℕ) (x : Refusal) (w' : List ℤ) : Type 0 where
  pub number : number_of x ≡ 13
  pub zeros : w' ≡ replicate n (pos 0)

-- the slice still has its length, and every entry lies within the peak
pub record StillUnder (n peak : ℕ) (w' : List ℤ) : Type 0 where
  pub same_length : length w' ≡ n
  pub under : Under peak w'

-- a pass that comes to the outcome o
pub record PassMade (W : Workspace) (o : Outcome) (n peak : ℕ) (w' : List ℤ) : Type 0 where
  pub outcome : o ≡ made (state_of W peak w')
  pub kept : StillUnder n peak w'

pub record PassRefused (o : Outcome) (n : ℕ) (x : Refusal) (w' : List ℤ) : Type 0 where
  pub outcome : o ≡ too_wide
  pub cleared : Cleared n x w'

abbrev pub Passed : Workspace → Outcome → ℕ → Result ℕ Refusal → List ℤ → Type 0
Passed W o n (Ok peak) w' = PassMade W o n peak w'
Passed W o n (Err x) w' = PassRefused o n x w'
