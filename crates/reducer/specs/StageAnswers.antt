-- What a stage and the whole reduction answer and leave in the slice, and what a stage starts from. `Placed` and `ColumnClear`, from which the passes
-- start, stand in crate `passes`.
use Rattle.std.specs.Prelude.{◌≡◌, List, ℕ, suc, ◌+◌, ◌≤◌, length, ℤ, nat_abs, Result, Ok, Err}
use Rattle.matrices.specs.Matrix.{Matrix}
use Rattle.reduction_steps.specs.Pivot.{Choice, none, place, Rule}
use Rattle.reduction_steps.specs.Step.{Letter, Machine, at, done, wide, a, reduce, Reaches}
use Rattle.matrix_lines.specs.Slice.{entry_limit, Under}
use Rattle.refusal.specs.declared.Refusal.{Refusal}
use Rattle.operations.specs.Laid.{Laid, sizes_of, state_of}
use Rattle.operations.specs.declared.workspace.Workspace.{Workspace}
use Rattle.passes.specs.PassAnswers.{matrix_of, RowsDone, Cleared, StillUnder}
use Rattle.reducer.specs.declared.stage.Stage.{Stage}
use Rattle.reducer.specs.declared.stage.Stage.TheVariants as stage
use Rattle.reducer.specs.declared.reduction.Reduction.{Reduction}

-- ---- what a stage starts from

-- letter a of stage k
pub record Begun (W : Workspace) (k peak : ℕ) (w : List ℤ) : Type 0 where
  pub laid : Laid (length w) W
  pub under : Under peak w
  pub row-bound : k ≤ W.matrix.lines
  pub column-bound : k ≤ W.matrix.width
  pub rows-done : RowsDone W k w

-- ---- absolute values that fall within stage k

-- of the entry at the place chosen, 0 where there is none
unfoldable pub size_at : Matrix → Choice → ℕ
size_at A none = 0
size_at A (place i j) = nat_abs (A i j)

-- of the entry that step a chooses by the rule
abbrev pub chosen_size : Rule → Workspace → ℕ → List ℤ → ℕ
chosen_size rule W k w = size_at (matrix_of W w) (rule W.matrix.lines W.matrix.width k (matrix_of W w))

-- of the pivot
abbrev pub pivot_size : Workspace → ℕ → List ℤ → ℕ
pivot_size W k w = nat_abs (matrix_of W w k k)

-- ---- what the reduction makes of the slice w

-- the whole reduction by a pivot rule, with the peak so far
abbrev pub reduction_of : Rule → Workspace → ℕ → List ℤ → Machine
reduction_of rule W peak w = reduce entry_limit (sizes_of W) rule (state_of W peak w)

-- ---- what is answered

-- the machine goes from x to y by the steps of document 01 under the rule
abbrev pub Goes : Rule → Workspace → Machine → Machine → Type 0
Goes rule W x y = Reaches entry_limit (sizes_of W) rule x y

-- stage k, entered at the machine x, leads to letter a of the next stage
pub record StageCleared (rule : Rule) (W : Workspace) (k : ℕ) (x : Machine) (n peak : ℕ) (w' : List ℤ) : Type 0 where
  pub goes : Goes rule W x (at a (suc k) (state_of W peak w'))
  pub begun : Begun W (suc k) peak w'
  pub same_length : length w' ≡ n

-- or back to letter a of stage k after so many rounds, each of which has lowered the absolute value to be chosen, at first `size`
pub record StageAgain (rule : Rule) (W : Workspace) (k rounds size : ℕ) (x : Machine) (n peak : ℕ) (w' : List ℤ) : Type 0 where
  pub goes : Goes rule W x (at a k (state_of W peak w'))
  pub begun : Begun W k peak w'
  pub falls : chosen_size rule W k w' + rounds ≤ size
  pub same_length : length w' ≡ n

-- or the workspace is done with rank k
pub record StageExhausted (rule : Rule) (W : Workspace) (k : ℕ) (x : Machine) (n peak : ℕ) (w' : List ℤ) : Type 0 where
  pub goes : Goes rule W x (done k (state_of W peak w'))
  pub kept : StillUnder n peak w'

-- or it goes too wide
pub record StageRefused (rule : Rule) (W : Workspace) (x : Machine) (n : ℕ) (y : Refusal) (w' : List ℤ) : Type 0 where
  pub goes : Goes rule W x wide
  pub cleared : Cleared n y w'

abbrev pub StageEnds : Rule → Workspace → ℕ → ℕ → ℕ → Machine → ℕ → Result Stage Refusal → List ℤ → Type 0
StageEnds rule W k rounds size x n (Ok (stage.Cleared peak)) w' = StageCleared rule W k x n peak w'
StageEnds rule W k rounds size x n (Ok (stage.Exhausted peak)) w' = StageExhausted rule W k x n peak w'
StageEnds rule W k rounds size x n (Ok (stage.Again peak)) w' = StageAgain rule W k rounds size x n peak w'
StageEnds rule W k rounds size x n (Err y) w' = StageRefused rule W x n y w'

-- from the choice, with the slice w, the peak so far and so many rounds left
abbrev pub ChoiceEnds : Rule → Workspace → ℕ → ℕ → ℕ → List ℤ → Result Stage Refusal → List ℤ → Type 0
ChoiceEnds rule W k rounds peak w r w' = StageEnds rule W k rounds (chosen_size rule W k w) (at a k (state_of W peak w)) (length w) r w'

-- from the pass of letter l, in a round after which so many are left
abbrev pub PassEnds : Rule → Letter → Workspace → ℕ → ℕ → ℕ → List ℤ → Result Stage Refusal → List ℤ → Type 0
PassEnds rule l W k rounds peak w r w' = StageEnds rule W k (suc rounds) (pivot_size W k w) (at l k (state_of W peak w)) (length w) r w'

-- the whole reduction, which ends at the machine y
pub record ReductionDone (W : Workspace) (y : Machine) (n r peak : ℕ) (w' : List ℤ) : Type 0 where
  pub outcome : y ≡ done r (state_of W peak w')
  pub kept : StillUnder n peak w'

pub record ReductionRefused (y : Machine) (n : ℕ) (x : Refusal) (w' : List ℤ) : Type 0 where
  pub outcome : y ≡ wide
  pub cleared : Cleared n x w'

abbrev pub Reduces : Workspace → Machine → ℕ → Result Reduction Refusal → List ℤ → Type 0
Reduces W y n (Ok r) w' = ReductionDone W y n r.rank r.peak w'
Reduces W y n (Err x) w' = ReductionRefused y n x w'
