-- Where the matrices of the two reductions stand in the work slice, and what the two come to.
use Rattle.std.specs.Prelude.{◌≡◌, Bool, List, ℕ, zero, suc, ◌≤◌, ℤ, pos, Result, Ok, Err}
use Rattle.complexes.specs.Complex.{Sections, count}
use Rattle.complexes.specs.Boundary.{count_below}
use Rattle.reduction_steps.specs.State.{State}
use Rattle.reports.specs.Reductions as reports
use Rattle.reports.specs.Reductions.{no_transforms, width, first_sizes, first_start}
use Rattle.reduction_steps.specs.Pivot.{Rule}
use Rattle.reduction_steps.specs.Step.{Machine, reduce}
use Rattle.limits.specs.Limits.{entry_limit}
use Rattle.refusal.specs.declared.Refusal.{Refusal}
use Rattle.integers.specs.Slot.{slot}
use Rattle.operations.specs.Laid.{state_of}
use Rattle.two_reductions.specs.Workspaces.{first_workspace, second_workspace}
use Rattle.operations.specs.declared.workspace.Workspace.{Workspace}
use Rattle.passes.specs.PassAnswers.{Cleared, StillUnder}
use Rattle.two_reductions.specs.declared.reduced.Reduced.{Reduced}

-- ---- where the matrices of dimension p of the cells K stand

abbrev pub first_workspace_of : Sections → ℕ → Workspace
first_workspace_of K p = first_workspace (count K p) (count_below K p) (count K (suc p))

-- where the transform of the columns of the second reduction is kept, or not
abbrev pub second_workspace_of : Sections → ℕ → Bool → ℕ → Workspace
second_workspace_of K p kept rank = second_workspace (count K p) (count_below K p) (count K (suc p)) (width kept (count K (suc p))) rank

-- the state that the two reductions leave
abbrev pub state_in : Reduced → List ℤ → State
state_in x w = state_of x.workspace x.peak w

-- the peak at the start of the first reduction
abbrev pub start_peak : ℕ → ℕ
start_peak zero = 0
start_peak (suc cells) = 1

-- the slice of length n holds the start of the first reduction
pub record Filled (K : Sections) (p n : ℕ) (w' : List ℤ) : Type 0 where
  pub state : state_of (first_workspace_of K p) (start_peak (count K p)) w' ≡ first_start no_transforms K p
  pub kept : StillUnder n (start_peak (count K p)) w'

-- the first reduction by a pivot rule
abbrev pub first_reduction : Rule → Sections → ℕ → Machine
first_reduction rule K p = reduce entry_limit (first_sizes no_transforms K p) rule (first_start no_transforms K p)

-- The two reductions came to x, and the slice holds the state that the second leaves, with the peak of both; its matrix has a line for each row of Q.
pub record ReducedTwice (K : Sections) (p : ℕ) (kept-columns : Bool) (y : reports.Reductions) (n : ℕ) (x : Reduced) (w' : List ℤ) : Type 0 where
  pub first-rank : ℕ
  pub rank-within : first-rank ≤ count K p
  pub workspace-is : x.workspace ≡ second_workspace_of K p kept-columns first-rank
  pub is : y ≡ reports.reduced x.workspace.matrix.lines x.rank (state_in x w')
  pub rank_below : x.rank ≤ x.workspace.matrix.lines
  pub kept : StillUnder n x.peak w'

abbrev pub TwiceReduced : Sections → ℕ → Bool → reports.Reductions → ℕ → Result Reduced Refusal → List ℤ → Type 0
TwiceReduced K p kept-columns y n (Ok x) w' = ReducedTwice K p kept-columns y n x w'
TwiceReduced K p kept-columns y n (Err x) w' = (y ≡ reports.too_wide) × Cleared n x w'

-- the slice reads 0 from place n on
pub record ZeroFrom (n : ℕ) (w' : List ℤ) : Type 0 where
  pub zero-at : (i : ℕ) → n ≤ i → slot w' i ≡ pos 0
