-- One step of the machine, letter by letter: where it leads, from the rule's choice and from what the operations of the letter made.
use Rattle.std.specs.Prelude.{◌≡◌, Bool, cond, ℕ, suc, ◌-◌, negsuc}
use Rattle.matrices.specs.Operation.{subtract}
use Rattle.reduction_steps.specs.Table.{entry}
use Rattle.reduction_steps.specs.State.{Sizes, State, too_wide, made, on_row}
use Rattle.reduction_steps.specs.Pivot.{Rule, Choice, none, place}
use Rattle.reduction_steps.specs.Step.{Letter, at, done, wide, bring, row_pass, column_pass, column_keeps, row_keeps, first_indivisible, Row, no_row, row, next, step}

-- at stage k, the first row with an entry that the pivot does not divide
abbrev pub indivisible_row : Sizes → ℕ → State → Row
indivisible_row z k s = first_indivisible (entry s.matrix) (entry s.matrix k k) (suc k) (z.columns - suc k) (z.rows - suc k) (suc k)

module _ (limit : ℕ) (z : Sizes) (rule : Rule) (k : ℕ) (s : State) where
  -- ---- step a, with b

  -- what the rule chooses at stage k
  abbrev pub choice : Choice
  choice = rule z.rows z.columns k (entry s.matrix)

  pub step-a-none : choice ≡ none → step limit z rule (at Letter.a k s) ≡ done k s
  unfolding step
  step-a-none h = rw (h, step)

  pub step-a-wide : (i j : ℕ) → choice ≡ place i j → bring limit z k i j s ≡ too_wide → step limit z rule (at Letter.a k s) ≡ wide
  unfolding step next
  step-a-wide i j h m = rw (h, step) (rw m)

  pub step-a-made : (i j : ℕ) (t : State) → choice ≡ place i j → bring limit z k i j s ≡ made t → step limit z rule (at Letter.a k s) ≡ at Letter.c k t
  unfolding step next
  step-a-made i j t h m = rw (h, step) (rw m)

  -- ---- step c

  pub step-c-wide : row_pass limit z k (z.rows - suc k) (suc k) s ≡ too_wide → step limit z rule (at Letter.c k s) ≡ wide
  unfolding step next
  step-c-wide m = rw m

  pub step-c-made :
      (t : State) (keeps : Bool) → row_pass limit z k (z.rows - suc k) (suc k) s ≡ made t → column_keeps (entry t.matrix) k (z.rows - suc k) (suc k) ≡ keeps
      → step limit z rule (at Letter.c k s) ≡ at (cond keeps Letter.a Letter.d) k t
  unfolding step next
  step-c-made t keeps m h = rw (m, h)

  -- ---- step d

  pub step-d-wide : column_pass limit z k (z.columns - suc k) (suc k) s ≡ too_wide → step limit z rule (at Letter.d k s) ≡ wide
  unfolding step next
  step-d-wide m = rw m

  pub step-d-made :
      (t : State) (keeps : Bool) → column_pass limit z k (z.columns - suc k) (suc k) s ≡ made t → row_keeps (entry t.matrix) k (z.columns - suc k) (suc k) ≡ keeps
      → step limit z rule (at Letter.d k s) ≡ at (cond keeps Letter.a Letter.e) k t
  unfolding step next
  step-d-made t keeps m h = rw (m, h)

  -- ---- step e

  pub step-e-none : indivisible_row z k s ≡ no_row → step limit z rule (at Letter.e k s) ≡ at Letter.a (suc k) s
  unfolding step
  step-e-none h = rw (h, step)

  pub step-e-wide : (i : ℕ) → indivisible_row z k s ≡ row i → on_row limit z (subtract k i (negsuc 0)) s ≡ too_wide → step limit z rule (at Letter.e k s) ≡ wide
  unfolding step next
  step-e-wide i h m = rw (h, step) (rw m)

  pub step-e-made : (i : ℕ) (t : State) → indivisible_row z k s ≡ row i → on_row limit z (subtract k i (negsuc 0)) s ≡ made t → step limit z rule (at Letter.e k s) ≡ at Letter.d k t
  unfolding step next
  step-e-made i t h m = rw (h, step) (rw m)
