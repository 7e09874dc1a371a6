-- What holds of a machine at each letter: `Holds`. A step keeps it (step-holds), so it holds of whatever is reached from a start that is
-- shaped and within the limit (reached-holds).
use mathlib.Core.Path.{◌≡◌, sym, subst}
use mathlib.Core.Bool.{true}
use Prim.Native.Nat.{ℕ, zero, suc}
use Rattle.reduction_steps.specs.State.{Sizes, State, within}
use Rattle.reduction_steps.specs.Pivot.{Rule, IsRule}
use Rattle.reduction_steps.specs.Step.{Letter, Machine, at, done, wide, step, run, Reaches}
use Rattle.reduction_laws.proofs.Run.{run-suc}
use Rattle.reduction_laws.specs.Shape.{Shaped}
use Rattle.reduction_laws.specs.Letters.{ReadyC, ReadyD, ReadyE}
use Rattle.reduction_laws.proofs.Stage.{Stage, Finished, stage-start}
use Rattle.reduction_laws.proofs.Views.{AfterChoice, brought, exhausted, AfterPass, smaller, cleared, ClearedRow, AfterCheck, passed, added, view-a, view-c, view-d, view-e}

module _ (limit : ℕ) (z : Sizes) (s₀ : State) where
  -- in stage k, and ready for a letter
  pub record AtLetter (Ready : Sizes → ℕ → State → Type 0) (k : ℕ) (s : State) : Type 0 where
    pub stage : Stage limit z s₀ k s
    pub ready : Ready z k s

  abbrev pub Holds : Machine → Type 0
  Holds (at Letter.a k s) = Stage limit z s₀ k s
  Holds (at Letter.c k s) = AtLetter ReadyC k s
  Holds (at Letter.d k s) = AtLetter ReadyD k s
  Holds (at Letter.e k s) = AtLetter ReadyE k s
  Holds (done r s) = Finished limit z s₀ r s
  Holds wide = Unit {0}

  -- ---- from the views

  choice-holds : (k : ℕ) (s : State) {x : Machine} → AfterChoice limit z s₀ k s x → Holds x
  choice-holds k s AfterChoice.overflow = tt
  choice-holds k s (exhausted f) = f
  choice-holds k s (brought i j t least g h p) = record { stage = g; ready = h }

  row-pass-holds : (k : ℕ) (s : State) {x : Machine} → AfterPass limit z s₀ k s Letter.d (ReadyD z k) x → Holds x
  row-pass-holds k s AfterPass.overflow = tt
  row-pass-holds k s (smaller t g f) = g
  row-pass-holds k s (cleared t g h p) = record { stage = g; ready = h }

  column-pass-holds : (k : ℕ) (s : State) {x : Machine} → AfterPass limit z s₀ k s Letter.e (ClearedRow limit z s₀ k s) x → Holds x
  column-pass-holds k s AfterPass.overflow = tt
  column-pass-holds k s (smaller t g f) = g
  column-pass-holds k s (cleared t g h p) = record { stage = g; ready = h.ready }

  check-holds : (k : ℕ) (s : State) {x : Machine} → AfterCheck limit z s₀ k s x → Holds x
  check-holds k s AfterCheck.overflow = tt
  check-holds k s (passed g) = g
  check-holds k s (added t g h p f) = record { stage = g; ready = h }

  module _ (rule : Rule) (is : IsRule rule) where
    pub step-holds : (x : Machine) → Holds x → Holds (step limit z rule x)
    unfolding step
    step-holds (at Letter.a k s) h = choice-holds k s (view-a limit z s₀ k s rule h is)
    step-holds (at Letter.c k s) h = row-pass-holds k s (view-c limit z s₀ k s rule h.stage h.ready)
    step-holds (at Letter.d k s) h = column-pass-holds k s (view-d limit z s₀ k s rule h.stage h.ready)
    step-holds (at Letter.e k s) h = check-holds k s (view-e limit z s₀ k s rule h.stage h.ready)
    step-holds (done r s) h = h
    step-holds wide h = tt

    pub run_holds : (n : ℕ) (x : Machine) → Holds x → Holds (run limit z rule n x)
    unfolding run
    run_holds zero x h = h
    run_holds (suc n) x h = subst Holds (sym (run-suc limit z rule n x)) (run_holds n (step limit z rule x) (step-holds x h))

    pub reaches-holds : (x y : Machine) → Reaches limit z rule x y → Holds x → Holds y
    reaches-holds x y p h = subst Holds p.leads (run_holds p.steps x h)

-- whatever is reached from the start
pub reached-holds :
    (limit : ℕ) (z : Sizes) (rule : Rule) → IsRule rule → (s : State) → Shaped z s → within limit s ≡ true
    → (y : Machine) → Reaches limit z rule (at Letter.a 0 s) y → Holds limit z s y
reached-holds limit z rule is s shaped narrow y p = reaches-holds limit z s rule is (at Letter.a 0 s) y p (stage-start limit z s shaped narrow)
