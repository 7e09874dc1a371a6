-- The reduction ends within the steps that it is given, done or too wide: reduce-ends. Whatever ended machine is reached from the start is its
-- outcome: reaches-reduce.
use mathlib.Core.Path.{◌≡◌, refl, sym, subst}
use mathlib.Core.Bool.{true}
use Prim.Native.Nat.{ℕ, zero, suc, ◌+◌, ◌*◌, min}
use native.Mathlib.Omega.{arith}
use Rattle.reduction_steps.specs.State.{Sizes, State, within}
use Rattle.reduction_steps.specs.Pivot.{Rule, IsRule}
use Rattle.reduction_steps.specs.Step.{Letter, Machine, at, done, wide, enough, reduce, Ended, Reaches}
use Rattle.reduction_laws.proofs.Run.{run_more, reaches-unique, Comes, comes-now, comes-more, comes-then}
use Rattle.reduction_laws.specs.Shape.{Shaped}
use Rattle.reduction_laws.proofs.Stage.{Stage, stage-start}
use Rattle.reduction_laws.proofs.Descent.{Onward, further, finished, stopped, leaves-stage}

module _ (limit : ℕ) (z : Sizes) (s₀ : State) (rule : Rule) (is : IsRule rule) where
  -- from letter a of stage k, with so many stages to come after it
  abbrev Ends : ℕ → ℕ → State → Type 0
  Ends more k s = Comes limit z rule (suc more * (5 * suc limit)) (at Letter.a k s) Ended

  -- from stage k the machine ends, if it does so from the next stage
  ends-stage :
      (bound k : ℕ) (s : State) → Stage limit z s₀ k s → ((t : State) → Stage limit z s₀ (suc k) t → Comes limit z rule bound (at Letter.a (suc k) t) Ended)
      → Comes limit z rule (5 * suc limit + bound) (at Letter.a k s) Ended
  ends-stage bound k s g next =
      comes-then limit z rule (5 * suc limit) bound (at Letter.a k s) (Onward limit z s₀ rule k) Ended (leaves-stage limit z s₀ rule k is s g) onward
    where
      onward : (y : Machine) → Onward limit z s₀ rule k y → Comes limit z rule bound y Ended
      onward y (further t g') = next t g'
      onward y (finished t f) = comes-now limit z rule bound (done k t) Ended tt
      onward y stopped = comes-now limit z rule bound wide Ended tt

  from-stage : (more k : ℕ) (s : State) → k + more ≡ min z.rows z.columns → Stage limit z s₀ k s → Ends more k s
  from-stage zero k s b g =
      comes-more limit z rule (5 * suc limit + 0) (1 * (5 * suc limit)) (at Letter.a k s) Ended (omega arith)
      (ends-stage 0 k s g (λ t g'. absurd (omega (arith, g'.rows_bound, g'.columns-bound))))
  from-stage (suc more) k s b g =
      comes-more limit z rule (5 * suc limit + suc more * (5 * suc limit)) (suc (suc more) * (5 * suc limit)) (at Letter.a k s) Ended (omega arith)
      (ends-stage (suc more * (5 * suc limit)) k s g (λ t g'. from-stage more (suc k) t (omega arith) g'))

module _ (limit : ℕ) (z : Sizes) (rule : Rule) (is : IsRule rule) (s : State) (shaped : Shaped z s) (narrow : within limit s ≡ true) where
  pub reduce-ends : Ended (reduce limit z rule s)
  unfolding reduce
  reduce-ends =
      let h = from-stage limit z s rule is (min z.rows z.columns) 0 s (omega arith) (stage-start limit z s shaped narrow) in
      subst Ended (sym (run_more limit z rule h.steps (enough limit z) (at Letter.a 0 s) h.few h.holds)) h.holds

  pub reaches-reduce : {y : Machine} → Reaches limit z rule (at Letter.a 0 s) y → Ended y → reduce limit z rule s ≡ y
  unfolding reduce
  reaches-reduce p e = reaches-unique limit z rule (record { steps = enough limit z; leads = refl }) p reduce-ends e
