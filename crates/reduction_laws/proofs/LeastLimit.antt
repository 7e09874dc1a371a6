-- A reduction at two entry limits, document 02, Note 4. Where it is done at one limit and leaves the peak n, then at another limit L, within which its
-- start lies, it is done with the same where n ≤ L, and too wide where L < n (reduce-limit).
-- `Leads`: this of steps of the machine.
use mathlib.Core.Path.{◌≡◌, refl, sym, ◌∙◌, ap, subst}
use mathlib.Core.Bool.{true, cond}
use Prim.Native.Nat.{ℕ, zero, suc, ◌-◌, ◌≤◌, ◌<◌}
use native.Mathlib.Nat.{le_refl, le_trans}
use native.Mathlib.Decide.{dec_le}
use native.Mathlib.Omega.{arith}
use lib.IntN.{negsuc}
use Rattle.matrices.specs.Operation.{subtract}
use Rattle.reduction_steps.specs.Table.{entry}
use Rattle.reduction_steps.specs.State.{Sizes, State, Outcome, too_wide, made, within, on_row}
use Rattle.reduction_steps.specs.Pivot.{Rule, Choice, none, place, IsRule}
use Rattle.reduction_steps.specs.Step.{Letter, Machine, at, done, wide, bring, row_pass, column_pass, column_keeps, row_keeps, Row, no_row, row, next, step, run, enough, reduce}
use Rattle.reduction_laws.proofs.Run.{run-ended, run-suc}
use Rattle.reduction_laws.specs.Steps.{choice, indivisible_row, step-a-none, step-e-none}
use Rattle.reduction_laws.specs.Shape.{Shaped}
use Rattle.reduction_laws.proofs.OtherLimit.{Follows, row-follows, bring-follows, row_pass-follows, column_pass-follows}
use Rattle.reduction_laws.proofs.Ends.{reaches-reduce}

-- ---- the machine

-- its peak, while it is not too wide
abbrev peak_of : Machine → ℕ
peak_of (at l k s) = s.peak
peak_of (done r s) = s.peak
peak_of wide = 0

abbrev Narrow : Machine → Type 0
Narrow (at l k s) = Unit {0}
Narrow (done r s) = Unit {0}
Narrow wide = ⊥

-- from a machine with peak n to y at some limit; y': where the same steps lead at the limit L
record Leads (L n : ℕ) (y y' : Machine) : Type 0 where
  rises : n ≤ peak_of y
  same : peak_of y ≤ L → y' ≡ y
  wider : n ≤ L → L < peak_of y → y' ≡ wide

leads-stay : (L : ℕ) (y : Machine) → Leads L (peak_of y) y y
leads-stay L y = record { rises = le_refl (peak_of y); same = λ h. refl; wider = λ h l. absurd (omega arith) }

module _ (limit L : ℕ) (z : Sizes) (rule : Rule) where
  -- where the work goes on
  next-leads :
      (s : State) (o o' : Outcome) (to : State → Machine) → ((t : State) → peak_of (to t) ≡ t.peak) → ((t : State) → o ≡ made t → Follows L s t o')
      → Narrow (next limit z o to) → Leads L s.peak (next limit z o to) (next L z o' to)
  unfolding next
  next-leads s too_wide o' to is f n = absurd n
  next-leads s (made t) o' to is f n =
      let g = f t refl in
      record {
        rises = omega (arith, is t, g.rises);
        same = λ h. ap (λ (o : Outcome). next L z o to) (g.same (omega (arith, is t)));
        wider = λ h l. ap (λ (o : Outcome). next L z o to) (g.wider h (omega (arith, is t)));
      }

  abbrev StepLeads : Machine → Type 0
  StepLeads x = Narrow (step limit z rule x) → Leads L (peak_of x) (step limit z rule x) (step L z rule x)

  -- two steps that are these
  step_is : (x : Machine) {y y' : Machine} → step limit z rule x ≡ y → step L z rule x ≡ y' → (Narrow y → Leads L (peak_of x) y y') → StepLeads x
  step_is x e e' h = rw (e, e') h

  module _ (k : ℕ) (s : State) where
    step-a-leads : StepLeads (at Letter.a k s)
    unfolding step
    step-a-leads = go (choice limit z rule k s) refl
      where
        go : (x : Choice) → choice limit z rule k s ≡ x → StepLeads (at Letter.a k s)
        go none e = step_is (at Letter.a k s) (step-a-none limit z rule k s e) (step-a-none L z rule k s e) (λ n. leads-stay L (done k s))
        go (place i j) e =
            rw (e, step)
            (next-leads s (bring limit z k i j s) (bring L z k i j s) (λ t. at Letter.c k t) (λ t. refl) (λ t. bring-follows limit L z k i j s t))

    step-c-leads : StepLeads (at Letter.c k s)
    unfolding step
    step-c-leads =
        next-leads s (row_pass limit z k (z.rows - suc k) (suc k) s) (row_pass L z k (z.rows - suc k) (suc k) s)
        (λ t. at (cond (column_keeps (entry t.matrix) k (z.rows - suc k) (suc k)) Letter.a Letter.d) k t) (λ t. refl)
        (λ t. row_pass-follows limit L z k (z.rows - suc k) (suc k) s t)

    step-d-leads : StepLeads (at Letter.d k s)
    unfolding step
    step-d-leads =
        next-leads s (column_pass limit z k (z.columns - suc k) (suc k) s) (column_pass L z k (z.columns - suc k) (suc k) s)
        (λ t. at (cond (row_keeps (entry t.matrix) k (z.columns - suc k) (suc k)) Letter.a Letter.e) k t) (λ t. refl)
        (λ t. column_pass-follows limit L z k (z.columns - suc k) (suc k) s t)

    step-e-leads : StepLeads (at Letter.e k s)
    unfolding step
    step-e-leads = go (indivisible_row z k s) refl
      where
        go : (x : Row) → indivisible_row z k s ≡ x → StepLeads (at Letter.e k s)
        go no_row e = step_is (at Letter.e k s) (step-e-none limit z rule k s e) (step-e-none L z rule k s e) (λ n. leads-stay L (at Letter.a (suc k) s))
        go (row i) e =
            rw (e, step)
            (next-leads s (on_row limit z (subtract k i (negsuc 0)) s) (on_row L z (subtract k i (negsuc 0)) s) (λ t. at Letter.d k t) (λ t. refl)
            (λ t. row-follows limit L z (subtract k i (negsuc 0)) s t))

  step-leads : (x : Machine) → StepLeads x
  unfolding step
  step-leads (at Letter.a k s) = step-a-leads k s
  step-leads (at Letter.c k s) = step-c-leads k s
  step-leads (at Letter.d k s) = step-d-leads k s
  step-leads (at Letter.e k s) = step-e-leads k s
  step-leads (done r s) = λ n. leads-stay L (done r s)
  step-leads wide = λ n. absurd n

  -- ---- runs

  -- a run that is not too wide at its end was not before
  run-narrow : (n : ℕ) (x : Machine) → Narrow (run limit z rule n x) → Narrow x
  run-narrow n (at l k s) h = tt
  run-narrow n (done r s) h = tt
  run-narrow n wide h = subst Narrow (run-ended limit z rule n wide tt) h

  -- some steps, then n more
  leads-trans : (n m : ℕ) (u u' y : Machine) → Leads L m u u' → Leads L (peak_of u) y (run L z rule n u) → Leads L m y (run L z rule n u')
  leads-trans n m u u' y p q = record {
    rises = le_trans p.rises q.rises;
    same = λ h. ap (λ (x : Machine). run L z rule n x) (p.same (le_trans q.rises h)) ∙ q.same h;
    wider = λ h l. go (dec_le (peak_of u) L) h l;
  }
    where
      go : Dec (peak_of u ≤ L) → m ≤ L → L < peak_of y → run L z rule n u' ≡ wide
      go (yes b) h l = ap (λ (x : Machine). run L z rule n x) (p.same b) ∙ q.wider b l
      go (no b) h l = ap (λ (x : Machine). run L z rule n x) (p.wider h (omega arith)) ∙ run-ended L z rule n wide tt

  run-leads : (n : ℕ) (x : Machine) → Narrow (run limit z rule n x) → Leads L (peak_of x) (run limit z rule n x) (run L z rule n x)
  unfolding run
  run-leads zero x h = leads-stay L x
  run-leads (suc n) x h =
      let u : Machine = step limit z rule x in
      let m : Narrow (run limit z rule n u) = rw (run-suc limit z rule n x) at h in
      rw (run-suc limit z rule n x, run-suc L z rule n x)
      (leads-trans n (peak_of x) u (step L z rule x) (run limit z rule n u) (step-leads x (run-narrow n u m)) (run-leads n u m))

-- ---- the reduction

-- the peak does not fall
pub reduce-rises : (limit : ℕ) (z : Sizes) (rule : Rule) (s : State) (r : ℕ) (t : State) → reduce limit z rule s ≡ done r t → s.peak ≤ t.peak
unfolding reduce
reduce-rises limit z rule s r t e =
    subst (λ (y : Machine). s.peak ≤ peak_of y) e
    (run-leads limit limit z rule (enough limit z) (at Letter.a 0 s) (subst Narrow (sym e) tt)).rises

-- done with rank r and the state t at some limit; y: what it comes to at the limit L
pub record AtLimit (L : ℕ) (s : State) (r : ℕ) (t : State) (y : Machine) : Type 0 where
  pub same : t.peak ≤ L → y ≡ done r t
  pub wider : s.peak ≤ L → L < t.peak → y ≡ wide

pub reduce-limit :
    (limit L : ℕ) (z : Sizes) (rule : Rule) → IsRule rule → (s : State) → Shaped z s → within L s ≡ true
    → (r : ℕ) (t : State) → reduce limit z rule s ≡ done r t → AtLimit L s r t (reduce L z rule s)
unfolding reduce
reduce-limit limit L z rule is s shaped small r t e = record {
  same = λ h. reaches-reduce L z rule is s shaped small (record { steps = enough limit z; leads = leads.same h }) tt;
  wider = λ h l. reaches-reduce L z rule is s shaped small (record { steps = enough limit z; leads = leads.wider h l }) tt;
}
  where
    leads : Leads L s.peak (done r t) (run L z rule (enough limit z) (at Letter.a 0 s))
    leads =
        subst (λ (y : Machine). Leads L s.peak y (run L z rule (enough limit z) (at Letter.a 0 s))) e
        (run-leads limit L z rule (enough limit z) (at Letter.a 0 s) (subst Narrow (sym e) tt))
