-- Laws of the machine's run: run-suc, run-add, run-ended, and `Reaches`: finitely many steps lead from one machine to another
-- (reaches-refl, reaches_step, reaches-trans). Ended machines that are reached from one start are equal: reaches-unique. `Comes`:
-- what a machine comes to within so many steps (comes-now, comes-step, comes-more, comes-then).
use mathlib.Core.Path.{◌≡◌, refl, sym, ◌∙◌, ap, subst}
use Prim.Native.Nat.{ℕ, zero, suc, ◌+◌, ◌-◌, ◌≤◌}
use native.Mathlib.Nat as Nat
use native.Mathlib.Decide.{dec_le}
use native.Mathlib.Omega.{arith}
use Rattle.reduction_steps.specs.State.{Sizes}
use Rattle.reduction_steps.specs.Pivot.{Rule}
use Rattle.reduction_steps.specs.Step.{Machine, at, done, wide, Ended, step, run, Reaches}

module _ (limit : ℕ) (z : Sizes) (rule : Rule) where
  -- ---- runs

  -- an ended machine stays as it is
  pub run-ended : (n : ℕ) (x : Machine) → Ended x → run limit z rule n x ≡ x
  unfolding run
  run-ended zero x e = refl
  run-ended (suc n) (at l k s) e = absurd e
  run-ended (suc n) (done r s) e = refl
  run-ended (suc n) wide e = refl

  -- a run begins with one step
  pub run-suc : (n : ℕ) (x : Machine) → run limit z rule (suc n) x ≡ run limit z rule n (step limit z rule x)
  unfolding run step
  run-suc n (at l k s) = refl
  run-suc n (done r s) = sym (run-ended n (done r s) tt)
  run-suc n wide = sym (run-ended n wide tt)

  pub run-add : (a b : ℕ) (x : Machine) → run limit z rule (a + b) x ≡ run limit z rule b (run limit z rule a x)
  unfolding run
  run-add zero b x = ap (λ (n : ℕ). run limit z rule n x) (Nat.zero-add b)
  run-add (suc a) b x =
      ap (λ (n : ℕ). run limit z rule n x) (Nat.suc-add a b)
      ∙ run-suc (a + b) x
      ∙ run-add a b (step limit z rule x)
      ∙ ap (λ (y : Machine). run limit z rule b y) (sym (run-suc a x))

  -- a run that has ended is not changed by more steps
  pub run_more : (a b : ℕ) (x : Machine) → a ≤ b → Ended (run limit z rule a x) → run limit z rule b x ≡ run limit z rule a x
  run_more a b x h e =
      ap (λ (n : ℕ). run limit z rule n x) (sym (Nat.add-sub_of_le h))
      ∙ run-add a (b - a) x
      ∙ run-ended (b - a) (run limit z rule a x) e

  -- ---- what is reached

  pub reaches-refl : (x : Machine) → Reaches limit z rule x x
  unfolding run
  reaches-refl x = record { steps = 0; leads = refl }

  pub reaches_step : (x : Machine) → Reaches limit z rule x (step limit z rule x)
  unfolding run
  reaches_step x = record { steps = 1; leads = run-suc 0 x }

  pub reaches-trans : {x y w : Machine} → Reaches limit z rule x y → Reaches limit z rule y w → Reaches limit z rule x w
  reaches-trans {x} {y} {w} p q = record {
    steps = p.steps + q.steps;
    leads = run-add p.steps q.steps x ∙ ap (λ (v : Machine). run limit z rule q.steps v) p.leads ∙ q.leads;
  }

  -- the machine that a step leads to
  pub reaches-next : {x y : Machine} → step limit z rule x ≡ y → Reaches limit z rule x y
  reaches-next {x} {y} e = subst (λ (v : Machine). Reaches limit z rule x v) e (reaches_step x)

  -- ended machines that are reached from one start are equal
  pub reaches-unique : {x y w : Machine} → Reaches limit z rule x y → Reaches limit z rule x w → Ended y → Ended w → y ≡ w
  reaches-unique {x} {y} {w} p q e f = go (dec_le p.steps q.steps)
    where
      ended-p : Ended (run limit z rule p.steps x)
      ended-p = subst Ended (sym p.leads) e

      ended-q : Ended (run limit z rule q.steps x)
      ended-q = subst Ended (sym q.leads) f

      go : Dec (p.steps ≤ q.steps) → y ≡ w
      go (yes h) = sym p.leads ∙ sym (run_more p.steps q.steps x h ended-p) ∙ q.leads
      go (no h) = sym p.leads ∙ run_more q.steps p.steps x (Nat.le_of_lt (Nat.lt_of_not-le h)) ended-q ∙ q.leads

  -- ---- what comes within a bound

  -- within `bound` steps x comes to a machine of which P holds
  pub record Comes (bound : ℕ) (x : Machine) (P : Machine → Type 0) : Type 0 where
    pub steps : ℕ
    pub few : steps ≤ bound
    pub holds : P (run limit z rule steps x)

  pub comes-now : (bound : ℕ) (x : Machine) (P : Machine → Type 0) → P x → Comes bound x P
  unfolding run
  comes-now bound x P h = record { steps = 0; few = omega arith; holds = h }

  pub comes-step : (bound : ℕ) (x y : Machine) (P : Machine → Type 0) → step limit z rule x ≡ y → Comes bound y P → Comes (suc bound) x P
  comes-step bound x y P e h = record {
    steps = suc h.steps;
    few = omega arith;
    holds = subst P (sym (run-suc h.steps x ∙ ap (λ (w : Machine). run limit z rule h.steps w) e)) h.holds;
  }

  pub comes-more : (b c : ℕ) (x : Machine) (P : Machine → Type 0) → b ≤ c → Comes b x P → Comes c x P
  comes-more b c x P l h = record { steps = h.steps; few = omega arith; holds = h.holds }

  pub comes-then :
      (b c : ℕ) (x : Machine) (P Q : Machine → Type 0) → Comes b x P → ((y : Machine) → P y → Comes c y Q) → Comes (b + c) x Q
  comes-then b c x P Q h f =
      let g = f (run limit z rule h.steps x) h.holds in
      record {
        steps = h.steps + g.steps;
        few = omega arith;
        holds = subst Q (sym (run-add h.steps g.steps x)) g.holds;
      }
