-- The machine leaves each stage within 5 (limit + 1) steps: leaves-stage. Every return to letter a finds a nonzero entry smaller than the last
-- pivot, and there are at most five steps between two returns: pivot-loop.
use mathlib.Core.Path.{◌≡◌, refl, sym, subst}
use Prim.Native.Nat.{ℕ, zero, suc, ◌+◌, ◌*◌, ◌≤◌}
use native.Mathlib.Omega.{arith}
use lib.IntN.{ℤ, nat_abs}
use Rattle.reduction_steps.specs.Table.{entry}
use Rattle.reduction_steps.specs.State.{Sizes, State}
use Rattle.reduction_steps.specs.Pivot.{Rule, Choice, none, place, IsRule}
use Rattle.reduction_steps.specs.Step.{Letter, Machine, at, done, wide, step}
use Rattle.reduction_laws.proofs.Run.{Comes, comes-now, comes-step, comes-more}
use Rattle.reduction_laws.specs.Steps.{choice, step-a-none}
use Rattle.reduction_laws.specs.Shape.{within-entry}
use Rattle.reduction_laws.specs.Scans.{Indivisible}
use Rattle.reduction_laws.specs.Letters.{Smaller, smaller-weaken, ReadyC, ReadyD, ReadyE}
use Rattle.reduction_laws.proofs.Stage.{Stage, Finished}
use Rattle.reduction_laws.proofs.Views.{AfterChoice, brought, exhausted, AfterPass, smaller, cleared, ClearedRow, AfterCheck, passed, added, view-a, view-c, view-d, view-e}

module _ (limit : ℕ) (z : Sizes) (s₀ : State) (rule : Rule) (k : ℕ) where
  -- the machine has come to letter a of the next stage, or it is done with rank k, or too wide
  pub data Onward : Machine → Type 0 where
    further : (s : State) → Stage limit z s₀ (suc k) s → Onward (at Letter.a (suc k) s)
    finished : (s : State) → Finished limit z s₀ k s → Onward (done k s)
    stopped : Onward wide

  -- from letter a with a nonzero entry below p, the machine leaves the stage
  abbrev pub Leaves : ℕ → Type 0
  Leaves p = (t : State) → Stage limit z s₀ k t → Smaller z.rows z.columns k p (entry t.matrix) → Comes limit z rule (5 * p) (at Letter.a k t) Onward

  module _ (p : ℕ) (back : Leaves p) where
    -- within n steps and those that `back` takes
    abbrev Quits : ℕ → Machine → Type 0
    Quits n x = Comes limit z rule (n + 5 * p) x Onward

    quits-step : (n : ℕ) (x : Machine) → Quits n (step limit z rule x) → Quits (suc n) x
    quits-step n x h =
        comes-more limit z rule (suc (n + 5 * p)) (suc n + 5 * p) x Onward (omega arith)
        (comes-step limit z rule (n + 5 * p) x (step limit z rule x) Onward refl h)

    -- the work returns to a, with a pivot of at most p behind it
    quits-return : (n : ℕ) (t : State) (x : ℤ) → nat_abs x ≤ p → Stage limit z s₀ k t → Smaller z.rows z.columns k (nat_abs x) (entry t.matrix) → Quits n (at Letter.a k t)
    quits-return n t x b g f =
        comes-more limit z rule (5 * p) (n + 5 * p) (at Letter.a k t) Onward (omega arith) (back t g (smaller-weaken b f))

    quits-wide : (n : ℕ) → Quits n wide
    quits-wide n = comes-now limit z rule (n + 5 * p) wide Onward stopped

    -- a pivot of the same size
    same_size : {x y : ℤ} → x ≡ y → nat_abs y ≤ p → nat_abs x ≤ p
    same_size e l = subst (λ (u : ℤ). nat_abs u ≤ p) (sym e) l

    -- letter d after e: a remainder is left
    from-d-again :
        (s : State) → Stage limit z s₀ k s → ReadyD z k s → Indivisible (entry s.matrix) (entry s.matrix k k) k (suc k) z.columns
        → nat_abs (entry s.matrix k k) ≤ p → Quits 1 (at Letter.d k s)
    from-d-again s g h f l = quits-step 0 (at Letter.d k s) (go (view-d limit z s₀ k s rule g h))
      where
        go : {x : Machine} → AfterPass limit z s₀ k s Letter.e (ClearedRow limit z s₀ k s) x → Quits 0 x
        go AfterPass.overflow = quits-wide 0
        go (smaller t g' r) = quits-return 0 t (entry s.matrix k k) l g' r
        go (cleared t g' c e) = absurd (f.indivisible (c.divided f.place f.from f.below))

    from-e : (s : State) → Stage limit z s₀ k s → ReadyE z k s → nat_abs (entry s.matrix k k) ≤ p → Quits 2 (at Letter.e k s)
    from-e s g h l = quits-step 1 (at Letter.e k s) (go (view-e limit z s₀ k s rule g h))
      where
        go : {x : Machine} → AfterCheck limit z s₀ k s x → Quits 1 x
        go AfterCheck.overflow = quits-wide 1
        go (passed g') = comes-now limit z rule (1 + 5 * p) (at Letter.a (suc k) s) Onward (further s g')
        go (added t g' d e f) = from-d-again t g' d f (same_size e l)

    from-d : (s : State) → Stage limit z s₀ k s → ReadyD z k s → nat_abs (entry s.matrix k k) ≤ p → Quits 3 (at Letter.d k s)
    from-d s g h l = quits-step 2 (at Letter.d k s) (go (view-d limit z s₀ k s rule g h))
      where
        go : {x : Machine} → AfterPass limit z s₀ k s Letter.e (ClearedRow limit z s₀ k s) x → Quits 2 x
        go AfterPass.overflow = quits-wide 2
        go (smaller t g' r) = quits-return 2 t (entry s.matrix k k) l g' r
        go (cleared t g' c e) = from-e t g' c.ready (same_size e l)

    from-c : (s : State) → Stage limit z s₀ k s → ReadyC z k s → nat_abs (entry s.matrix k k) ≤ p → Quits 4 (at Letter.c k s)
    from-c s g h l = quits-step 3 (at Letter.c k s) (go (view-c limit z s₀ k s rule g h))
      where
        go : {x : Machine} → AfterPass limit z s₀ k s Letter.d (ReadyD z k) x → Quits 3 x
        go AfterPass.overflow = quits-wide 3
        go (smaller t g' r) = quits-return 3 t (entry s.matrix k k) l g' r
        go (cleared t g' d e) = from-d t g' d (same_size e l)

    from-a : IsRule rule → (s : State) → Stage limit z s₀ k s → Smaller z.rows z.columns k (suc p) (entry s.matrix) → Quits 5 (at Letter.a k s)
    from-a is s g f = quits-step 4 (at Letter.a k s) (go (view-a limit z s₀ k s rule g is))
      where
        go : {x : Machine} → AfterChoice limit z s₀ k s x → Quits 4 x
        go AfterChoice.overflow = quits-wide 4
        go (exhausted end) = absurd (f.nonzero (end.zeros f.row f.column f.row_from f.row_below f.column-from f.column-below))
        go (brought i j t least g' c e) =
            from-c t g' c
            (omega (arith, e, f.less, least.least f.row f.column f.row_from f.row_below f.column-from f.column-below f.nonzero))

  pub pivot-loop : IsRule rule → (p : ℕ) → Leaves p
  pivot-loop is zero t g f = absurd (omega (arith, f.less))
  pivot-loop is (suc p) t g f =
      comes-more limit z rule (5 + 5 * p) (5 * suc p) (at Letter.a k t) Onward (omega arith) (from-a p (pivot-loop is p) is t g f)

  pub leaves-stage : IsRule rule → (s : State) → Stage limit z s₀ k s → Comes limit z rule (5 * suc limit) (at Letter.a k s) Onward
  leaves-stage is s g = go (choice limit z rule k s) refl
    where
      go : (x : Choice) → choice limit z rule k s ≡ x → Comes limit z rule (5 * suc limit) (at Letter.a k s) Onward
      go none e =
          comes-more limit z rule 1 (5 * suc limit) (at Letter.a k s) Onward (omega arith)
          (comes-step limit z rule 0 (at Letter.a k s) (done k s) Onward (step-a-none limit z rule k s e)
          (comes-now limit z rule 0 (done k s) Onward (finished s (record { stage = g; zeros = is.empty z.rows z.columns k (entry s.matrix) e }))))
      go (place i j) e =
          let least = is.chosen z.rows z.columns k (entry s.matrix) i j e in
          pivot-loop is (suc limit) s g (record {
            row = i;
            column = j;
            row_from = least.row_from;
            row_below = least.row_below;
            column-from = least.column-from;
            column-below = least.column-below;
            nonzero = least.nonzero;
            less = omega (arith, within-entry limit s g.within i j);
          })
