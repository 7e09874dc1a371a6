-- Where one step leads, with what holds there: view-a, view-c, view-d, view-e, for a state in stage k that is ready for the letter.
use mathlib.Core.Path.{◌≡◌, refl, sym, ◌∙◌, subst}
use mathlib.Core.Bool.{Bool, true, false, cond}
use Prim.Native.Nat.{ℕ, suc, ◌-◌, ◌<◌}
use lib.IntN.{negsuc, nat_abs}
use Rattle.integers.specs.Division.{◌∣ℤ◌}
use Rattle.integers.proofs.Floor.{dvd-iff-modulo}
use Rattle.matrices.specs.Operation.{subtract}
use Rattle.reduction_steps.specs.Table.{entry}
use Rattle.reduction_steps.specs.State.{Sizes, State, Outcome, too_wide, made, on_row}
use Rattle.reduction_steps.specs.Pivot.{Rule, Choice, none, place, Least, IsRule}
use Rattle.reduction_steps.specs.Step.{Letter, Machine, at, done, wide, bring, row_pass, column_pass, column_keeps, row_keeps, Row, no_row, row, step}
use Rattle.reduction_laws.specs.Steps.{choice, indivisible_row, step-a-none, step-a-wide, step-a-made, step-c-wide, step-c-made, step-d-wide, step-d-made, step-e-none, step-e-wide, step-e-made}
use Rattle.reduction_laws.specs.Scans.{Indivisible}
use Rattle.reduction_laws.specs.Letters.{Smaller, ReadyC, ReadyD, ReadyE, AfterD, after-a, after-c, after-c-keeps, after-c-clear, after-d, after-d-keeps, after-d-clear, after-e}
use Rattle.reduction_laws.specs.Moves.{Moves}
use Rattle.reduction_laws.proofs.Stage.{Stage, Finished, stage-moves, stage-next}

module _ (limit : ℕ) (z : Sizes) (s₀ : State) (k : ℕ) (s : State) where
  -- letter a: nothing is left, or a least entry has become the pivot
  pub data AfterChoice : Machine → Type 0 where
    overflow : AfterChoice wide
    exhausted : Finished limit z s₀ k s → AfterChoice (done k s)
    brought :
        (i j : ℕ) (t : State) → Least z.rows z.columns k (entry s.matrix) i j → Stage limit z s₀ k t → ReadyC z k t
        → nat_abs (entry t.matrix k k) ≡ nat_abs (entry s.matrix i j) → AfterChoice (at Letter.c k t)

  -- letters c and d: an entry smaller than the pivot is left, or the pass has cleared what it should and the work goes on at `to`
  pub data AfterPass (to : Letter) (Cleared : State → Type 0) : Machine → Type 0 where
    overflow : AfterPass to Cleared wide
    smaller :
        (t : State) → Stage limit z s₀ k t → Smaller z.rows z.columns k (nat_abs (entry s.matrix k k)) (entry t.matrix)
        → AfterPass to Cleared (at Letter.a k t)
    cleared : (t : State) → Stage limit z s₀ k t → Cleared t → entry t.matrix k k ≡ entry s.matrix k k → AfterPass to Cleared (at to k t)

  -- the column pass has cleared row k, so the pivot divided it
  pub record ClearedRow (t : State) : Type 0 where
    pub ready : ReadyE z k t
    pub divided : (j : ℕ) → k < j → j < z.columns → entry s.matrix k k ∣ℤ entry s.matrix k j

  -- letter e: the next stage begins, or a row was added and row k has an entry that the pivot does not divide
  pub data AfterCheck : Machine → Type 0 where
    overflow : AfterCheck wide
    passed : Stage limit z s₀ (suc k) s → AfterCheck (at Letter.a (suc k) s)
    added :
        (t : State) → Stage limit z s₀ k t → ReadyD z k t → entry t.matrix k k ≡ entry s.matrix k k
        → Indivisible (entry t.matrix) (entry t.matrix k k) k (suc k) z.columns → AfterCheck (at Letter.d k t)

  module _ (rule : Rule) (stage : Stage limit z s₀ k s) where
    moved : {t : State} → Moves limit z k s t → Stage limit z s₀ k t
    moved p = stage-moves limit z s₀ k p stage

    pub view-a : IsRule rule → AfterChoice (step limit z rule (at Letter.a k s))
    view-a is = go (choice limit z rule k s) refl
      where
        bringing : (i j : ℕ) → choice limit z rule k s ≡ place i j → (o : Outcome) → bring limit z k i j s ≡ o → AfterChoice (step limit z rule (at Letter.a k s))
        bringing i j r too_wide m = subst AfterChoice (sym (step-a-wide limit z rule k s i j r m)) AfterChoice.overflow
        bringing i j r (made t) m =
            let least = is.chosen z.rows z.columns k (entry s.matrix) i j r in
            let w = after-a limit z k i j s t stage.shaped least m in
            subst AfterChoice (sym (step-a-made limit z rule k s i j t r m)) (brought i j t least (moved w.moves) w.ready w.size)

        go : (r : Choice) → choice limit z rule k s ≡ r → AfterChoice (step limit z rule (at Letter.a k s))
        go none r = subst AfterChoice (sym (step-a-none limit z rule k s r)) (exhausted (record { stage = stage; zeros = is.empty z.rows z.columns k (entry s.matrix) r }))
        go (place i j) r = bringing i j r (bring limit z k i j s) refl

    -- a pass that comes to o leads to the machine m: `keeps` tells whether it leaves a remainder
    passing : {to : Letter} {Cleared : State → Type 0} {m : Machine} (o : Outcome) (keeps : State → Bool) → (o ≡ too_wide → m ≡ wide)
        → ((t : State) (kept : Bool) → o ≡ made t → keeps t ≡ kept → m ≡ at (cond kept Letter.a to) k t)
        → ((t : State) → o ≡ made t → Moves limit z k s t)
        → ((t : State) → o ≡ made t → keeps t ≡ true → Smaller z.rows z.columns k (nat_abs (entry s.matrix k k)) (entry t.matrix))
        → ((t : State) → o ≡ made t → keeps t ≡ false → Cleared t × (entry t.matrix k k ≡ entry s.matrix k k)) → AfterPass to Cleared m
    passing {to} {Cleared} {m} o keeps over on moves less clear = go o refl
      where
        made-it : (t : State) → o ≡ made t → (kept : Bool) → keeps t ≡ kept → AfterPass to Cleared m
        made-it t e true r = subst (AfterPass to Cleared) (sym (on t true e r)) (smaller t (moved (moves t e)) (less t e r))
        made-it t e false r = let w = clear t e r in subst (AfterPass to Cleared) (sym (on t false e r)) (cleared t (moved (moves t e)) w.0 w.1)

        go : (x : Outcome) → o ≡ x → AfterPass to Cleared m
        go too_wide e = subst (AfterPass to Cleared) (sym (over e)) AfterPass.overflow
        go (made t) e = made-it t e (keeps t) refl

    pub view-c : ReadyC z k s → AfterPass Letter.d (ReadyD z k) (step limit z rule (at Letter.c k s))
    view-c h =
        passing (row_pass limit z k (z.rows - suc k) (suc k) s) (λ t. column_keeps (entry t.matrix) k (z.rows - suc k) (suc k))
        (step-c-wide limit z rule k s) (step-c-made limit z rule k s) (λ t e. (after-c limit z k s t h e).moves)
        (λ t e r. after-c-keeps limit z k s t h (after-c limit z k s t h e) r)
        (λ t e r. let w = after-c limit z k s t h e in (after-c-clear limit z k s t w r, w.pivot))

    pub view-d : ReadyD z k s → AfterPass Letter.e ClearedRow (step limit z rule (at Letter.d k s))
    view-d h =
        passing (column_pass limit z k (z.columns - suc k) (suc k) s) (λ t. row_keeps (entry t.matrix) k (z.columns - suc k) (suc k))
        (step-d-wide limit z rule k s) (step-d-made limit z rule k s) (λ t e. (after-d limit z k s t h e).moves)
        (λ t e r. after-d-keeps limit z k s t h (after-d limit z k s t h e) r)
        (λ t e r. let w = after-d limit z k s t h e in (cleared_row t w r, w.pivot))
      where
        cleared_row : (t : State) → AfterD limit z k s t → row_keeps (entry t.matrix) k (z.columns - suc k) (suc k) ≡ false → ClearedRow t
        cleared_row t w r = record {
          ready = ready;
          divided = λ j a b. (dvd-iff-modulo (entry s.matrix k j) (entry s.matrix k k) h.ready.positive).1 (sym (w.remainder j a b) ∙ ready.right j a b);
        }
          where
            ready : ReadyE z k t
            ready = after-d-clear limit z k s t w r

    pub view-e : ReadyE z k s → AfterCheck (step limit z rule (at Letter.e k s))
    view-e h = go (indivisible_row z k s) refl
      where
        adding : (i : ℕ) → indivisible_row z k s ≡ row i → (o : Outcome) → on_row limit z (subtract k i (negsuc 0)) s ≡ o → AfterCheck (step limit z rule (at Letter.e k s))
        adding i r too_wide m = subst AfterCheck (sym (step-e-wide limit z rule k s i r m)) AfterCheck.overflow
        adding i r (made t) m =
            let w = after-e limit z k i s t h r m in
            subst AfterCheck (sym (step-e-made limit z rule k s i t r m)) (added t (moved w.moves) w.ready w.pivot w.remains)

        go : (r : Row) → indivisible_row z k s ≡ r → AfterCheck (step limit z rule (at Letter.e k s))
        go no_row r = subst AfterCheck (sym (step-e-none limit z rule k s r)) (passed (stage-next stage h r))
        go (row i) r = adding i r (on_row limit z (subtract k i (negsuc 0)) s) refl
