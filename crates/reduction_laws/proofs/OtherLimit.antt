-- An operation and a pass at two entry limits, document 02, Note 4: `Follows`. Where at one limit it makes a state with the peak n, then at another limit
-- L, within which the peak before it lies, it makes the same state where n ≤ L, and answers too wide where L < n: row-follows, bring-follows,
-- row_pass-follows, column_pass-follows.
use mathlib.Core.Path.{◌≡◌, refl, ◌∙◌, ap, subst}
use mathlib.Core.Bool.{Bool, true, false, cond}
use Prim.Native.Nat.{ℕ, zero, suc, ◌≤◌, ◌<◌, max}
use native.Mathlib.Nat.{le_refl, le_trans}
use native.Mathlib.Decide.{dec_le}
use native.Mathlib.Omega.{arith}
use lib.Signed.{non_neg}
use Rattle.matrices.specs.Operation.{Operation, subtract, swap, negate}
use Rattle.reduction_steps.specs.Table.{entry}
use Rattle.reduction_steps.specs.State.{Sizes, State, Outcome, too_wide, made, largest, within, row_operation, column_operation, checked, and_then, on_row, on_column}
use Rattle.reduction_steps.specs.Step.{bring, positive, quotient, row_pass, column_pass}
use Rattle.reduction_laws.specs.Shape.{within-le}
use Rattle.reduction_laws.specs.Moves.{made-injective, on_row-made, on_column-made, and_then-made}
use Rattle.reduction_laws.proofs.Peaks.{peak-row, peak-column}

-- from s to t at some limit; o: what the same work answers at the limit L
pub record Follows (L : ℕ) (s t : State) (o : Outcome) : Type 0 where
  pub rises : s.peak ≤ t.peak
  pub same : t.peak ≤ L → o ≡ made t
  pub wider : s.peak ≤ L → L < t.peak → o ≡ too_wide

module _ (L : ℕ) where
  follows-checked : (s t : State) → t.peak ≡ max s.peak (largest t) → Follows L s t (checked L t)
  unfolding checked
  follows-checked s t e = record {
    rises = omega arith;
    same = λ h. rw ((within-le L t).1 (omega arith));
    wider = λ h l. go (within L t) refl (omega arith);
  }
    where
      go : (b : Bool) → within L t ≡ b → L < largest t → cond b (made t) too_wide ≡ too_wide
      go true e l = absurd (omega (arith, (within-le L t).0 e))
      go false e l = refl

  follows-stay : (s t : State) → made s ≡ made t → Follows L s t (made s)
  follows-stay s t e =
      subst (λ (u : State). Follows L s u (made s)) (made-injective e)
      (record { rises = le_refl s.peak; same = λ h. refl; wider = λ h l. absurd (omega arith) })

  -- one work after another
  follows-trans : {s u t : State} {first : Outcome} (next : State → Outcome) → Follows L s u first → Follows L u t (next u) → Follows L s t (and_then first next)
  unfolding and_then
  follows-trans {s} {u} {t} {first} next p q = record {
    rises = le_trans p.rises q.rises;
    same = λ h. ap (λ (o : Outcome). and_then o next) (p.same (le_trans q.rises h)) ∙ q.same h;
    wider = λ h l. go (dec_le u.peak L) h l;
  }
    where
      go : Dec (u.peak ≤ L) → s.peak ≤ L → L < t.peak → and_then first next ≡ too_wide
      go (yes b) h l = ap (λ (o : Outcome). and_then o next) (p.same b) ∙ q.wider b l
      go (no b) h l = ap (λ (o : Outcome). and_then o next) (p.wider h (omega arith))

module _ (limit L : ℕ) (z : Sizes) where
  pub row-follows : (op : Operation) (s t : State) → on_row limit z op s ≡ made t → Follows L s t (on_row L z op s)
  unfolding on_row
  row-follows op s t e =
      subst (λ (u : State). Follows L s u (on_row L z op s)) (on_row-made limit z op s t e).same
      (follows-checked L s (row_operation z op s) (peak-row z op s))

  column-follows : (op : Operation) (s t : State) → on_column limit z op s ≡ made t → Follows L s t (on_column L z op s)
  unfolding on_column
  column-follows op s t e =
      subst (λ (u : State). Follows L s u (on_column L z op s)) (on_column-made limit z op s t e).same
      (follows-checked L s (column_operation z op s) (peak-column z op s))

  module _ (k : ℕ) where
    positive-follows : (s t : State) → positive limit z k s ≡ made t → Follows L s t (positive L z k s)
    unfolding positive
    positive-follows s t e = go (non_neg (entry s.matrix k k)) e
      where
        go :
            (b : Bool) → elim b [ true ↦ made s | false ↦ on_row limit z (negate k) s ] ≡ made t
            → Follows L s t (elim b [ true ↦ made s | false ↦ on_row L z (negate k) s ])
        go true e = follows-stay L s t e
        go false e = row-follows (negate k) s t e

    pub bring-follows : (i j : ℕ) (s t : State) → bring limit z k i j s ≡ made t → Follows L s t (bring L z k i j s)
    unfolding bring
    bring-follows i j s t e =
        let b₁ = and_then-made (on_row limit z (swap i k) s) (λ u. and_then (on_column limit z (swap j k) u) (λ v. positive limit z k v)) t e in
        let b₂ = and_then-made (on_column limit z (swap j k) b₁.state) (λ v. positive limit z k v) t b₁.after in
        follows-trans L (λ u. and_then (on_column L z (swap j k) u) (λ v. positive L z k v)) (row-follows (swap i k) s b₁.state b₁.before)
        (follows-trans L (λ v. positive L z k v) (column-follows (swap j k) b₁.state b₂.state b₂.before) (positive-follows b₂.state t b₂.after))

    pub row_pass-follows : (more i : ℕ) (s t : State) → row_pass limit z k more i s ≡ made t → Follows L s t (row_pass L z k more i s)
    unfolding row_pass quotient
    row_pass-follows zero i s t e = follows-stay L s t e
    row_pass-follows (suc more) i s t e =
        let op : Operation = subtract i k (quotient limit z k s i k) in
        let b = and_then-made (on_row limit z op s) (λ u. row_pass limit z k more (suc i) u) t e in
        follows-trans L (λ u. row_pass L z k more (suc i) u) (row-follows op s b.state b.before) (row_pass-follows more (suc i) b.state t b.after)

    pub column_pass-follows : (more j : ℕ) (s t : State) → column_pass limit z k more j s ≡ made t → Follows L s t (column_pass L z k more j s)
    unfolding column_pass quotient
    column_pass-follows zero j s t e = follows-stay L s t e
    column_pass-follows (suc more) j s t e =
        let op : Operation = subtract j k (quotient limit z k s k j) in
        let b = and_then-made (on_column limit z op s) (λ u. column_pass limit z k more (suc j) u) t e in
        follows-trans L (λ u. column_pass L z k more (suc j) u) (column-follows op s b.state b.before) (column_pass-follows more (suc j) b.state t b.after)
