-- Finitely many operations with indices from k on, each within the limit: `Moves`. What every operation keeps, they keep: moves-keep.
-- What an operation or a chain of two must have answered: on_row-made, on_column-made, and_then-made.
use Rattle.std.specs.Prelude.{◌≡◌, refl, Bool, true, false, cond, ℕ}
use Rattle.std.proofs.Common.{sym, ap, subst}
use Rattle.matrices.specs.Operation.{Operation}
use Rattle.matrices.specs.Within.{Within}
use Rattle.reduction_steps.specs.State.{Sizes, State, Outcome, too_wide, made, row_operation, column_operation, within, checked, and_then, on_row, on_column}
use Rattle.reduction_laws.specs.StageLaws.{From}

-- ---- outcomes

abbrev Made : Outcome → Type 0
Made too_wide = ⊥
Made (made s) = Unit {0}

pub too_wide-made : {s : State} → ¬ (too_wide ≡ made s)
too_wide-made e = subst Made (sym e) tt

abbrev state_of : State → Outcome → State
state_of d too_wide = d
state_of d (made s) = s

pub made-injective : {s t : State} → made s ≡ made t → s ≡ t
made-injective {s} e = ap (state_of s) e

-- the operation made t: t is what it should be, within the limit
pub record Checked (limit : ℕ) (s t : State) : Type 0 where
  pub same : s ≡ t
  pub within : within limit s ≡ true

pub checked-made : (limit : ℕ) (s t : State) → checked limit s ≡ made t → Checked limit s t
unfolding checked
checked-made limit s t e = go (within limit s) refl e
  where
    go : (b : Bool) → within limit s ≡ b → cond b (made s) too_wide ≡ made t → Checked limit s t
    go true h f = record { same = made-injective f; within = h }
    go false h f = absurd (too_wide-made f)

pub on_row-made : (limit : ℕ) (z : Sizes) (op : Operation) (s t : State) → on_row limit z op s ≡ made t → Checked limit (row_operation z op s) t
unfolding on_row
on_row-made limit z op s t e = checked-made limit (row_operation z op s) t e

pub on_column-made : (limit : ℕ) (z : Sizes) (op : Operation) (s t : State) → on_column limit z op s ≡ made t → Checked limit (column_operation z op s) t
unfolding on_column
on_column-made limit z op s t e = checked-made limit (column_operation z op s) t e

-- what the first of two made, and the second from it
pub record Between (first : Outcome) (next : State → Outcome) (t : State) : Type 0 where
  pub state : State
  pub before : first ≡ made state
  pub after : next state ≡ made t

pub and_then-made : (first : Outcome) (next : State → Outcome) (t : State) → and_then first next ≡ made t → Between first next t
unfolding and_then
and_then-made too_wide next t e = absurd (too_wide-made e)
and_then-made (made s) next t e = record { state = s; before = refl; after = e }

-- ---- moves

module _ (limit : ℕ) (z : Sizes) (k : ℕ) where
  -- finitely many operations with indices from k on lead from s to the state, each within the limit
  pub data Moves (s : State) : State → Type 0 where
    stay : Moves s s
    rows : {t : State} (op : Operation) → From k op → Within z.rows op → within limit (row_operation z op t) ≡ true → Moves s t → Moves s (row_operation z op t)
    columns : {t : State} (op : Operation) → From k op → Within z.columns op → within limit (column_operation z op t) ≡ true → Moves s t → Moves s (column_operation z op t)

  pub moves-trans : {s t u : State} → Moves s t → Moves t u → Moves s u
  moves-trans p stay = p
  moves-trans p (rows op f w h q) = rows op f w h (moves-trans p q)
  moves-trans p (columns op f w h q) = columns op f w h (moves-trans p q)

  -- every operation keeps P
  pub record Keeps (P : State → Type 0) : Type 0 where
    pub on_rows : (op : Operation) (t : State) → From k op → Within z.rows op → within limit (row_operation z op t) ≡ true → P t → P (row_operation z op t)
    pub on_columns : (op : Operation) (t : State) → From k op → Within z.columns op → within limit (column_operation z op t) ≡ true → P t → P (column_operation z op t)

  pub moves-keep : {P : State → Type 0} {s t : State} → Keeps P → Moves s t → P s → P t
  moves-keep keeps stay p = p
  moves-keep keeps (rows {t} op f w h q) p = keeps.on_rows op t f w h (moves-keep keeps q p)
  moves-keep keeps (columns {t} op f w h q) p = keeps.on_columns op t f w h (moves-keep keeps q p)

  -- one operation that made t
  pub moves-row : (op : Operation) (s t : State) → From k op → Within z.rows op → on_row limit z op s ≡ made t → Moves s t
  moves-row op s t f w e =
      let c = on_row-made limit z op s t e in
      subst (Moves s) c.same (rows op f w c.within stay)

  pub moves-column : (op : Operation) (s t : State) → From k op → Within z.columns op → on_column limit z op s ≡ made t → Moves s t
  moves-column op s t f w e =
      let c = on_column-made limit z op s t e in
      subst (Moves s) c.same (columns op f w c.within stay)
