-- The peak, document 02, Note 4. It covers what stands where it was noted (noted-covers). Operations from a state that it covers:
--     covered-moves    it covers what stands after them
--     peak-rises       it never falls
--     peak-covers      it covers every entry that stood on the way
--     peak-held        it is the start's peak, or the largest absolute value of an entry at some point of the way
--     peak-within      it lies within the limit
use mathlib.Core.Path.{◌≡◌, refl}
use mathlib.Core.Logic.{◌↔◌}
use Prim.Native.Nat.{ℕ, ◌≤◌, max}
use native.Mathlib.Nat.{le_refl, le_trans, le-max_right}
use native.Mathlib.Decide.{dec_le}
use native.Mathlib.Omega.{arith}
use lib.IntN.{nat_abs}
use Rattle.matrices.specs.Operation.{Operation}
use Rattle.reduction_steps.specs.Table.{entry}
use Rattle.reduction_steps.specs.State.{Sizes, State, largest, noted, row_operation, column_operation}
use Rattle.reduction_laws.specs.Tables.{table_within-iff}
use Rattle.reduction_laws.specs.Shape.{AllWithin, largest-iff, within-le}
use Rattle.reduction_laws.specs.Moves.{Moves, stay, rows, columns, moves-keep, moves-trans}

-- ---- the largest absolute value of an entry

-- every entry of the matrix and of its companions lies within L
pub record EntriesWithin (L : ℕ) (s : State) : Type 0 where
  pub matrix : (i j : ℕ) → nat_abs (entry s.matrix i j) ≤ L
  pub row_follower : (i j : ℕ) → nat_abs (entry s.row_follower i j) ≤ L
  pub row_inverse : (i j : ℕ) → nat_abs (entry s.row_inverse i j) ≤ L
  pub column_follower : (i j : ℕ) → nat_abs (entry s.column_follower i j) ≤ L
  pub column_inverse : (i j : ℕ) → nat_abs (entry s.column_inverse i j) ≤ L

pub largest-le : (L : ℕ) (s : State) → (largest s ≤ L) ↔ EntriesWithin L s
largest-le L s = (λ h. forth ((largest-iff L s).0 h), λ h. (largest-iff L s).1 (back h))
  where
    forth : AllWithin L s → EntriesWithin L s
    forth h = record {
      matrix = (table_within-iff L s.matrix).0 h.matrix;
      row_follower = (table_within-iff L s.row_follower).0 h.row_follower;
      row_inverse = (table_within-iff L s.row_inverse).0 h.row_inverse;
      column_follower = (table_within-iff L s.column_follower).0 h.column_follower;
      column_inverse = (table_within-iff L s.column_inverse).0 h.column_inverse;
    }

    back : EntriesWithin L s → AllWithin L s
    back h = record {
      matrix = (table_within-iff L s.matrix).1 h.matrix;
      row_follower = (table_within-iff L s.row_follower).1 h.row_follower;
      row_inverse = (table_within-iff L s.row_inverse).1 h.row_inverse;
      column_follower = (table_within-iff L s.column_follower).1 h.column_follower;
      column_inverse = (table_within-iff L s.column_inverse).1 h.column_inverse;
    }

pub noted-covers : (s : State) → largest (noted s) ≤ (noted s).peak
unfolding largest
noted-covers s = le-max_right s.peak (largest s)

-- ---- one operation

module _ (z : Sizes) (op : Operation) (s : State) where
  -- the peak after it
  pub peak-row : (row_operation z op s).peak ≡ max s.peak (largest (row_operation z op s))
  unfolding row_operation largest
  peak-row = refl

  pub peak-column : (column_operation z op s).peak ≡ max s.peak (largest (column_operation z op s))
  unfolding column_operation largest
  peak-column = refl

-- ---- moves

module _ (limit : ℕ) (z : Sizes) (k : ℕ) where
  pub covered-moves : {s t : State} → Moves limit z k s t → largest s ≤ s.peak → largest t ≤ t.peak
  covered-moves p h =
      moves-keep limit z k {P = λ (t : State). largest t ≤ t.peak}
      (record { on_rows = λ op t f w n c. omega (arith, peak-row z op t); on_columns = λ op t f w n c. omega (arith, peak-column z op t) }) p h

  pub peak-rises : {s t : State} → Moves limit z k s t → s.peak ≤ t.peak
  peak-rises {s} p =
      moves-keep limit z k {P = λ (t : State). s.peak ≤ t.peak}
      (record { on_rows = λ op t f w n c. omega (arith, peak-row z op t); on_columns = λ op t f w n c. omega (arith, peak-column z op t) })
      p (le_refl s.peak)

  pub peak-within : {s t : State} → Moves limit z k s t → s.peak ≤ limit → t.peak ≤ limit
  peak-within p h =
      moves-keep limit z k {P = λ (t : State). t.peak ≤ limit}
      (record {
        on_rows = λ op t f w n c. omega (arith, peak-row z op t, (within-le limit (row_operation z op t)).0 n);
        on_columns = λ op t f w n c. omega (arith, peak-column z op t, (within-le limit (column_operation z op t)).0 n);
      }) p h

  -- s leads to u, and u to t
  pub peak-covers : {s u t : State} → Moves limit z k s u → Moves limit z k u t → largest s ≤ s.peak → largest u ≤ t.peak
  peak-covers p q h = le_trans (covered-moves p h) (peak-rises q)

  -- the peak of t is that of s, or an entry of some u on the way has it
  pub data Held (s t : State) : Type 0 where
    before : t.peak ≡ s.peak → Held s t
    between : (u : State) → Moves limit z k s u → Moves limit z k u t → t.peak ≡ largest u → Held s t

  -- one operation leads from t to u
  held_next : {s t u : State} → Moves limit z k s u → Moves limit z k t u → u.peak ≡ max t.peak (largest u) → Held s t → Held s u
  held_next {s} {t} {u} p last is held = go (dec_le (largest u) t.peak) held
    where
      go : Dec (largest u ≤ t.peak) → Held s t → Held s u
      go (yes h) (before e) = before (omega arith)
      go (yes h) (between v a b e) = between v a (moves-trans limit z k b last) (omega arith)
      go (no h) held = between u p stay (omega arith)

  pub peak-held : {s t : State} → Moves limit z k s t → Held s t
  peak-held stay = before refl
  peak-held (rows {t} op f w n q) = held_next (rows op f w n q) (rows op f w n stay) (peak-row z op t) (peak-held q)
  peak-held (columns {t} op f w n q) = held_next (columns op f w n q) (columns op f w n stay) (peak-column z op t) (peak-held q)
