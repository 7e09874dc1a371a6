-- The measures of the cycle of a stage: 4 times the rounds left, plus the calls that the round under way may still make before it ends or returns to
-- the choice. For the choice that is 0, for the row pass 3, for the column pass `column_calls`, which step e lowers: calls-fall. The pivot's fall, by
-- which a stage ends: chosen_at, smaller-chosen.
use mathlib.Core.Path.{◌≡◌, refl, sym, subst}
use Prim.Native.Nat.{ℕ, suc, ◌+◌, ◌-◌, ◌*◌, ◌≤◌, ◌<◌}
use native.Mathlib.Nat as Nat
use native.Mathlib.Omega.{arith}
use lib.IntN.{nat_abs}
use Rattle.integers.specs.Division.{◌∣ℤ◌}
use Rattle.matrices.specs.Matrix.{Matrix}
use Rattle.reduction_steps.specs.Pivot.{Choice, none, place, Rule, IsRule}
use Rattle.reduction_steps.specs.Step.{Row, no_row, row, first_indivisible}
use Rattle.reduction_laws.specs.Scans.{Indivisible, first_indivisible-none, first_indivisible-row}
use Rattle.reduction_laws.specs.Letters.{Smaller}
use Rattle.reducer.specs.StageAnswers.{size_at}

-- ---- the calls of a round

-- 2 where the search found no entry that the pivot does not divide: step e may add a row
calls_after : Row → ℕ
calls_after no_row = 2
calls_after (row i) = 1

module _ (n k : ℕ) (A : Matrix) where
  -- whether the pivot divides row k right of it
  row_search : Row
  row_search = first_indivisible A (A k k) (suc k) (n - suc k) 1 k

  -- the calls of the column pass at A, its own among them
  pub column_calls : ℕ
  column_calls = calls_after row_search

abbrev pub choice_measure : ℕ → ℕ
choice_measure rounds = 4 * rounds

abbrev pub row_measure : ℕ → ℕ
row_measure rounds = 4 * rounds + 3

abbrev pub column_measure : ℕ → ℕ → ℕ → Matrix → ℕ
column_measure rounds n k A = 4 * rounds + column_calls n k A

module _ (n k : ℕ) (A : Matrix) where
  pub calls-range : (1 ≤ column_calls n k A) × (column_calls n k A ≤ 2)
  unfolding column_calls calls_after
  calls-range = go (row_search n k A)
    where
      go : (r : Row) → (1 ≤ calls_after r) × (calls_after r ≤ 2)
      go no_row = (omega arith, Nat.le_refl 2)
      go (row i) = (Nat.le_refl 1, omega arith)

  -- an entry of row k is not divisible
  calls-remain : k < n → Indivisible A (A k k) k (suc k) n → column_calls n k A ≡ 1
  unfolding column_calls calls_after row_search
  calls-remain l x = go (row_search n k A) refl
    where
      go : (r : Row) → row_search n k A ≡ r → calls_after r ≡ 1
      go no_row e =
          absurd (x.indivisible (first_indivisible-none A (A k k) (suc k) (n - suc k) 1 k e k x.place (omega arith) (omega arith) x.from (omega (arith, x.below))))
      go (row i) e = refl

  -- every entry of row k is divisible
  calls-divided : k < n → ((j : ℕ) → k < j → j < n → A k k ∣ℤ A k j) → column_calls n k A ≡ 2
  unfolding column_calls calls_after row_search
  calls-divided l h = go (row_search n k A) refl
    where
      go : (r : Row) → row_search n k A ≡ r → calls_after r ≡ 2
      go no_row e = refl
      go (row i) e =
          let f = first_indivisible-row A (A k k) (suc k) (n - suc k) 1 k i e in
          let i-is : i ≡ k = omega (arith, f.from, f.below) in
          absurd (f.here.indivisible (subst (λ (a : ℕ). A k k ∣ℤ A a f.here.place) (sym i-is) (h f.here.place f.here.from (omega (arith, f.here.below)))))

-- step e: row k was divisible, and after the addition it is not
pub calls-fall :
    (n k : ℕ) (A B : Matrix) → k < n → ((j : ℕ) → k < j → j < n → A k k ∣ℤ A k j) → Indivisible B (B k k) k (suc k) n
    → column_calls n k B < column_calls n k A
calls-fall n k A B l h x = omega (arith, calls-remain n k B l x, calls-divided n k A l h)

-- ---- the fall of the pivot

module _ {rule : Rule} (is : IsRule rule) (m n k : ℕ) (A : Matrix) where
  pub chosen_at : (i j : ℕ) → rule m n k A ≡ place i j → size_at A (rule m n k A) ≡ nat_abs (A i j)
  unfolding size_at
  chosen_at i j e = rw e

  -- some nonzero entry is smaller than p
  pub smaller-chosen : (p : ℕ) → Smaller m n k p A → size_at A (rule m n k A) + 1 ≤ p
  unfolding size_at
  smaller-chosen p x = go (rule m n k A) refl
    where
      go : (c : Choice) → rule m n k A ≡ c → size_at A c + 1 ≤ p
      go none e = omega (arith, x.less)
      go (place i j) e =
          omega (arith, x.less, (is.chosen m n k A i j e).least x.row x.column x.row_from x.row_below x.column-from x.column-below x.nonzero)
