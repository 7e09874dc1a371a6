-- The form of a matrix in its first k rows and columns: `Leading`. It holds of every matrix at k = 0 (leading-zero), and operations with
-- indices from k on keep it (leading-rows, leading-columns). leading-suc: with a pivot that divides what is left, k rises by one.
use mathlib.Core.Path.{◌≡◌, sym, ◌∙◌, ap, subst, subst₂}
use mathlib.Core.Logic.{◌≢◌}
use Prim.Native.Nat.{ℕ, suc, ◌≤◌, ◌<◌}
use native.Mathlib.Omega.{arith}
use native.Mathlib.Decide.{ℕ_discrete}
use lib.IntN.{ℤ, pos}
use lib.Signed.{◌<ℤ◌}
use Rattle.integers.specs.Division.{◌∣ℤ◌}
use Rattle.matrices.specs.Matrix.{Matrix, transpose}
use Rattle.matrices.specs.Operation.{Operation, on_rows, on_columns}
use Rattle.matrices.specs.Within.{Within}
use Rattle.reduction_laws.specs.StageLaws.{From, RowsDone, ColumnsDone, Divisible, on_rows-above, rows_done-transpose, columns_done-transpose, divisible-transpose, rows_done-rows, columns_done-rows, divisible-rows}

-- Of m rows and n columns, the first k of each are finished: off the diagonal they are zero, on it they are positive, and each
-- diagonal entry divides the next and everything from row and column k on.
pub record Leading (m n k : ℕ) (A : Matrix) : Type 0 where
  pub rows_done : RowsDone n k A
  pub columns_done : ColumnsDone m k A
  pub diagonal : (i j : ℕ) → i < k → j < k → i ≢ j → A i j ≡ pos 0
  pub positive : (i : ℕ) → i < k → pos 0 <ℤ A i i
  pub chain : (i : ℕ) → suc i < k → A i i ∣ℤ A (suc i) (suc i)
  pub divides : (i : ℕ) → i < k → Divisible m n k (A i i) A

pub leading-zero : (m n : ℕ) (A : Matrix) → Leading m n 0 A
leading-zero m n A = record {
  rows_done = record { zero = λ i j h. absurd (omega arith) };
  columns_done = record { zero = λ i j h. absurd (omega arith) };
  diagonal = λ i j h. absurd (omega arith);
  positive = λ i h. absurd (omega arith);
  chain = λ i h. absurd (omega arith);
  divides = λ i h. absurd (omega arith);
}

pub leading-transpose : {m n k : ℕ} {A : Matrix} → Leading m n k A → Leading n m k (transpose A)
leading-transpose h = record {
  rows_done = columns_done-transpose h.columns_done;
  columns_done = rows_done-transpose h.rows_done;
  diagonal = λ i j a b d. h.diagonal j i b a (λ e. d (sym e));
  positive = h.positive;
  chain = h.chain;
  divides = λ i a. divisible-transpose (h.divides i a);
}

pub leading-rows : {m n k : ℕ} {A : Matrix} (op : Operation) → From k op → Within m op → Leading m n k A → Leading m n k (on_rows op A)
leading-rows {m} {n} {k} {A} op f w h = record {
  rows_done = rows_done-rows op f h.rows_done;
  columns_done = columns_done-rows op f w h.columns_done;
  diagonal = λ i j a b d. stays i j a ∙ h.diagonal i j a b d;
  positive = λ i a. subst (λ (x : ℤ). pos 0 <ℤ x) (sym (stays i i a)) (h.positive i a);
  chain = λ i a. subst₂ (λ (x y : ℤ). x ∣ℤ y) (sym (stays i i (omega arith))) (sym (stays (suc i) (suc i) a)) (h.chain i a);
  divides = λ i a. subst (λ (x : ℤ). Divisible m n k x (on_rows op A)) (sym (stays i i a)) (divisible-rows op f w (h.divides i a));
}
  where
    stays : (i j : ℕ) → i < k → on_rows op A i j ≡ A i j
    stays i j a = on_rows-above op f A i j a

pub leading-columns : {m n k : ℕ} {A : Matrix} (op : Operation) → From k op → Within n op → Leading m n k A → Leading m n k (on_columns op A)
unfolding on_columns
leading-columns op f w h = leading-transpose (leading-rows op f w (leading-transpose h))

-- the pivot at (k, k) is positive, alone in its row and column, and divides what is left
pub leading-suc :
    {m n k : ℕ} {A : Matrix} → k < m → k < n → Leading m n k A → pos 0 <ℤ A k k
    → ((i : ℕ) → k < i → i < m → A i k ≡ pos 0) → ((j : ℕ) → k < j → j < n → A k j ≡ pos 0) → Divisible m n (suc k) (A k k) A
    → Leading m n (suc k) A
leading-suc {m} {n} {k} {A} km kn h p below right d = record {
  rows_done = record { zero = λ i j a b l. rows i j (omega arith) b l (ℕ_discrete i k) };
  columns_done = record { zero = λ i j a b l. columns i j (omega arith) b l (ℕ_discrete j k) };
  diagonal = λ i j a b e. off i j (omega arith) (omega arith) e (ℕ_discrete i k) (ℕ_discrete j k);
  positive = λ i a. positive i (omega arith) (ℕ_discrete i k);
  chain = λ i a. chain i (omega arith) (ℕ_discrete (suc i) k);
  divides = λ i a. divides i (omega arith) (ℕ_discrete i k);
}
  where
    rows : (i j : ℕ) → i ≤ k → k < j → j < n → Dec (i ≡ k) → A i j ≡ pos 0
    rows i j a b l (yes e) = ap (λ (x : ℕ). A x j) e ∙ right j b l
    rows i j a b l (no e) = h.rows_done.zero i j (omega arith) (omega arith) l

    columns : (i j : ℕ) → j ≤ k → k < i → i < m → Dec (j ≡ k) → A i j ≡ pos 0
    columns i j a b l (yes e) = ap (λ (x : ℕ). A i x) e ∙ below i b l
    columns i j a b l (no e) = h.columns_done.zero i j (omega arith) (omega arith) l

    off : (i j : ℕ) → i ≤ k → j ≤ k → i ≢ j → Dec (i ≡ k) → Dec (j ≡ k) → A i j ≡ pos 0
    off i j a b e (yes x) (yes y) = absurd (e (x ∙ sym y))
    off i j a b e (yes x) (no y) = h.columns_done.zero i j (omega arith) (omega arith) (omega arith)
    off i j a b e (no x) (yes y) = h.rows_done.zero i j (omega arith) (omega arith) (omega arith)
    off i j a b e (no x) (no y) = h.diagonal i j (omega arith) (omega arith) e

    positive : (i : ℕ) → i ≤ k → Dec (i ≡ k) → pos 0 <ℤ A i i
    positive i a (yes e) = subst (λ (x : ℕ). pos 0 <ℤ A x x) (sym e) p
    positive i a (no e) = h.positive i (omega arith)

    chain : (i : ℕ) → suc i ≤ k → Dec (suc i ≡ k) → A i i ∣ℤ A (suc i) (suc i)
    chain i a (yes e) = (h.divides i (omega arith)).divides (suc i) (suc i) (omega arith) (omega arith) (omega arith) (omega arith)
    chain i a (no e) = h.chain i (omega arith)

    divides : (i : ℕ) → i ≤ k → Dec (i ≡ k) → Divisible m n (suc k) (A i i) A
    divides i a (yes e) = subst (λ (x : ℕ). Divisible m n (suc k) (A x x) A) (sym e) d
    divides i a (no e) = record { divides = λ x y b l c r. (h.divides i (omega arith)).divides x y (omega arith) l (omega arith) r }
