-- What operations with indices from k on (`From k op`) keep of a matrix. They leave the rows above k alone (on_rows-above).
-- RowsDone, ColumnsDone: the rows (columns) before k are zero from column (row) k on. Divisible: a number divides every entry from
-- row and column k on. Each is kept by an operation on rows and by one on columns: rows_done-rows, rows_done-columns, columns_done-rows,
-- columns_done-columns, divisible-rows, divisible-columns. on_rows-done, on_columns-done: finished columns (rows) need not be touched.
use Rattle.std.specs.Prelude.{◌≡◌, ℕ, ◌≤◌, ◌<◌, ℤ, pos}
use Rattle.std.proofs.Common.{sym, ◌∙◌, subst, arith}
use Rattle.std.proofs.Math.Decide.{ℕ_discrete, dec_lt}
use Rattle.integers.proofs.Divides.{dvd-sub, dvd-mul, dvd-neg, dvd_refl, zero-dvd}
use Rattle.integers.specs.Division.{◌∣ℤ◌}
use Rattle.matrices.specs.Matrix.{Matrix, transpose}
use Rattle.matrices.specs.Operation.{Operation, subtract, swap, negate, on_rows, on_columns}
use Rattle.matrices.specs.Within.{Within}
use Rattle.matrices.proofs.OperationLaws.{on_rows-subtract-at, on_rows-subtract-other, on_rows-swap-first, on_rows-swap-second, on_rows-swap-other, on_rows-negate-at, on_rows-negate-other}

-- ---- operations with indices from k on

pub record PairFrom (k i j : ℕ) : Type 0 where
  pub first : k ≤ i
  pub second : k ≤ j

-- where the facts on the indices are at hand, `omega arith` proves `From k op`
abbrev pub From : ℕ → Operation → Type 0
From k (subtract i j q) = PairFrom k i j
From k (swap i j) = PairFrom k i j
From k (negate i) = k ≤ i

pub From-zero : (op : Operation) → From 0 op
From-zero (subtract i j q) = omega arith
From-zero (swap i j) = omega arith
From-zero (negate i) = omega arith

-- a row above k stays
pub on_rows-above : {k : ℕ} (op : Operation) → From k op → (A : Matrix) (a b : ℕ) → a < k → on_rows op A a b ≡ A a b
on_rows-above (subtract i j q) f A a b l = on_rows-subtract-other i j q A a b (omega arith)
on_rows-above (swap i j) f A a b l = on_rows-swap-other i j A a b (omega arith) (omega arith)
on_rows-above (negate i) f A a b l = on_rows-negate-other i A a b (omega arith)

-- a row past the range stays
pub on_rows-beyond : {m : ℕ} (op : Operation) → Within m op → (A : Matrix) (a b : ℕ) → m ≤ a → on_rows op A a b ≡ A a b
on_rows-beyond (subtract i j q) w A a b l = on_rows-subtract-other i j q A a b (omega arith)
on_rows-beyond (swap i j) w A a b l = on_rows-swap-other i j A a b (omega arith) (omega arith)
on_rows-beyond (negate i) w A a b l = on_rows-negate-other i A a b (omega arith)

-- what divides a column from row k on divides it afterwards
pub on_rows-dvd : {k m : ℕ} (op : Operation) → From k op → Within m op → (d : ℤ) (A : Matrix) (b : ℕ) → ((a : ℕ) → k ≤ a → a < m → d ∣ℤ A a b) → (a : ℕ) → k ≤ a → a < m → d ∣ℤ on_rows op A a b
on_rows-dvd {k} {m} (subtract i j q) f w d A b h a p l = go (ℕ_discrete a i)
  where
    go : Dec (a ≡ i) → d ∣ℤ on_rows (subtract i j q) A a b
    go (yes e) = rw (e, on_rows-subtract-at i j q A b) (dvd-sub (h i f.first w.changed) (dvd-mul q (h j f.second w.taken)))
    go (no e) = rw (on_rows-subtract-other i j q A a b e) (h a p l)
on_rows-dvd {k} {m} (swap i j) f w d A b h a p l = go (ℕ_discrete a i) (ℕ_discrete a j)
  where
    go : Dec (a ≡ i) → Dec (a ≡ j) → d ∣ℤ on_rows (swap i j) A a b
    go (yes e) t = rw (e, on_rows-swap-first i j A b) (h j f.second w.second)
    go (no e) (yes g) = rw (g, on_rows-swap-second i j A b) (h i f.first w.first)
    go (no e) (no g) = rw (on_rows-swap-other i j A a b e g) (h a p l)
on_rows-dvd {k} {m} (negate i) f w d A b h a p l = go (ℕ_discrete a i)
  where
    go : Dec (a ≡ i) → d ∣ℤ on_rows (negate i) A a b
    go (yes e) = rw (e, on_rows-negate-at i A b) (dvd-neg (h i f w))
    go (no e) = rw (on_rows-negate-other i A a b e) (h a p l)

-- a column that is zero from row k on stays so
pub on_rows-zero : {k m : ℕ} (op : Operation) → From k op → Within m op → (A : Matrix) (b : ℕ) → ((a : ℕ) → k ≤ a → a < m → A a b ≡ pos 0) → (a : ℕ) → k ≤ a → a < m → on_rows op A a b ≡ pos 0
on_rows-zero op f w A b h a p l =
    zero-dvd (on_rows-dvd op f w (pos 0) A b (λ i q r. subst (λ (x : ℤ). pos 0 ∣ℤ x) (sym (h i q r)) (dvd_refl (pos 0))) a p l)

-- ---- what a stage keeps

-- the rows above k are zero from column k on, of n columns
pub record RowsDone (n k : ℕ) (A : Matrix) : Type 0 where
  pub zero : (i j : ℕ) → i < k → k ≤ j → j < n → A i j ≡ pos 0

-- the columns before k are zero from row k on, of m rows
pub record ColumnsDone (m k : ℕ) (A : Matrix) : Type 0 where
  pub zero : (i j : ℕ) → j < k → k ≤ i → i < m → A i j ≡ pos 0

-- d divides every entry from row and column k on, of m rows and n columns
pub record Divisible (m n k : ℕ) (d : ℤ) (A : Matrix) : Type 0 where
  pub divides : (i j : ℕ) → k ≤ i → i < m → k ≤ j → j < n → d ∣ℤ A i j

pub rows_done-transpose : {n k : ℕ} {A : Matrix} → RowsDone n k A → ColumnsDone n k (transpose A)
rows_done-transpose h = record { zero = λ i j. h.zero j i }

pub columns_done-transpose : {m k : ℕ} {A : Matrix} → ColumnsDone m k A → RowsDone m k (transpose A)
columns_done-transpose h = record { zero = λ i j. h.zero j i }

pub divisible-transpose : {m n k : ℕ} {d : ℤ} {A : Matrix} → Divisible m n k d A → Divisible n m k d (transpose A)
divisible-transpose h = record { divides = λ i j p q r t. h.divides j i r t p q }

module _ {k : ℕ} (op : Operation) (f : From k op) {A : Matrix} where
  pub rows_done-rows : {n : ℕ} → RowsDone n k A → RowsDone n k (on_rows op A)
  rows_done-rows h = record { zero = λ i j a p l. on_rows-above op f A i j a ∙ h.zero i j a p l }

  pub columns_done-rows : {m : ℕ} → Within m op → ColumnsDone m k A → ColumnsDone m k (on_rows op A)
  columns_done-rows w h = record { zero = λ i j b p l. on_rows-zero op f w A j (λ a q r. h.zero a j b q r) i p l }

  pub divisible-rows : {m n : ℕ} {d : ℤ} → Within m op → Divisible m n k d A → Divisible m n k d (on_rows op A)
  divisible-rows {d} w h = record { divides = λ i j p l q r. on_rows-dvd op f w d A j (λ a x y. h.divides a j x y q r) i p l }

module _ {k : ℕ} (op : Operation) (f : From k op) {A : Matrix} where
  pub columns_done-columns : {m : ℕ} → ColumnsDone m k A → ColumnsDone m k (on_columns op A)
  unfolding on_columns
  columns_done-columns h = rows_done-transpose (rows_done-rows op f (columns_done-transpose h))

  pub rows_done-columns : {n : ℕ} → Within n op → RowsDone n k A → RowsDone n k (on_columns op A)
  unfolding on_columns
  rows_done-columns w h = columns_done-transpose (columns_done-rows op f w (rows_done-transpose h))

  pub divisible-columns : {m n : ℕ} {d : ℤ} → Within n op → Divisible m n k d A → Divisible m n k d (on_columns op A)
  unfolding on_columns
  divisible-columns w h = divisible-transpose (divisible-rows op f w (divisible-transpose h))

-- ---- finished columns and rows need not be touched

module _ {k : ℕ} (op : Operation) (f : From k op) (A : Matrix) where
  -- an operation on rows leaves the finished columns alone
  pub on_rows-done : {m : ℕ} → Within m op → ColumnsDone m k A → (i j : ℕ) → i < m → j < k → on_rows op A i j ≡ A i j
  on_rows-done {m} w h i j a b = go (dec_lt i k)
    where
      go : Dec (i < k) → on_rows op A i j ≡ A i j
      go (yes l) = on_rows-above op f A i j l
      go (no l) = (columns_done-rows op f w h).zero i j b (omega arith) a ∙ sym (h.zero i j b (omega arith) a)

module _ {k : ℕ} (op : Operation) (f : From k op) (A : Matrix) where
  -- an operation on columns leaves the finished rows alone
  pub on_columns-done : {n : ℕ} → Within n op → RowsDone n k A → (i j : ℕ) → i < k → j < n → on_columns op A i j ≡ A i j
  unfolding on_columns
  on_columns-done w h i j a b = on_rows-done op f (transpose A) w (rows_done-transpose h) j i b a
