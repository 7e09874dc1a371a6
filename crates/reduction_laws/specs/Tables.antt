-- Laws of tables: entry-table (on the range), entry-table-below and entry-table-right (0 outside), table-ext, table-entry;
-- table_largest-iff: the largest absolute value is at most L where every entry lies within L; table_within-iff: so with the test of the limit.
use Rattle.std.specs.Prelude.{◌≡◌, refl, ◌↔◌, Bool, true, false, ℕ, zero, suc, ◌≤◌, ◌<◌, ℤ, nat_abs}
use Rattle.std.proofs.Common.{◌∙◌, zero-le, not-le_of_lt, le_trans, arith, leb-true, le-leb}
use Rattle.std.proofs.Math.Path.{ap}
use mathlib.Core.List.{List, [], ◌∷◌}
use Rattle.std.proofs.Math.Nat.{max-le, le-max_left, le-max_right}
use Rattle.std.proofs.Math.Decide.{dec_lt}
use Rattle.std.proofs.Math.IntN.{pos}
use Rattle.std.proofs.Math.ListN.{get_or}
use Rattle.lists.specs.Tabulate.{tabulate}
use Rattle.lists.proofs.TabulateLaws.{get_or-tabulate, get_or-tabulate-beyond, tabulate-ext}
use Rattle.matrices.specs.Matrix.{Matrix, Eq}
use Rattle.reduction_steps.specs.Table.{Table, entry, table, row_largest, table_largest, table_within}

-- ---- entries

module _ (m n : ℕ) (A : Matrix) where
  pub entry-table : (i j : ℕ) → i < m → j < n → entry (table m n A) i j ≡ A i j
  unfolding table
  entry-table i j a b =
      ap (λ (r : List ℤ). get_or r j (pos 0)) (get_or-tabulate m (λ x. tabulate n (λ y. A x y)) i [] a)
      ∙ get_or-tabulate n (λ y. A i y) j (pos 0) b

  pub entry-table-below : (i j : ℕ) → m ≤ i → entry (table m n A) i j ≡ pos 0
  unfolding table
  entry-table-below i j a = ap (λ (r : List ℤ). get_or r j (pos 0)) (get_or-tabulate-beyond m (λ x. tabulate n (λ y. A x y)) i [] a)

  pub entry-table-right : (i j : ℕ) → n ≤ j → entry (table m n A) i j ≡ pos 0
  unfolding table
  entry-table-right i j b = go (dec_lt i m)
    where
      go : Dec (i < m) → entry (table m n A) i j ≡ pos 0
      go (yes a) =
          ap (λ (r : List ℤ). get_or r j (pos 0)) (get_or-tabulate m (λ x. tabulate n (λ y. A x y)) i [] a)
          ∙ get_or-tabulate-beyond n (λ y. A i y) j (pos 0) b
      go (no a) = entry-table-below i j (omega arith)

pub table-ext : {m n : ℕ} {A B : Matrix} → Eq m n A B → table m n A ≡ table m n B
unfolding table
table-ext {m} {n} {A} {B} e =
    tabulate-ext m (λ i. tabulate n (λ j. A i j)) (λ i. tabulate n (λ j. B i j))
    (λ i a. tabulate-ext n (λ j. A i j) (λ j. B i j) (λ j b. e.at i j a b))

-- a table has the entries of its matrix
pub Eq-table : (m n : ℕ) (A : Matrix) → Eq m n (entry (table m n A)) A
Eq-table m n A = record { at = entry-table m n A }

-- a table is the table of its own entries
pub table-entry : (m n : ℕ) (A : Matrix) → table m n (entry (table m n A)) ≡ table m n A
table-entry m n A = table-ext (Eq-table m n A)

-- ---- the largest absolute value of an entry

row_below : (L : ℕ) (r : List ℤ) → row_largest r ≤ L → (j : ℕ) → nat_abs (get_or r j (pos 0)) ≤ L
unfolding row_largest
row_below L [] h j = zero-le
row_below L (x ∷ r) h zero = le_trans (le-max_left (nat_abs x) (row_largest r)) h
row_below L (x ∷ r) h (suc j) = row_below L r (le_trans (le-max_right (nat_abs x) (row_largest r)) h) j

below_row : (L : ℕ) (r : List ℤ) → ((j : ℕ) → nat_abs (get_or r j (pos 0)) ≤ L) → row_largest r ≤ L
unfolding row_largest
below_row L [] h = zero-le
below_row L (x ∷ r) h = max-le (h 0) (below_row L r (λ j. h (suc j)))

table_below : (L : ℕ) (T : Table) → table_largest T ≤ L → (i j : ℕ) → nat_abs (entry T i j) ≤ L
unfolding table_largest
table_below L [] h i j = zero-le
table_below L (r ∷ T) h zero j = row_below L r (le_trans (le-max_left (row_largest r) (table_largest T)) h) j
table_below L (r ∷ T) h (suc i) j = table_below L T (le_trans (le-max_right (row_largest r) (table_largest T)) h) i j

below-table : (L : ℕ) (T : Table) → ((i j : ℕ) → nat_abs (entry T i j) ≤ L) → table_largest T ≤ L
unfolding table_largest
below-table L [] h = zero-le
below-table L (r ∷ T) h = max-le (below_row L r (λ j. h 0 j)) (below-table L T (λ i j. h (suc i) j))

-- it is at most L where every entry lies within L
pub table_largest-iff : (L : ℕ) (T : Table) → (table_largest T ≤ L) ↔ ((i j : ℕ) → nat_abs (entry T i j) ≤ L)
table_largest-iff L T = (table_below L T, below-table L T)

-- the table of a matrix: the entries in the range decide
pub table_largest-table : (L m n : ℕ) (A : Matrix) → (table_largest (table m n A) ≤ L) ↔ ((i j : ℕ) → i < m → j < n → nat_abs (A i j) ≤ L)
table_largest-table L m n A = (forth, back)
  where
    forth : table_largest (table m n A) ≤ L → (i j : ℕ) → i < m → j < n → nat_abs (A i j) ≤ L
    forth h i j a b = rw (entry-table m n A i j a b) at ((table_largest-iff L (table m n A)).0 h i j)

    at_entry : ((i j : ℕ) → i < m → j < n → nat_abs (A i j) ≤ L) → (i j : ℕ) → Dec (i < m) → Dec (j < n) → nat_abs (entry (table m n A) i j) ≤ L
    at_entry h i j (yes a) (yes b) = rw (entry-table m n A i j a b) (h i j a b)
    at_entry h i j (no a) t = rw (entry-table-below m n A i j (omega arith)) zero-le
    at_entry h i j (yes a) (no b) = rw (entry-table-right m n A i j (omega arith)) zero-le

    back : ((i j : ℕ) → i < m → j < n → nat_abs (A i j) ≤ L) → table_largest (table m n A) ≤ L
    back h = (table_largest-iff L (table m n A)).1 (λ i j. at_entry h i j (dec_lt i m) (dec_lt j n))

-- ---- the test of the limit

pub table_within-le : (limit : ℕ) (T : Table) → (table_within limit T ≡ true) ↔ (table_largest T ≤ limit)
unfolding table_within
table_within-le limit T = (leb-true (table_largest T) limit, le-leb (table_largest T) limit)

pub table_within-iff : (limit : ℕ) (T : Table) → (table_within limit T ≡ true) ↔ ((i j : ℕ) → nat_abs (entry T i j) ≤ limit)
table_within-iff limit T =
    (λ e. (table_largest-iff limit T).0 ((table_within-le limit T).0 e), λ h. (table_within-le limit T).1 ((table_largest-iff limit T).1 h))

-- the table of a matrix: the entries in the range decide
pub table_within-table : (limit m n : ℕ) (A : Matrix) → (table_within limit (table m n A) ≡ true) ↔ ((i j : ℕ) → i < m → j < n → nat_abs (A i j) ≤ limit)
table_within-table limit m n A = (
  λ e. (table_largest-table limit m n A).0 ((table_within-le limit (table m n A)).0 e),
  λ h. (table_within-le limit (table m n A)).1 ((table_largest-table limit m n A).1 h),
)

-- one entry beyond the limit makes the test fail
pub table_within-false : (limit : ℕ) (T : Table) (i j : ℕ) → limit < nat_abs (entry T i j) → table_within limit T ≡ false
table_within-false limit T i j h = go (table_within limit T) refl
  where
    go : (t : Bool) → table_within limit T ≡ t → t ≡ false
    go true e = absurd (not-le_of_lt h ((table_within-iff limit T).0 e i j))
    go false e = refl
