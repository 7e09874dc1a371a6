-- Matrices that are zero outside m rows and n columns: `Bounded`, as every table is (bounded-table), kept by every operation within the range
-- (bounded-rows, bounded-columns). entry-bounded: the table of such a matrix has its entries everywhere.
use Rattle.std.specs.Prelude.{◌≡◌, ℕ, ◌≤◌, ◌<◌, pos}
use Rattle.std.proofs.Common.{sym, ◌∙◌, zero-le, arith}
use Rattle.std.proofs.Math.Decide.{dec_lt}
use Rattle.matrices.specs.Matrix.{Matrix, transpose}
use Rattle.matrices.proofs.Product.{matrix-ext}
use Rattle.matrices.specs.Operation.{Operation, on_rows, on_columns}
use Rattle.matrices.specs.Within.{Within}
use Rattle.reduction_steps.specs.Table.{entry, table}
use Rattle.reduction_laws.specs.Tables.{entry-table, entry-table-below, entry-table-right}
use Rattle.reduction_laws.specs.StageLaws.{From-zero, on_rows-beyond, on_rows-zero}

-- zero outside m rows and n columns
pub record Bounded (m n : ℕ) (A : Matrix) : Type 0 where
  pub below : (i j : ℕ) → m ≤ i → A i j ≡ pos 0
  pub right : (i j : ℕ) → n ≤ j → A i j ≡ pos 0

pub bounded-table : (m n : ℕ) (A : Matrix) → Bounded m n (entry (table m n A))
bounded-table m n A = record { below = entry-table-below m n A; right = entry-table-right m n A }

pub bounded-transpose : {m n : ℕ} {A : Matrix} → Bounded m n A → Bounded n m (transpose A)
bounded-transpose b = record { below = λ i j h. b.right j i h; right = λ i j h. b.below j i h }

-- the table of a bounded matrix has its entries everywhere
pub entry-bounded : (m n : ℕ) (A : Matrix) → Bounded m n A → entry (table m n A) ≡ A
entry-bounded m n A b = matrix-ext (entry (table m n A)) A (λ i j. go i j (dec_lt i m) (dec_lt j n))
  where
    go : (i j : ℕ) → Dec (i < m) → Dec (j < n) → entry (table m n A) i j ≡ A i j
    go i j (yes p) (yes q) = entry-table m n A i j p q
    go i j (no p) q = entry-table-below m n A i j (omega arith) ∙ sym (b.below i j (omega arith))
    go i j (yes p) (no q) = entry-table-right m n A i j (omega arith) ∙ sym (b.right i j (omega arith))

pub bounded-rows : {m n : ℕ} {A : Matrix} (op : Operation) → Within m op → Bounded m n A → Bounded m n (on_rows op A)
bounded-rows {m} {n} {A} op w b = record {
  below = λ i j h. on_rows-beyond op w A i j h ∙ b.below i j h;
  right = λ i j h. go i j h (dec_lt i m);
}
  where
    go : (i j : ℕ) → n ≤ j → Dec (i < m) → on_rows op A i j ≡ pos 0
    go i j h (yes l) = on_rows-zero op (From-zero op) w A j (λ a _ _. b.right a j h) i zero-le l
    go i j h (no l) = on_rows-beyond op w A i j (omega arith) ∙ b.right i j h

pub bounded-columns : {m n : ℕ} {A : Matrix} (op : Operation) → Within n op → Bounded m n A → Bounded m n (on_columns op A)
unfolding on_columns
bounded-columns op w b = bounded-transpose (bounded-rows op w (bounded-transpose b))
