-- The transforms behind a state that was made from s₀ by operations: `Tracked`. It holds at the start (tracked-refl), and every operation
-- within the range keeps it (tracked-rows, tracked-columns).
use mathlib.Core.Path.{sym, ap, subst}
use Prim.Native.Nat.{ℕ}
use Rattle.matrices.specs.Matrix.{Matrix, Eq, mul, identity, transpose}
use Rattle.matrices.proofs.Product.{Eq-trans, Eq-transpose, Eq-of, matrix-ext, mul-identity-left, mul-identity-right}
use Rattle.matrices.specs.Operation.{Operation, on_rows, on_columns, inverse}
use Rattle.matrices.specs.Within.{Within, Within-inverse}
use Rattle.matrices.proofs.OperationLaws.{on_rows-ext, on_columns-ext, on_rows-mul, on_columns-mul}
use Rattle.matrices.proofs.Inverse.{InversePair, inverse-pair-identity, inverse-pair-rows, inverse-pair-columns}
use Rattle.reduction_steps.specs.Table.{entry, table}
use Rattle.reduction_steps.specs.State.{Sizes, State, row_operation, column_operation}
use Rattle.reduction_laws.specs.Tables.{Eq-table}
use Rattle.reduction_laws.specs.Shape.{Shaped, rows-anew, columns-anew}

-- The row transform U and the column transform C, with their inverses, carry the matrix of s₀ to that of s, and each companion of s₀
-- to that of s. The lines of `row_inverse` and `column_follower` are columns, so these two stand transposed.
pub record Tracked (z : Sizes) (s₀ s : State) : Type 0 where
  pub U : Matrix
  pub Ui : Matrix
  pub C : Matrix
  pub Ci : Matrix
  pub row_pair : InversePair z.rows U Ui
  pub column_pair : InversePair z.columns C Ci
  pub matrix : Eq z.rows z.columns (entry s.matrix) (mul z.columns (mul z.rows U (entry s₀.matrix)) C)
  pub row_follower : Eq z.rows z.row_follower (entry s.row_follower) (mul z.rows U (entry s₀.row_follower))
  pub row_inverse : Eq z.row_inverse z.rows (transpose (entry s.row_inverse)) (mul z.rows (transpose (entry s₀.row_inverse)) Ui)
  pub column_follower : Eq z.column_follower z.columns (transpose (entry s.column_follower)) (mul z.columns (transpose (entry s₀.column_follower)) C)
  pub column_inverse : Eq z.columns z.column_inverse (entry s.column_inverse) (mul z.columns Ci (entry s₀.column_inverse))

identity-times : (m n : ℕ) (A : Matrix) → Eq m n A (mul m identity A)
identity-times m n A = record { at = λ i j a b. sym (mul-identity-left m A i j a) }

times-identity : (m n : ℕ) (A : Matrix) → Eq m n A (mul n A identity)
times-identity m n A = record { at = λ i j a b. sym (mul-identity-right n A i j b) }

pub tracked-refl : (z : Sizes) (s : State) → Tracked z s s
tracked-refl z s = record {
  U = identity;
  Ui = identity;
  C = identity;
  Ci = identity;
  row_pair = inverse-pair-identity z.rows;
  column_pair = inverse-pair-identity z.columns;
  matrix = Eq-trans (identity-times z.rows z.columns (entry s.matrix)) (times-identity z.rows z.columns (mul z.rows identity (entry s.matrix)));
  row_follower = identity-times z.rows z.row_follower (entry s.row_follower);
  row_inverse = times-identity z.row_inverse z.rows (transpose (entry s.row_inverse));
  column_follower = times-identity z.column_follower z.columns (transpose (entry s.column_follower));
  column_inverse = identity-times z.columns z.column_inverse (entry s.column_inverse);
}

-- ---- one operation

-- the table of what an operation on rows makes of X Y
rows-follow : (op : Operation) (m n l : ℕ) (A X Y : Matrix) → Within m op → Eq m n A (mul l X Y) → Eq m n (entry (table m n (on_rows op A))) (mul l (on_rows op X) Y)
rows-follow op m n l A X Y w e =
    Eq-trans (Eq-table m n (on_rows op A)) (Eq-trans (on_rows-ext op w e) (Eq-of m n (on_rows op (mul l X Y)) (mul l (on_rows op X) Y) (on_rows-mul op l X Y)))

-- the same with columns
columns-follow : (op : Operation) (m n l : ℕ) (A X Y : Matrix) → Within n op → Eq m n A (mul l X Y) → Eq m n (entry (table m n (on_columns op A))) (mul l X (on_columns op Y))
columns-follow op m n l A X Y w e =
    Eq-trans (Eq-table m n (on_columns op A)) (Eq-trans (on_columns-ext op w e) (Eq-of m n (on_columns op (mul l X Y)) (mul l X (on_columns op Y)) (on_columns-mul op l X Y)))

-- the same for lines that are columns
lines-follow : (op : Operation) (m n l : ℕ) (A X Y : Matrix) → Within n op → Eq m n (transpose A) (mul l X Y) → Eq m n (transpose (entry (table n m (on_rows op A)))) (mul l X (on_columns op Y))
unfolding on_columns
lines-follow op m n l A X Y w e =
    Eq-trans (Eq-transpose (Eq-table n m (on_rows op A)))
    (Eq-trans (on_columns-ext op w e) (Eq-of m n (on_columns op (mul l X Y)) (mul l X (on_columns op Y)) (on_columns-mul op l X Y)))

module _ {z : Sizes} {s₀ s : State} (op : Operation) (h : Shaped z s) (t : Tracked z s₀ s) where
  pub tracked-rows : Within z.rows op → Tracked z s₀ (row_operation z op s)
  tracked-rows w = subst (Tracked z s₀) (sym (rows-anew op h)) (record {
    U = on_rows op t.U;
    Ui = on_columns (inverse op) t.Ui;
    C = t.C;
    Ci = t.Ci;
    row_pair = inverse-pair-rows op w t.row_pair;
    column_pair = t.column_pair;
    matrix = Eq-trans
        (rows-follow op z.rows z.columns z.columns (entry s.matrix) (mul z.rows t.U (entry s₀.matrix)) t.C w t.matrix)
        (Eq-of z.rows z.columns
        (mul z.columns (on_rows op (mul z.rows t.U (entry s₀.matrix))) t.C)
        (mul z.columns (mul z.rows (on_rows op t.U) (entry s₀.matrix)) t.C)
        (λ i j. ap (λ (M : Matrix). mul z.columns M t.C i j)
        (matrix-ext (on_rows op (mul z.rows t.U (entry s₀.matrix))) (mul z.rows (on_rows op t.U) (entry s₀.matrix))
        (on_rows-mul op z.rows t.U (entry s₀.matrix)))));
    row_follower = rows-follow op z.rows z.row_follower z.rows (entry s.row_follower) t.U (entry s₀.row_follower) w t.row_follower;
    row_inverse = lines-follow (inverse op) z.row_inverse z.rows z.rows (entry s.row_inverse) (transpose (entry s₀.row_inverse)) t.Ui
        (Within-inverse z.rows op w) t.row_inverse;
    column_follower = t.column_follower;
    column_inverse = t.column_inverse;
  })

  pub tracked-columns : Within z.columns op → Tracked z s₀ (column_operation z op s)
  tracked-columns w = subst (Tracked z s₀) (sym (columns-anew op h)) (record {
    U = t.U;
    Ui = t.Ui;
    C = on_columns op t.C;
    Ci = on_rows (inverse op) t.Ci;
    row_pair = t.row_pair;
    column_pair = inverse-pair-columns op w t.column_pair;
    matrix = columns-follow op z.rows z.columns z.columns (entry s.matrix) (mul z.rows t.U (entry s₀.matrix)) t.C w t.matrix;
    row_follower = t.row_follower;
    row_inverse = t.row_inverse;
    column_follower = lines-follow op z.column_follower z.columns z.columns (entry s.column_follower) (transpose (entry s₀.column_follower)) t.C
        w t.column_follower;
    column_inverse = rows-follow (inverse op) z.columns z.column_inverse z.columns (entry s.column_inverse) t.Ci (entry s₀.column_inverse)
        (Within-inverse z.columns op w) t.column_inverse;
  })
