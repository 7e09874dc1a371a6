-- Matrices that are inverse to each other: inverse-pair-identity, inverse-pair-sym, inverse-pair-mul, and an operation on the rows
-- (columns) of one with its inverse on the columns (rows) of the other: inverse-pair-rows, inverse-pair-columns.
-- A pair that cancels inside a product: mul-cancel-left, mul-cancel-middle.
use mathlib.Core.Path.{◌≡◌, refl, sym, ◌∙◌, ap}
use Prim.Native.Nat.{ℕ, ◌<◌}
use Rattle.matrices.specs.Matrix.{Matrix, Eq, mul, identity}
use Rattle.matrices.proofs.Product.{Eq-trans, matrix-ext, mul-ext-at, mul_assoc, mul-identity-left, mul-identity-right}
use Rattle.matrices.specs.Operation.{Operation, on_rows, on_columns, inverse}
use Rattle.matrices.specs.Within.{Within, Within-inverse}
use Rattle.matrices.proofs.OperationLaws.{on_rows-ext, on_rows-mul, on_columns-mul, on_columns-ext, inverse-inverse, mul-cancel-rows, undo, on_rows-undo}

-- U and Ui are square of size n, and inverse to each other
pub record InversePair (n : ℕ) (U Ui : Matrix) : Type 0 where
  pub left : Eq n n (mul n Ui U) identity
  pub right : Eq n n (mul n U Ui) identity

-- ---- cancelling in a product

module _ (n : ℕ) (X Y : Matrix) (e : Eq n n (mul n X Y) identity) where
  pub mul-cancel-left : (A : Matrix) (i j : ℕ) → i < n → mul n X (mul n Y A) i j ≡ A i j
  mul-cancel-left A i j l =
      sym (mul_assoc n n X Y A i j)
      ∙ mul-ext-at n (mul n X Y) identity A A i j (λ k h. e.at i k l h) (λ k h. refl)
      ∙ mul-identity-left n A i j l

  pub mul-cancel-middle : (A B : Matrix) (i j : ℕ) → mul n (mul n A X) (mul n Y B) i j ≡ mul n A B i j
  mul-cancel-middle A B i j =
      mul_assoc n n A X (mul n Y B) i j
      ∙ mul-ext-at n A A (mul n X (mul n Y B)) B i j (λ k h. refl) (λ k h. mul-cancel-left B k j h)

-- ---- inverse pairs

pub inverse-pair-identity : (n : ℕ) → InversePair n identity identity
inverse-pair-identity n = record { left = square; right = square }
  where
    square : Eq n n (mul n identity identity) identity
    square = record { at = λ i j a b. mul-identity-left n identity i j a }

pub inverse-pair-sym : {n : ℕ} {U Ui : Matrix} → InversePair n U Ui → InversePair n Ui U
inverse-pair-sym p = record { left = p.right; right = p.left }

pub inverse-pair-mul : {n : ℕ} {U Ui W Wi : Matrix} → InversePair n U Ui → InversePair n W Wi → InversePair n (mul n U W) (mul n Wi Ui)
inverse-pair-mul {n} {U} {Ui} {W} {Wi} p r = record {
  left = record { at = λ i j a b. mul-cancel-middle n Ui U p.left Wi W i j ∙ r.left.at i j a b };
  right = record { at = λ i j a b. mul-cancel-middle n W Wi r.right U Ui i j ∙ p.right.at i j a b };
}

-- ---- operations

-- an operation on the rows and its inverse on the columns of the identity
on_rows-on_columns-identity : (op : Operation) (n : ℕ) → Within n op → Eq n n (on_rows op (on_columns (inverse op) identity)) identity
on_rows-on_columns-identity op n w = Eq-trans (on_rows-ext op w columns-as-rows) undone
  where
    E : Matrix
    E = on_rows (undo op) identity

    columns-as-rows : Eq n n (on_columns (inverse op) identity) E
    columns-as-rows = record {
      at = λ i j a b.
          sym (mul-identity-right n (on_columns (inverse op) identity) i j b)
          ∙ ap (λ (M : Matrix). mul n (on_columns (inverse op) identity) M i j) (sym (matrix-ext (on_rows op E) identity (on_rows-undo op n w identity)))
          ∙ mul-cancel-rows op n w identity E i j
          ∙ mul-identity-left n E i j a;
    }

    undone : Eq n n (on_rows op E) identity
    undone = record { at = λ i j a b. on_rows-undo op n w identity i j }

pub inverse-pair-rows : {n : ℕ} {U Ui : Matrix} (op : Operation) → Within n op → InversePair n U Ui → InversePair n (on_rows op U) (on_columns (inverse op) Ui)
inverse-pair-rows {n} {U} {Ui} op w p = record {
  left = record { at = λ i j a b. mul-cancel-rows op n w Ui U i j ∙ p.left.at i j a b };
  right = Eq-trans outside (Eq-trans (on_rows-ext op w (on_columns-ext (inverse op) (Within-inverse n op w) p.right)) (on_rows-on_columns-identity op n w));
}
  where
    outside : Eq n n (mul n (on_rows op U) (on_columns (inverse op) Ui)) (on_rows op (on_columns (inverse op) (mul n U Ui)))
    outside = record {
      at = λ i j a b.
          sym (on_rows-mul op n U (on_columns (inverse op) Ui) i j)
          ∙ ap (λ (M : Matrix). on_rows op M i j) (sym (matrix-ext (on_columns (inverse op) (mul n U Ui)) (mul n U (on_columns (inverse op) Ui)) (on_columns-mul (inverse op) n U Ui)));
    }

pub inverse-pair-columns : {n : ℕ} {U Ui : Matrix} (op : Operation) → Within n op → InversePair n U Ui → InversePair n (on_columns op U) (on_rows (inverse op) Ui)
inverse-pair-columns {n} {U} {Ui} op w p = inverse-pair-sym
    (rw (inverse-inverse op) at (inverse-pair-rows (inverse op) (Within-inverse n op w) (inverse-pair-sym p)))
