-- Laws of equality on a range: Eq-refl, Eq-sym, Eq-trans, matrix-ext. Laws of the product: mul-ext, mul_assoc, mul-identity-left,
-- mul-identity-right, mul-null-left, mul-null-right, mul-add, add-mul, mul-sub, sub-mul, mul-neg, neg-mul, mul-scale-left,
-- mul-scale-right, mul-transpose.
use mathlib.Core.Path.{◌≡◌, refl, sym, ◌∙◌, fun_ext}
use mathlib.Core.Logic.{◌≢◌}
use Prim.Native.Nat.{ℕ, ◌<◌}
use borrow.Author.Tests.{eq-eqb, ne_eqb}
use lib.IntN.{ℤ, pos, neg_ℤ, ◌+ℤ◌, ◌-ℤ◌, ◌*ℤ◌}
use Rattle.integers.proofs.Ring as Ring
use Rattle.matrices.specs.Sum.{sum}
use Rattle.matrices.proofs.SumLaws.{sum-ext, sum-zero, sum-add, sum-neg, sum-sub, sum-mul-left, sum-mul-right, sum-swap, sum-single}
use Rattle.matrices.specs.Matrix.{Matrix, Eq, mul, identity, transpose, null}

-- ---- equality on a range

pub Eq-refl : (m n : ℕ) (A : Matrix) → Eq m n A A
Eq-refl m n A = record { at = λ i j a b. refl }

pub Eq-sym : {m n : ℕ} {A B : Matrix} → Eq m n A B → Eq m n B A
Eq-sym e = record { at = λ i j a b. sym (e.at i j a b) }

pub Eq-trans : {m n : ℕ} {A B C : Matrix} → Eq m n A B → Eq m n B C → Eq m n A C
Eq-trans e f = record { at = λ i j a b. e.at i j a b ∙ f.at i j a b }

-- equal at every entry
pub Eq-of : (m n : ℕ) (A B : Matrix) → ((i j : ℕ) → A i j ≡ B i j) → Eq m n A B
Eq-of m n A B h = record { at = λ i j a b. h i j }

pub Eq-transpose : {m n : ℕ} {A B : Matrix} → Eq m n A B → Eq n m (transpose A) (transpose B)
Eq-transpose e = record { at = λ i j a b. e.at j i b a }

-- matrices that are equal at every entry are equal
pub matrix-ext : (A B : Matrix) → ((i j : ℕ) → A i j ≡ B i j) → A ≡ B
matrix-ext A B h = fun_ext (λ i. fun_ext (λ j. h i j))

-- ---- the identity matrix

pub identity-at : (i : ℕ) → identity i i ≡ pos 1
unfolding identity
identity-at i = rw (eq-eqb i i refl)

pub identity-other : (i j : ℕ) → i ≢ j → identity i j ≡ pos 0
unfolding identity
identity-other i j d = rw (ne_eqb i j d)

-- ---- the product

-- row i of A and column j of B decide the entry i, j of A times B
pub mul-ext-at : (n : ℕ) (A A' B B' : Matrix) (i j : ℕ) → ((k : ℕ) → k < n → A i k ≡ A' i k) → ((k : ℕ) → k < n → B k j ≡ B' k j) → mul n A B i j ≡ mul n A' B' i j
unfolding mul
mul-ext-at n A A' B B' i j f g =
    sum-ext n (λ k. A i k *ℤ B k j) (λ k. A' i k *ℤ B' k j) (λ k l. cc (f k l, g k l))

pub mul-ext : {m n p : ℕ} {A A' B B' : Matrix} → Eq m n A A' → Eq n p B B' → Eq m p (mul n A B) (mul n A' B')
mul-ext {n} {A} {A'} {B} {B'} e f = record {
  at = λ i j a b. mul-ext-at n A A' B B' i j (λ k l. e.at i k a l) (λ k l. f.at k j l b);
}

pub mul_assoc : (m n : ℕ) (A B C : Matrix) (i j : ℕ) → mul n (mul m A B) C i j ≡ mul m A (mul n B C) i j
unfolding mul
mul_assoc m n A B C i j =
    sum-ext n (λ l. sum m (λ k. A i k *ℤ B k l) *ℤ C l j) (λ l. sum m (λ k. A i k *ℤ (B k l *ℤ C l j))) inner
    ∙ sum-swap n m (λ l k. A i k *ℤ (B k l *ℤ C l j))
    ∙ sum-ext m (λ k. sum n (λ l. A i k *ℤ (B k l *ℤ C l j))) (λ k. A i k *ℤ sum n (λ l. B k l *ℤ C l j)) (λ k h. sum-mul-left n (A i k) (λ l. B k l *ℤ C l j))
  where
    inner : (l : ℕ) → l < n → sum m (λ k. A i k *ℤ B k l) *ℤ C l j ≡ sum m (λ k. A i k *ℤ (B k l *ℤ C l j))
    inner l h =
        sym (sum-mul-right m (λ k. A i k *ℤ B k l) (C l j))
        ∙ sum-ext m (λ k. A i k *ℤ B k l *ℤ C l j) (λ k. A i k *ℤ (B k l *ℤ C l j)) (λ k _. Ring.mul_assoc (A i k) (B k l) (C l j))

pub mul-identity-left : (n : ℕ) (A : Matrix) (i j : ℕ) → i < n → mul n identity A i j ≡ A i j
unfolding mul
mul-identity-left n A i j l =
    sum-single n i (λ k. identity i k *ℤ A k j) l (λ k _ d. cc (identity-other i k (λ e. d (sym e)), Ring.zero-mul (A k j)))
    ∙ cc (identity-at i, Ring.one-mul (A i j))

pub mul-identity-right : (n : ℕ) (A : Matrix) (i j : ℕ) → j < n → mul n A identity i j ≡ A i j
unfolding mul
mul-identity-right n A i j l =
    sum-single n j (λ k. A i k *ℤ identity k j) l (λ k _ d. cc (identity-other k j d, Ring.mul-zero (A i k)))
    ∙ cc (identity-at j, Ring.mul-one (A i j))

pub mul-null-left : (n : ℕ) (A : Matrix) (i j : ℕ) → mul n null A i j ≡ pos 0
unfolding mul null
mul-null-left n A i j = sum-zero n (λ k. pos 0 *ℤ A k j) (λ k l. Ring.zero-mul (A k j))

pub mul-null-right : (n : ℕ) (A : Matrix) (i j : ℕ) → mul n A null i j ≡ pos 0
unfolding mul null
mul-null-right n A i j = sum-zero n (λ k. A i k *ℤ pos 0) (λ k l. Ring.mul-zero (A i k))

pub mul-add : (n : ℕ) (A B C : Matrix) (i j : ℕ) → mul n A (λ a b. B a b +ℤ C a b) i j ≡ mul n A B i j +ℤ mul n A C i j
unfolding mul
mul-add n A B C i j =
    sum-ext n (λ k. A i k *ℤ (B k j +ℤ C k j)) (λ k. A i k *ℤ B k j +ℤ A i k *ℤ C k j) (λ k l. Ring.mul-add (A i k) (B k j) (C k j))
    ∙ sum-add n (λ k. A i k *ℤ B k j) (λ k. A i k *ℤ C k j)

pub add-mul : (n : ℕ) (A B C : Matrix) (i j : ℕ) → mul n (λ a b. A a b +ℤ B a b) C i j ≡ mul n A C i j +ℤ mul n B C i j
unfolding mul
add-mul n A B C i j =
    sum-ext n (λ k. (A i k +ℤ B i k) *ℤ C k j) (λ k. A i k *ℤ C k j +ℤ B i k *ℤ C k j) (λ k l. Ring.add-mul (A i k) (B i k) (C k j))
    ∙ sum-add n (λ k. A i k *ℤ C k j) (λ k. B i k *ℤ C k j)

pub mul-sub : (n : ℕ) (A B C : Matrix) (i j : ℕ) → mul n A (λ a b. B a b -ℤ C a b) i j ≡ mul n A B i j -ℤ mul n A C i j
unfolding mul
mul-sub n A B C i j =
    sum-ext n (λ k. A i k *ℤ (B k j -ℤ C k j)) (λ k. A i k *ℤ B k j -ℤ A i k *ℤ C k j) (λ k l. Ring.mul-sub (A i k) (B k j) (C k j))
    ∙ sum-sub n (λ k. A i k *ℤ B k j) (λ k. A i k *ℤ C k j)

pub sub-mul : (n : ℕ) (A B C : Matrix) (i j : ℕ) → mul n (λ a b. A a b -ℤ B a b) C i j ≡ mul n A C i j -ℤ mul n B C i j
unfolding mul
sub-mul n A B C i j =
    sum-ext n (λ k. (A i k -ℤ B i k) *ℤ C k j) (λ k. A i k *ℤ C k j -ℤ B i k *ℤ C k j) (λ k l. Ring.sub-mul (A i k) (B i k) (C k j))
    ∙ sum-sub n (λ k. A i k *ℤ C k j) (λ k. B i k *ℤ C k j)

pub mul-neg : (n : ℕ) (A B : Matrix) (i j : ℕ) → mul n A (λ a b. neg_ℤ (B a b)) i j ≡ neg_ℤ (mul n A B i j)
unfolding mul
mul-neg n A B i j =
    sum-ext n (λ k. A i k *ℤ neg_ℤ (B k j)) (λ k. neg_ℤ (A i k *ℤ B k j)) (λ k l. Ring.mul-neg (A i k) (B k j))
    ∙ sum-neg n (λ k. A i k *ℤ B k j)

pub neg-mul : (n : ℕ) (A B : Matrix) (i j : ℕ) → mul n (λ a b. neg_ℤ (A a b)) B i j ≡ neg_ℤ (mul n A B i j)
unfolding mul
neg-mul n A B i j =
    sum-ext n (λ k. neg_ℤ (A i k) *ℤ B k j) (λ k. neg_ℤ (A i k *ℤ B k j)) (λ k l. Ring.neg-mul (A i k) (B k j))
    ∙ sum-neg n (λ k. A i k *ℤ B k j)

-- a multiple of a factor
pub mul-scale-left : (n : ℕ) (c : ℤ) (A B : Matrix) (i j : ℕ) → mul n (λ a b. c *ℤ A a b) B i j ≡ c *ℤ mul n A B i j
unfolding mul
mul-scale-left n c A B i j =
    sum-ext n (λ k. c *ℤ A i k *ℤ B k j) (λ k. c *ℤ (A i k *ℤ B k j)) (λ k l. Ring.mul_assoc c (A i k) (B k j))
    ∙ sum-mul-left n c (λ k. A i k *ℤ B k j)

pub mul-scale-right : (n : ℕ) (c : ℤ) (A B : Matrix) (i j : ℕ) → mul n A (λ a b. c *ℤ B a b) i j ≡ c *ℤ mul n A B i j
unfolding mul
mul-scale-right n c A B i j =
    sum-ext n (λ k. A i k *ℤ (c *ℤ B k j)) (λ k. c *ℤ (A i k *ℤ B k j)) (λ k l. Ring.mul_left_comm (A i k) c (B k j))
    ∙ sum-mul-left n c (λ k. A i k *ℤ B k j)

-- the transpose of a product
pub mul-transpose : (n : ℕ) (A B : Matrix) (i j : ℕ) → mul n A B j i ≡ mul n (transpose B) (transpose A) i j
unfolding mul
mul-transpose n A B i j =
    sum-ext n (λ k. A j k *ℤ B k i) (λ k. B k i *ℤ A j k) (λ k l. Ring.mul_comm (A j k) (B k i))
