-- Laws of the elementary operations: what each does at an entry (on_rows-subtract-at, ..), on_rows-ext and on_columns-ext,
-- on_rows-mul and on_columns-mul (an operation on a product is one on a factor), mul-cancel-rows
-- (an operation on one factor and its inverse on the other keep the product), inverse-inverse, on_rows-undo.
use mathlib.Core.Path.{◌≡◌, refl, sym, ◌∙◌, ap}
use mathlib.Core.Logic.{◌≢◌}
use mathlib.Core.List.{[], ◌∷◌}
use mathlib.Core.Bool.{Bool, true, false, cond}
use Prim.Native.Nat.{ℕ, ◌<◌}
use native.Mathlib.Decide.{ℕ_discrete}
use borrow.Author.Tests.{eq-eqb, ne_eqb}
use lib.Dec.{eqb}
use lib.IntN.{ℤ, neg_ℤ, ◌+ℤ◌, ◌-ℤ◌, ◌*ℤ◌}
use Rattle.integers.proofs.Ring as Ring
use Rattle.integers.proofs.Solve.{solve, terms}
use Rattle.matrices.specs.Sum.{sum}
use Rattle.matrices.proofs.SumLaws.{sum-ext, sum-pair}
use Rattle.matrices.specs.Matrix.{Matrix, Eq, mul, transpose}
use Rattle.matrices.proofs.Product.{sub-mul, neg-mul, mul-scale-left, mul-transpose, Eq-transpose, matrix-ext}
use Rattle.matrices.specs.Operation.{Operation, subtract, swap, negate, on_rows, on_columns, inverse}
use Rattle.matrices.specs.Within.{Within}

-- ---- what an operation does at an entry; for columns, take these at the transpose under `unfolding on_columns`

pub on_rows-subtract-at : (i k : ℕ) (q : ℤ) (A : Matrix) (b : ℕ) → on_rows (subtract i k q) A i b ≡ A i b -ℤ q *ℤ A k b
unfolding on_rows
on_rows-subtract-at i k q A b = rw (eq-eqb i i refl)

pub on_rows-subtract-other : (i k : ℕ) (q : ℤ) (A : Matrix) (a b : ℕ) → a ≢ i → on_rows (subtract i k q) A a b ≡ A a b
unfolding on_rows
on_rows-subtract-other i k q A a b d = rw (ne_eqb a i d)

pub on_rows-swap-first : (i k : ℕ) (A : Matrix) (b : ℕ) → on_rows (swap i k) A i b ≡ A k b
unfolding on_rows
on_rows-swap-first i k A b = rw (eq-eqb i i refl)

pub on_rows-swap-second : (i k : ℕ) (A : Matrix) (b : ℕ) → on_rows (swap i k) A k b ≡ A i b
unfolding on_rows
on_rows-swap-second i k A b = go (ℕ_discrete k i)
  where
    go : Dec (k ≡ i) → on_rows (swap i k) A k b ≡ A i b
    go (yes e) = cc (eq-eqb k i e, e)
    go (no d) = rw (ne_eqb k i d, eq-eqb k k refl)

pub on_rows-swap-other : (i k : ℕ) (A : Matrix) (a b : ℕ) → a ≢ i → a ≢ k → on_rows (swap i k) A a b ≡ A a b
unfolding on_rows
on_rows-swap-other i k A a b d e = rw (ne_eqb a i d, ne_eqb a k e)

pub on_rows-negate-at : (k : ℕ) (A : Matrix) (b : ℕ) → on_rows (negate k) A k b ≡ neg_ℤ (A k b)
unfolding on_rows
on_rows-negate-at k A b = rw (eq-eqb k k refl)

pub on_rows-negate-other : (k : ℕ) (A : Matrix) (a b : ℕ) → a ≢ k → on_rows (negate k) A a b ≡ A a b
unfolding on_rows
on_rows-negate-other k A a b d = rw (ne_eqb a k d)

-- ---- equal matrices stay equal

-- column b of A decides column b of the result
pub on_rows-ext-at : {m : ℕ} (op : Operation) → Within m op → (A B : Matrix) (b : ℕ) → ((a : ℕ) → a < m → A a b ≡ B a b) → (a : ℕ) → a < m → on_rows op A a b ≡ on_rows op B a b
unfolding on_rows
on_rows-ext-at (subtract i k q) w A B b h a l = cc (h i w.changed, h k w.taken, h a l)
on_rows-ext-at (swap i k) w A B b h a l = cc (h i w.first, h k w.second, h a l)
on_rows-ext-at (negate k) w A B b h a l = cc (h k w, h a l)

pub on_rows-ext : {m n : ℕ} {A B : Matrix} (op : Operation) → Within m op → Eq m n A B → Eq m n (on_rows op A) (on_rows op B)
on_rows-ext {A} {B} op w e = record { at = λ i j a b. on_rows-ext-at op w A B j (λ k l. e.at k j l b) i a }

pub on_columns-ext : {m n : ℕ} {A B : Matrix} (op : Operation) → Within n op → Eq m n A B → Eq m n (on_columns op A) (on_columns op B)
unfolding on_columns
on_columns-ext op w e = Eq-transpose (on_rows-ext op w (Eq-transpose e))

-- ---- products

pub on_rows-mul : (op : Operation) (n : ℕ) (A B : Matrix) (a b : ℕ) → on_rows op (mul n A B) a b ≡ mul n (on_rows op A) B a b
unfolding on_rows mul
on_rows-mul (subtract i k q) n A B a b = go (eqb a i)
  where
    combined : mul n A B i b -ℤ q *ℤ mul n A B k b ≡ mul n (λ _ l. A i l -ℤ q *ℤ A k l) B a b
    combined = sym (sub-mul n (λ _ l. A i l) (λ _ l. q *ℤ A k l) B a b
        ∙ ap (λ (x : ℤ). mul n A B i b -ℤ x) (mul-scale-left n q (λ _ l. A k l) B a b))

    go : (t : Bool) → cond t (mul n A B i b -ℤ q *ℤ mul n A B k b) (mul n A B a b) ≡ mul n (λ _ l. cond t (A i l -ℤ q *ℤ A k l) (A a l)) B a b
    go true = combined
    go false = refl
on_rows-mul (swap i k) n A B a b = go (eqb a i) (eqb a k)
  where
    go : (t u : Bool) → cond t (mul n A B k b) (cond u (mul n A B i b) (mul n A B a b)) ≡ mul n (λ _ l. cond t (A k l) (cond u (A i l) (A a l))) B a b
    go true u = refl
    go false true = refl
    go false false = refl
on_rows-mul (negate k) n A B a b = go (eqb a k)
  where
    go : (t : Bool) → cond t (neg_ℤ (mul n A B k b)) (mul n A B a b) ≡ mul n (λ _ l. cond t (neg_ℤ (A k l)) (A a l)) B a b
    go true = sym (neg-mul n (λ _ l. A k l) B a b)
    go false = refl

pub on_columns-mul : (op : Operation) (n : ℕ) (A B : Matrix) (a b : ℕ) → on_columns op (mul n A B) a b ≡ mul n A (on_columns op B) a b
unfolding on_columns
on_columns-mul op n A B a b =
    ap (λ (M : Matrix). on_rows op M b a) (matrix-ext (transpose (mul n A B)) (mul n (transpose B) (transpose A)) (λ i j. mul-transpose n A B i j))
    ∙ on_rows-mul op n (transpose B) (transpose A) b a
    ∙ mul-transpose n (on_rows op (transpose B)) (transpose A) a b

-- ---- inverses

pub inverse-inverse : (op : Operation) → inverse (inverse op) ≡ op
unfolding inverse
inverse-inverse (subtract i k q) = ap (λ (r : ℤ). subtract i k r) (Ring.neg-neg q)
inverse-inverse (swap i k) = refl
inverse-inverse (negate k) = refl

subtract-products : (b a c d q : ℤ) → b *ℤ (a -ℤ q *ℤ d) +ℤ (c -ℤ neg_ℤ q *ℤ b) *ℤ d ≡ b *ℤ a +ℤ c *ℤ d
subtract-products b a c d q = solve (b ∷ a ∷ c ∷ d ∷ q ∷ []) (search terms depth 16) tt

-- the inverse on the columns of the left factor undoes an operation on the rows of the right one
pub mul-cancel-rows : (op : Operation) (n : ℕ) → Within n op → (B A : Matrix) (x y : ℕ) → mul n (on_columns (inverse op) B) (on_rows op A) x y ≡ mul n B A x y
unfolding inverse on_columns mul
mul-cancel-rows (subtract i k q) n w B A x y =
    sum-pair n i k (λ a. on_rows (subtract k i (neg_ℤ q)) (transpose B) a x *ℤ on_rows (subtract i k q) A a y) (λ a. B x a *ℤ A a y) w.changed w.taken w.distinct
    (λ a _ d e. cc (on_rows-subtract-other i k q A a y d, on_rows-subtract-other k i (neg_ℤ q) (transpose B) a x e))
    (cc (
      on_rows-subtract-other k i (neg_ℤ q) (transpose B) i x w.distinct,
      on_rows-subtract-at i k q A y,
      on_rows-subtract-at k i (neg_ℤ q) (transpose B) x,
      on_rows-subtract-other i k q A k y (λ e. w.distinct (sym e)),
      subtract-products (B x i) (A i y) (B x k) (A k y) q,
    ))
mul-cancel-rows (swap i k) n w B A x y = go (ℕ_discrete i k)
  where
    F : ℕ → ℤ
    F a = on_rows (swap i k) (transpose B) a x *ℤ on_rows (swap i k) A a y

    other : (a : ℕ) → a ≢ i → a ≢ k → F a ≡ B x a *ℤ A a y
    other a d e = cc (on_rows-swap-other i k A a y d e, on_rows-swap-other i k (transpose B) a x d e)

    first : F i ≡ B x k *ℤ A k y
    first = cc (on_rows-swap-first i k A y, on_rows-swap-first i k (transpose B) x)

    second : F k ≡ B x i *ℤ A i y
    second = cc (on_rows-swap-second i k A y, on_rows-swap-second i k (transpose B) x)

    alike : i ≡ k → (a : ℕ) → Dec (a ≡ i) → F a ≡ B x a *ℤ A a y
    alike e a (yes f) = cc (first, e, f)
    alike e a (no d) = other a d (λ f. d (f ∙ sym e))

    go : Dec (i ≡ k) → sum n F ≡ sum n (λ a. B x a *ℤ A a y)
    go (yes e) = sum-ext n F (λ a. B x a *ℤ A a y) (λ a _. alike e a (ℕ_discrete a i))
    go (no d) = sum-pair n i k F (λ a. B x a *ℤ A a y) w.first w.second d (λ a _. other a) (cc (first, second, Ring.add_comm (B x k *ℤ A k y) (B x i *ℤ A i y)))
mul-cancel-rows (negate k) n w B A x y = sum-ext n F (λ a. B x a *ℤ A a y) (λ a _. go a (ℕ_discrete a k))
  where
    F : ℕ → ℤ
    F a = on_rows (negate k) (transpose B) a x *ℤ on_rows (negate k) A a y

    signs : (u v : ℤ) → neg_ℤ u *ℤ neg_ℤ v ≡ u *ℤ v
    signs u v = solve (u ∷ v ∷ []) (search terms depth 16) tt

    go : (a : ℕ) → Dec (a ≡ k) → F a ≡ B x a *ℤ A a y
    go a (yes e) = cc (e, on_rows-negate-at k A y, on_rows-negate-at k (transpose B) x, signs (B x k) (A k y))
    go a (no d) = cc (on_rows-negate-other k A a y d, on_rows-negate-other k (transpose B) a x d)

-- ---- undoing an operation on the same side

-- the operation on rows that undoes op on rows, and on columns likewise
unfoldable pub undo : Operation → Operation
undo (subtract i k q) = subtract i k (neg_ℤ q)
undo (swap i k) = swap i k
undo (negate k) = negate k

pub on_rows-undo : (op : Operation) (n : ℕ) → Within n op → (A : Matrix) (a b : ℕ) → on_rows op (on_rows (undo op) A) a b ≡ A a b
unfolding undo
on_rows-undo (subtract i k q) n w A a b = go (ℕ_discrete a i)
  where
    M : Matrix
    M = on_rows (subtract i k (neg_ℤ q)) A

    regroup : (u v c : ℤ) → (u -ℤ neg_ℤ c *ℤ v) -ℤ c *ℤ v ≡ u
    regroup u v c = solve (u ∷ v ∷ c ∷ []) (search terms depth 16) tt

    go : Dec (a ≡ i) → on_rows (subtract i k q) M a b ≡ A a b
    go (yes e) = cc
        (e, on_rows-subtract-at i k q M b, on_rows-subtract-at i k (neg_ℤ q) A b, on_rows-subtract-other i k (neg_ℤ q) A k b (λ f. w.distinct (sym f)), regroup (A i b) (A k b) q)
    go (no d) = on_rows-subtract-other i k q M a b d ∙ on_rows-subtract-other i k (neg_ℤ q) A a b d
on_rows-undo (swap i k) n w A a b = go (ℕ_discrete a i) (ℕ_discrete a k)
  where
    M : Matrix
    M = on_rows (swap i k) A

    go : Dec (a ≡ i) → Dec (a ≡ k) → on_rows (swap i k) M a b ≡ A a b
    go (yes e) t = cc (e, on_rows-swap-first i k M b, on_rows-swap-second i k A b)
    go (no d) (yes e) = cc (e, on_rows-swap-second i k M b, on_rows-swap-first i k A b)
    go (no d) (no e) = on_rows-swap-other i k M a b d e ∙ on_rows-swap-other i k A a b d e
on_rows-undo (negate k) n w A a b = go (ℕ_discrete a k)
  where
    M : Matrix
    M = on_rows (negate k) A

    go : Dec (a ≡ k) → on_rows (negate k) M a b ≡ A a b
    go (yes e) = cc (e, on_rows-negate-at k M b, on_rows-negate-at k A b, Ring.neg-neg (A k b))
    go (no d) = on_rows-negate-other k M a b d ∙ on_rows-negate-other k A a b d
