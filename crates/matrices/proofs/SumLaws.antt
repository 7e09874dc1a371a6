-- Laws of finite sums. Over the whole range: sum-ext, sum-zero, sum-add, sum-neg, sum-sub, sum-mul-left, sum-mul-right,
-- sum-swap, sum-split, sum_first. Sums that differ in one or two places: sum-single, sum-change, sum-pair.
use mathlib.Core.Path.{◌≡◌, refl, sym, ◌∙◌, ap}
use mathlib.Core.Logic.{◌≢◌}
use mathlib.Core.List.{[], ◌∷◌}
use mathlib.Core.Bool.{cond}
use Prim.Native.Nat.{ℕ, zero, suc, ◌+◌, ◌*◌, ◌≤◌, ◌<◌}
use native.Mathlib.Nat as Nat
use native.Mathlib.Omega.{arith}
use native.Mathlib.Decide.{ℕ_discrete}
use borrow.Author.Tests.{eq-eqb, ne_eqb}
use lib.Dec.{eqb}
use lib.IntN.{ℤ, pos, neg_ℤ, nat_abs, ◌+ℤ◌, ◌-ℤ◌, ◌*ℤ◌}
use Rattle.integers.proofs.Ring.{add_assoc, add_comm, zero-add, add-zero, sub_self, neg-add, zero-mul, mul-zero, add-mul, mul-add}
use Rattle.integers.proofs.Order.{nat_abs-add}
use Rattle.integers.proofs.Solve.{solve, terms}
use Rattle.matrices.specs.Sum.{sum}

-- ---- the whole range

pub sum-ext : (n : ℕ) (f g : ℕ → ℤ) → ((i : ℕ) → i < n → f i ≡ g i) → sum n f ≡ sum n g
unfolding sum
sum-ext zero f g h = refl
sum-ext (suc n) f g h = cc (sum-ext n f g (λ i l. h i (omega arith)), h n (omega arith))

pub sum-zero : (n : ℕ) (f : ℕ → ℤ) → ((i : ℕ) → i < n → f i ≡ pos 0) → sum n f ≡ pos 0
unfolding sum
sum-zero zero f h = refl
sum-zero (suc n) f h = cc (sum-zero n f (λ i l. h i (omega arith)), h n (omega arith))

interchange : (a b c d : ℤ) → (a +ℤ b) +ℤ (c +ℤ d) ≡ (a +ℤ c) +ℤ (b +ℤ d)
interchange a b c d = solve (a ∷ b ∷ c ∷ d ∷ []) (search terms depth 16) tt

pub sum-add : (n : ℕ) (f g : ℕ → ℤ) → sum n (λ i. f i +ℤ g i) ≡ sum n f +ℤ sum n g
unfolding sum
sum-add zero f g = refl
sum-add (suc n) f g = cc (sum-add n f g, interchange (sum n f) (sum n g) (f n) (g n))

pub sum-neg : (n : ℕ) (f : ℕ → ℤ) → sum n (λ i. neg_ℤ (f i)) ≡ neg_ℤ (sum n f)
unfolding sum
sum-neg zero f = refl
sum-neg (suc n) f = cc (sum-neg n f, neg-add (sum n f) (f n))

pub sum-sub : (n : ℕ) (f g : ℕ → ℤ) → sum n (λ i. f i -ℤ g i) ≡ sum n f -ℤ sum n g
sum-sub n f g = sum-add n f (λ i. neg_ℤ (g i)) ∙ ap (λ (x : ℤ). sum n f +ℤ x) (sum-neg n g)

pub sum-mul-left : (n : ℕ) (c : ℤ) (f : ℕ → ℤ) → sum n (λ i. c *ℤ f i) ≡ c *ℤ sum n f
unfolding sum
sum-mul-left zero c f = sym (mul-zero c)
sum-mul-left (suc n) c f = cc (sum-mul-left n c f, mul-add c (sum n f) (f n))

pub sum-mul-right : (n : ℕ) (f : ℕ → ℤ) (c : ℤ) → sum n (λ i. f i *ℤ c) ≡ sum n f *ℤ c
unfolding sum
sum-mul-right zero f c = sym (zero-mul c)
sum-mul-right (suc n) f c = cc (sum-mul-right n f c, add-mul (sum n f) (f n) c)

-- two sums change places
pub sum-swap : (m n : ℕ) (f : ℕ → ℕ → ℤ) → sum m (λ i. sum n (λ j. f i j)) ≡ sum n (λ j. sum m (λ i. f i j))
unfolding sum
sum-swap zero n f = sym (sum-zero n (λ j. pos 0) (λ i l. refl))
sum-swap (suc m) n f = cc (sum-swap m n f, sum-add n (λ j. sum m (λ i. f i j)) (λ j. f m j))

-- the first m terms and the next n
pub sum-split : (m n : ℕ) (f : ℕ → ℤ) → sum (m + n) f ≡ sum m f +ℤ sum n (λ i. f (m + i))
unfolding sum
sum-split m zero f = rw Nat.add-zero (sym (add-zero (sum m f)))
sum-split m (suc n) f = rw Nat.add-suc (cc (sum-split m n f, add_assoc (sum m f) (sum n (λ i. f (m + i))) (f (m + n))))

-- the first term and the others
pub sum_first : (n : ℕ) (f : ℕ → ℤ) → sum (suc n) f ≡ f 0 +ℤ sum n (λ i. f (suc i))
unfolding sum
sum_first zero f = add_comm (pos 0) (f 0)
sum_first (suc n) f = cc (sum_first n f, add_assoc (f 0) (sum n (λ i. f (suc i))) (f (suc n)))

-- ---- one or two places

-- all is zero outside place j
pub sum-single : (n j : ℕ) (f : ℕ → ℤ) → j < n → ((i : ℕ) → i < n → i ≢ j → f i ≡ pos 0) → sum n f ≡ f j
unfolding sum
sum-single zero j f l h = absurd (omega arith)
sum-single (suc n) j f l h = go (ℕ_discrete j n) (λ l'. sum-single n j f l' (λ i k. h i (omega arith)))
  where
    go : Dec (j ≡ n) → (j < n → sum n f ≡ f j) → sum n f +ℤ f n ≡ f j
    go (yes e) r = cc (sum-zero n f (λ i k. h i (omega arith) (omega arith)), zero-add (f n), e)
    go (no d) r = cc (r (omega arith), h n (omega arith) (λ e. d (sym e)), add-zero (f j))

-- f and g agree outside place j
pub sum-change : (n j : ℕ) (f g : ℕ → ℤ) → j < n → ((i : ℕ) → i < n → i ≢ j → f i ≡ g i) → sum n f ≡ sum n g +ℤ (f j -ℤ g j)
sum-change n j f g l h = add-sub (sum n f) (sum n g) ∙ ap (λ (x : ℤ). sum n g +ℤ x) difference
  where
    add-sub : (a b : ℤ) → a ≡ b +ℤ (a -ℤ b)
    add-sub a b = solve (a ∷ b ∷ []) (search terms depth 16) tt

    difference : sum n f -ℤ sum n g ≡ f j -ℤ g j
    difference =
        sym (sum-sub n f g) ∙ sum-single n j (λ i. f i -ℤ g i) l (λ i k d. cc (h i k d, sub_self (g i)))

-- f and g agree outside two places, and have the same sum there
pub sum-pair : (n j k : ℕ) (f g : ℕ → ℤ) → j < n → k < n → j ≢ k → ((i : ℕ) → i < n → i ≢ j → i ≢ k → f i ≡ g i) → f j +ℤ f k ≡ g j +ℤ g k → sum n f ≡ sum n g
sum-pair n j k f g lj lk d h e =
    cc (first, second, add_assoc (sum n g) (f k -ℤ g k) (f j -ℤ g j), differences, add-zero (sum n g))
  where
    -- g with the value of f at place k
    between : ℕ → ℤ
    between i = cond (eqb i k) (f k) (g i)

    between-at : between k ≡ f k
    between-at = rw (eq-eqb k k refl)

    between-other : (i : ℕ) → i ≢ k → between i ≡ g i
    between-other i a = rw (ne_eqb i k a)

    agree : (i : ℕ) → i < n → i ≢ j → Dec (i ≡ k) → f i ≡ between i
    agree i l a (yes b) = cc (b, between-at)
    agree i l a (no b) = cc (h i l a b, between-other i b)

    first : sum n f ≡ sum n between +ℤ (f j -ℤ g j)
    first = cc (sum-change n j f between lj (λ i l a. agree i l a (ℕ_discrete i k)), between-other j d)

    second : sum n between ≡ sum n g +ℤ (f k -ℤ g k)
    second = cc (sum-change n k between g lk (λ i l a. between-other i a), between-at)

    differences : (f k -ℤ g k) +ℤ (f j -ℤ g j) ≡ pos 0
    differences = cc
        (interchange (f k) (neg_ℤ (g k)) (f j) (neg_ℤ (g j)), neg-add (g k) (g j), add_comm (f k) (f j), add_comm (g k) (g j), e, sub_self (g j +ℤ g k))

-- ---- a bound from a bound of the terms

pub nat_abs-sum : (n : ℕ) (f : ℕ → ℤ) (bound : ℕ) → ((i : ℕ) → i < n → nat_abs (f i) ≤ bound) → nat_abs (sum n f) ≤ n * bound
unfolding sum
nat_abs-sum zero f bound h = omega arith
nat_abs-sum (suc n) f bound h =
    omega (arith, Nat.suc-mul n bound, nat_abs-add (sum n f) (f n), nat_abs-sum n f bound (λ i l. h i (omega arith)), h n (omega arith))
