-- The coefficient of a cell in the column of another. It is a sign at a face and zero elsewhere: coefficient-face, coefficient-other,
-- coefficient-small. Over the faces of the faces of a cell the signs cancel: faces-cancel.
use mathlib.Core.Path.{◌≡◌, refl, sym, ap, ◌∙◌}
use mathlib.Core.Logic.{◌≢◌}
use mathlib.Core.Bool.{Bool, true, false, cond}
use mathlib.Core.List.{[], ◌∷◌}
use Prim.Native.Nat.{ℕ, zero, suc, ◌<◌, ◌≤◌}
use native.Mathlib.Omega.{arith}
use native.Mathlib.Decide.{ℕ_discrete}
use lib.ListN.{length}
use lib.IntN.{ℤ, pos, negsuc, neg_ℤ, nat_abs, ◌+ℤ◌, ◌*ℤ◌}
use Rattle.integers.proofs.Ring as Ring
use Rattle.matrices.specs.Sum.{sum}
use Rattle.matrices.proofs.SumLaws.{sum-ext, sum-zero, sum-add, sum-neg, sum-mul-right, sum-single}
use Rattle.complexes.specs.Cell.{Cell, without, same, rises}
use Rattle.complexes.proofs.CellLaws.{same_refl, ne_same, cell-discrete}
use Rattle.complexes.proofs.FaceLaws.{length_without, without-injective, without-without}
use Rattle.complexes.specs.Boundary.{sign, coefficient}

-- ---- signs

pub sign-sign : (i : ℕ) → sign i *ℤ sign i ≡ pos 1
unfolding sign
sign-sign zero = refl
sign-sign (suc i) = cc
    (Ring.neg-mul (sign i) (neg_ℤ (sign i)), Ring.mul-neg (sign i) (sign i), Ring.neg-neg (sign i *ℤ sign i), sign-sign i)

pub nat_abs-sign : (i : ℕ) → nat_abs (sign i) ≡ 1
unfolding sign
nat_abs-sign zero = refl
nat_abs-sign (suc i) = nat_abs-neg (sign i) ∙ nat_abs-sign i
  where
    nat_abs-neg : (z : ℤ) → nat_abs (neg_ℤ z) ≡ nat_abs z
    nat_abs-neg (pos zero) = refl
    nat_abs-neg (pos (suc n)) = refl
    nat_abs-neg (negsuc n) = refl

-- ---- one coefficient

pub coefficient-face : (c : Cell) (i : ℕ) → rises c ≡ true → i < length c → coefficient (without i c) c ≡ sign i
unfolding coefficient
coefficient-face c i e l =
    sum-single (length c) i (λ t. cond (same (without t c) (without i c)) (sign t) (pos 0)) l other
    ∙ rw (same_refl (without i c))
  where
    other : (t : ℕ) → t < length c → t ≢ i → cond (same (without t c) (without i c)) (sign t) (pos 0) ≡ pos 0
    other t k d = rw (ne_same (without t c) (without i c) (λ q. d (without-injective c t i e k l q)))

pub coefficient-other : (f c : Cell) → ((i : ℕ) → i < length c → without i c ≢ f) → coefficient f c ≡ pos 0
unfolding coefficient
coefficient-other f c h =
    sum-zero (length c) (λ t. cond (same (without t c) f) (sign t) (pos 0)) (λ t l. rw (ne_same (without t c) f (h t l)))

-- f is one of the first n faces of c, or it is none of them
data Search (f c : Cell) (n : ℕ) : Type 0 where
  found : (i : ℕ) → i < n → without i c ≡ f → Search f c n
  absent : ((i : ℕ) → i < n → without i c ≢ f) → Search f c n

search-faces : (f c : Cell) (n : ℕ) → Search f c n
search-faces f c zero = absent (λ i l. absurd (omega arith))
search-faces f c (suc n) = go (cell-discrete (without n c) f) (search-faces f c n)
  where
    next : without n c ≢ f → ((i : ℕ) → i < n → without i c ≢ f) → (i : ℕ) → i < suc n → Dec (i ≡ n) → without i c ≢ f
    next d h i l (yes q) = rw q d
    next d h i l (no q) = h i (omega arith)

    go : Dec (without n c ≡ f) → Search f c n → Search f c (suc n)
    go (yes q) r = found n (omega arith) q
    go (no q) (found i l e) = found i (omega arith) e
    go (no q) (absent h) = absent (λ i l. next q h i l (ℕ_discrete i n))

pub coefficient-small : (f c : Cell) → rises c ≡ true → nat_abs (coefficient f c) ≤ 1
coefficient-small f c e = go (search-faces f c (length c))
  where
    go : Search f c (length c) → nat_abs (coefficient f c) ≤ 1
    go (found i l q) = rw (← q, coefficient-face c i e l, nat_abs-sign) (omega arith)
    go (absent h) = rw (coefficient-other f c h) (omega arith)

-- ---- pairs of terms that cancel

-- a double sum in which the term (t + 1, s) and the term (s, t) cancel for s ≤ t
pub sum-cancel : (n : ℕ) (g : ℕ → ℕ → ℤ)
    → ((s t : ℕ) → s ≤ t → t < n → g (suc t) s ≡ neg_ℤ (g s t)) → sum (suc n) (λ t. sum n (λ s. g t s)) ≡ pos 0
unfolding sum
sum-cancel zero g h = refl
sum-cancel (suc n) g h =
    cc (columns, sum-cancel n g (λ s t a b. h s t a (omega arith)), row, Ring.zero-add column, Ring.add-neg column)
  where
    column : ℤ
    column = sum (suc n) (λ t. g t n)

    columns : sum (suc n) (λ t. sum (suc n) (λ s. g t s)) ≡ sum (suc n) (λ t. sum n (λ s. g t s)) +ℤ column
    columns = sum-add (suc n) (λ t. sum n (λ s. g t s)) (λ t. g t n)

    row : sum (suc n) (λ s. g (suc n) s) ≡ neg_ℤ column
    row =
        sum-ext (suc n) (λ s. g (suc n) s) (λ s. neg_ℤ (g s n)) (λ s l. h s n (omega arith) (omega arith))
        ∙ sum-neg (suc n) (λ s. g s n)

coefficient-length : (f c : Cell) (n : ℕ) → length c ≡ n → coefficient f c ≡ sum n (λ i. cond (same (without i c) f) (sign i) (pos 0))
unfolding coefficient
coefficient-length f c n e = ap (λ (k : ℕ). sum k (λ i. cond (same (without i c) f) (sign i) (pos 0))) e

sign-exchange : (b : Bool) (s t : ℕ) → cond b (sign s) (pos 0) *ℤ sign (suc t) ≡ neg_ℤ (cond b (sign t) (pos 0) *ℤ sign s)
unfolding sign
sign-exchange true s t = Ring.mul-neg (sign s) (sign t) ∙ ap neg_ℤ (Ring.mul_comm (sign s) (sign t))
sign-exchange false s t = cc (Ring.zero-mul (neg_ℤ (sign t)), Ring.zero-mul (sign s))

-- the faces of the faces of c cancel
pub faces-cancel : (f c : Cell) → sum (length c) (λ t. coefficient f (without t c) *ℤ sign t) ≡ pos 0
unfolding sum
faces-cancel f [] = refl
faces-cancel f (v ∷ d) =
    sum-ext (suc n) (λ t. coefficient f (without t c) *ℤ sign t) (λ t. sum n (λ s. term t s)) inner
    ∙ sum-cancel n term exchange
  where
    c : Cell
    c = v ∷ d

    n : ℕ
    n = length d

    term : ℕ → ℕ → ℤ
    term t s = cond (same (without s (without t c)) f) (sign s) (pos 0) *ℤ sign t

    inner : (t : ℕ) → t < suc n → coefficient f (without t c) *ℤ sign t ≡ sum n (λ s. term t s)
    inner t l =
        ap (λ (x : ℤ). x *ℤ sign t) (coefficient-length f (without t c) n (omega (arith, length_without t c l)))
        ∙ sym (sum-mul-right n (λ i. cond (same (without i (without t c)) f) (sign i) (pos 0)) (sign t))

    exchange : (s t : ℕ) → s ≤ t → t < n → term (suc t) s ≡ neg_ℤ (term s t)
    exchange s t a b = rw (without-without s t c a) (sign-exchange (same (without t (without s c)) f) s t)
