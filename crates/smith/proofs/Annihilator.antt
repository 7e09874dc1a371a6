-- `annihilator`: every matrix A with one row more than columns has a row x and a column y with x A = 0 and x y = 1.
-- Column after column is cleared except in the last row, by mixing each row with the last.
use mathlib.Core.Path.{◌≡◌, refl, sym, ◌∙◌}
use mathlib.Core.Logic.{◌≢◌}
use mathlib.Core.Bool.{cond}
use mathlib.Core.List.{[], ◌∷◌}
use Prim.Native.Nat.{ℕ, zero, suc, ◌≤◌, ◌<◌}
use native.Mathlib.Omega.{arith}
use native.Mathlib.Decide.{dec_lt, ℕ_discrete}
use borrow.Author.Tests.{eq-eqb, ne_eqb}
use lib.Dec.{eqb}
use lib.IntN.{ℤ, pos, neg_ℤ, ◌+ℤ◌, ◌-ℤ◌, ◌*ℤ◌}
use Rattle.integers.proofs.Ring.{add-zero, zero-mul, mul-zero, one-mul}
use Rattle.integers.proofs.Solve.{solve, terms}
use Rattle.matrices.specs.Sum.{sum}
use Rattle.matrices.proofs.SumLaws.{sum-ext, sum-zero, sum-pair}
use Rattle.matrices.specs.Matrix.{Matrix}
use Rattle.smith.proofs.Bezout.{Bezout, bezout}

-- a row and a column of n places: the row annihilates k columns of A, and the row times the column is 1
pub record Annihilator (n k : ℕ) (A : Matrix) : Type 0 where
  pub row : ℕ → ℤ
  pub column : ℕ → ℤ
  pub annihilates : (j : ℕ) → j < k → sum n (λ i. row i *ℤ A i j) ≡ pos 0
  pub unit : sum n (λ i. row i *ℤ column i) ≡ pos 1

-- ---- two rows are mixed by a 2 by 2 matrix of determinant 1

-- f with a at place s and b at place t
put : ℕ → ℕ → ℤ → ℤ → (ℕ → ℤ) → ℕ → ℤ
put s t a b f i = cond (eqb i s) a (cond (eqb i t) b (f i))

module _ (s t : ℕ) (a b : ℤ) (f : ℕ → ℤ) where
  put_first : put s t a b f s ≡ a
  unfolding put
  put_first = rw (eq-eqb s s refl)

  put_second : s ≢ t → put s t a b f t ≡ b
  unfolding put
  put_second d = rw (ne_eqb t s (λ e. d (sym e)), eq-eqb t t refl)

  put_other : (i : ℕ) → i ≢ s → i ≢ t → put s t a b f i ≡ f i
  unfolding put
  put_other i d d' = rw (ne_eqb i s d, ne_eqb i t d')

-- row s becomes p times row s plus q times row t, and row t becomes r times row s plus w times row t
mix : (s t : ℕ) (p q r w : ℤ) → Matrix → Matrix
mix s t p q r w A i j = put s t (p *ℤ A s j +ℤ q *ℤ A t j) (r *ℤ A s j +ℤ w *ℤ A t j) (λ a. A a j) i

row-terms : (p q r w x x' a a' : ℤ) → (x *ℤ p +ℤ x' *ℤ r) *ℤ a +ℤ (x *ℤ q +ℤ x' *ℤ w) *ℤ a' ≡ x *ℤ (p *ℤ a +ℤ q *ℤ a') +ℤ x' *ℤ (r *ℤ a +ℤ w *ℤ a')
row-terms p q r w x x' a a' =
    solve (p ∷ q ∷ r ∷ w ∷ x ∷ x' ∷ a ∷ a' ∷ []) (search terms depth 16 fits 4000) tt

unit-terms : (p q r w x x' y y' : ℤ) → (x *ℤ p +ℤ x' *ℤ r) *ℤ (w *ℤ y -ℤ q *ℤ y') +ℤ (x *ℤ q +ℤ x' *ℤ w) *ℤ (p *ℤ y' -ℤ r *ℤ y) ≡ (p *ℤ w -ℤ q *ℤ r) *ℤ (x *ℤ y +ℤ x' *ℤ y')
unit-terms p q r w x x' y y' =
    solve (p ∷ q ∷ r ∷ w ∷ x ∷ x' ∷ y ∷ y' ∷ []) (search terms depth 16 fits 4000) tt

-- the row for the mixed matrix times the 2 by 2 matrix is a row for A; the inverse of that matrix times the column is its column
unmix : (n k s t : ℕ) (p q r w : ℤ) (A : Matrix) → s < n → t < n → s ≢ t → p *ℤ w -ℤ q *ℤ r ≡ pos 1 → Annihilator n k (mix s t p q r w A) → Annihilator n k A
unfolding mix
unmix n k s t p q r w A ls lt d det K = record {
  row = x;
  column = y;
  annihilates = λ j l. row-sum j ∙ K.annihilates j l;
  unit = unit-sum ∙ K.unit;
}
  where
    x : ℕ → ℤ
    x = put s t (K.row s *ℤ p +ℤ K.row t *ℤ r) (K.row s *ℤ q +ℤ K.row t *ℤ w) K.row

    y : ℕ → ℤ
    y = put s t (w *ℤ K.column s -ℤ q *ℤ K.column t) (p *ℤ K.column t -ℤ r *ℤ K.column s) K.column

    row-sum : (j : ℕ) → sum n (λ i. x i *ℤ A i j) ≡ sum n (λ i. K.row i *ℤ mix s t p q r w A i j)
    row-sum j =
        sum-pair n s t (λ i. x i *ℤ A i j) (λ i. K.row i *ℤ mix s t p q r w A i j) ls lt d
        (λ i _ a b. simp (put_other, a, b))
        (simp (put_first, put_second, d) (row-terms p q r w (K.row s) (K.row t) (A s j) (A t j)))

    unit-sum : sum n (λ i. x i *ℤ y i) ≡ sum n (λ i. K.row i *ℤ K.column i)
    unit-sum =
        sum-pair n s t (λ i. x i *ℤ y i) (λ i. K.row i *ℤ K.column i) ls lt d
        (λ i _ a b. simp (put_other, a, b))
        (simp (put_first, put_second, d)
        (unit-terms p q r w (K.row s) (K.row t) (K.column s) (K.column t) ∙ cc (det, one-mul (K.row s *ℤ K.column s +ℤ K.row t *ℤ K.column t))))

-- ---- one column is cleared, then the matrix has one row and one column less

-- column k is zero except in the last row: a row for the smaller matrix, with 0 at the last place, is a row for A
shrink : (n k : ℕ) (A : Matrix) → ((i : ℕ) → i < n → A i k ≡ pos 0) → Annihilator n k A → Annihilator (suc n) (suc k) A
unfolding sum
shrink n k A h K = record {
  row = x;
  column = K.column;
  annihilates = λ j l. extended (λ i. A i j) ∙ columns j l (dec_lt j k);
  unit = extended K.column ∙ K.unit;
}
  where
    x : ℕ → ℤ
    x i = cond (eqb i n) (pos 0) (K.row i)

    extended : (f : ℕ → ℤ) → sum (suc n) (λ i. x i *ℤ f i) ≡ sum n (λ i. K.row i *ℤ f i)
    extended f = cc (before, last, add-zero (sum n (λ i. K.row i *ℤ f i)))
      where
        before : sum n (λ i. x i *ℤ f i) ≡ sum n (λ i. K.row i *ℤ f i)
        before =
            sum-ext n (λ i. x i *ℤ f i) (λ i. K.row i *ℤ f i)
            (λ i l.
            let d : i ≢ n = omega arith in
            rw (ne_eqb i n d))

        last : x n *ℤ f n ≡ pos 0
        last = rw (eq-eqb n n refl) (zero-mul (f n))

    columns : (j : ℕ) → j < suc k → Dec (j < k) → sum n (λ i. K.row i *ℤ A i j) ≡ pos 0
    columns j l (yes m) = K.annihilates j m
    columns j l (no m) =
        let e : j ≡ k = omega arith in
        sum-zero n (λ i. K.row i *ℤ A i j) (λ i a. cc (e, h i a, mul-zero (K.row i)))

determinant : (a b u v : ℤ) → b *ℤ v -ℤ neg_ℤ a *ℤ u ≡ u *ℤ a +ℤ v *ℤ b
determinant a b u v = solve (a ∷ b ∷ u ∷ v ∷ []) (search terms depth 16) tt

cancelled : (a b d : ℤ) → b *ℤ (a *ℤ d) +ℤ neg_ℤ a *ℤ (b *ℤ d) ≡ pos 0
cancelled a b d = solve (a ∷ b ∷ d ∷ []) (search terms depth 16) tt

-- column k is zero in the rows from t on, except the last
clear : (n k : ℕ) → ((A : Matrix) → Annihilator n k A) → (t : ℕ) → t ≤ n → (A : Matrix) → ((i : ℕ) → t ≤ i → i < n → A i k ≡ pos 0) → Annihilator (suc n) (suc k) A
unfolding mix
clear n k smaller zero l A h = shrink n k A (λ i m. h i (omega arith) m) (smaller A)
clear n k smaller (suc t) l A h =
    unmix (suc n) (suc k) t n B.second (neg_ℤ B.first) B.u B.v A (omega arith) (omega arith) (omega arith)
    (determinant B.first B.second B.u B.v ∙ B.coprime)
    (clear n k smaller t (omega arith) mixed (λ i a b. cleared i a b (ℕ_discrete i t)))
  where
    B : Bezout (A t k) (A n k)
    B = bezout (A t k) (A n k)

    mixed : Matrix
    mixed = mix t n B.second (neg_ℤ B.first) B.u B.v A

    cleared : (i : ℕ) → t ≤ i → i < n → Dec (i ≡ t) → mixed i k ≡ pos 0
    cleared i a b (yes e) = simp (e, put_first) (cc (B.first-is, B.second_is, cancelled B.first B.second B.divisor))
    cleared i a b (no d) =
        let d' : i ≢ n = omega arith in
        simp (put_other, d, d') (h i (omega arith) b)

-- every matrix with one row more than columns
pub annihilator : (k : ℕ) (A : Matrix) → Annihilator (suc k) k A
unfolding sum
annihilator zero A = record { row = λ i. pos 1; column = λ i. pos 1; annihilates = λ j l. absurd (omega arith); unit = refl }
annihilator (suc k) A = clear (suc k) k (annihilator k) (suc k) (omega arith) A (λ i l m. absurd (omega arith))
