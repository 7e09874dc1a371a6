-- `rectangle-divides`: if A has one column less than rows and A B is c times the identity modulo e, then e divides c.
-- `block-divides`: the same for a block of two matrices whose product is the identity modulo e.
use mathlib.Core.Path.{◌≡◌, sym, ◌∙◌, ap, subst}
use mathlib.Core.List.{[], ◌∷◌}
use Prim.Native.Nat.{ℕ, suc, ◌+◌, ◌-◌, ◌≤◌, ◌<◌}
use native.Mathlib.Omega.{arith}
use native.Mathlib.Decide.{ℕ_discrete}
use lib.IntN.{ℤ, pos, ◌+ℤ◌, ◌-ℤ◌, ◌*ℤ◌}
use Rattle.integers.proofs.Ring.{add-zero, zero-mul, mul-one, mul_assoc as mul-assoc-ℤ, mul_left_comm}
use Rattle.integers.proofs.Solve.{solve, terms}
use Rattle.integers.proofs.Divides.{dvd-add, dvd-mul}
use Rattle.integers.specs.Division.{◌∣ℤ◌}
use Rattle.matrices.specs.Sum.{sum}
use Rattle.matrices.proofs.SumLaws.{sum-ext, sum-zero, sum-mul-left, sum-split}
use Rattle.matrices.specs.Matrix.{Matrix, mul, identity}
use Rattle.matrices.proofs.Product.{identity-at, identity-other, mul_assoc, mul-sub, mul-scale-right, mul-identity-right}
use Rattle.smith.proofs.Divisors.{dvd-sum}
use Rattle.smith.proofs.Annihilator.{Annihilator, annihilator}

pub rectangle-divides : (k : ℕ) (A B : Matrix) (e c : ℤ) → ((i j : ℕ) → i < suc k → j < suc k → e ∣ℤ (c *ℤ identity i j -ℤ mul k A B i j)) → e ∣ℤ c
unfolding mul
rectangle-divides k A B e c h =
    subst (λ (z : ℤ). e ∣ℤ z) total
    (dvd-sum (suc k) e (λ j. K.column j *ℤ (c *ℤ K.row j)) (λ j l. dvd-mul (K.column j) (multiple j l)))
  where
    K : Annihilator (suc k) k A
    K = annihilator k A

    X : Matrix
    X a i = K.row i

    C : Matrix
    C i j = c *ℤ identity i j

    annihilated : (j : ℕ) → mul (suc k) X (mul k A B) 0 j ≡ pos 0
    annihilated j =
        sym (mul_assoc (suc k) k X A B 0 j)
        ∙ sum-zero k (λ l. mul (suc k) X A 0 l *ℤ B l j) (λ l m. cc (K.annihilates l m, zero-mul (B l j)))

    difference : (j : ℕ) → j < suc k → mul (suc k) X (λ a b. C a b -ℤ mul k A B a b) 0 j ≡ c *ℤ K.row j
    difference j l = cc
        (mul-sub (suc k) X C (mul k A B) 0 j, annihilated j, mul-scale-right (suc k) c X identity 0 j, mul-identity-right (suc k) X 0 j l, add-zero (c *ℤ K.row j))

    multiple : (j : ℕ) → j < suc k → e ∣ℤ (c *ℤ K.row j)
    multiple j l =
        subst (λ (z : ℤ). e ∣ℤ z) (difference j l)
        (dvd-sum (suc k) e (λ i. K.row i *ℤ (C i j -ℤ mul k A B i j)) (λ i m. dvd-mul (K.row i) (h i j m l)))

    regroup : (x y : ℤ) → y *ℤ (c *ℤ x) ≡ c *ℤ (x *ℤ y)
    regroup x y = solve (c ∷ x ∷ y ∷ []) (search terms depth 16) tt

    total : sum (suc k) (λ j. K.column j *ℤ (c *ℤ K.row j)) ≡ c
    total =
        sum-ext (suc k) (λ j. K.column j *ℤ (c *ℤ K.row j)) (λ j. c *ℤ (K.row j *ℤ K.column j)) (λ j _. regroup (K.row j) (K.column j))
        ∙ sum-mul-left (suc k) c (λ j. K.row j *ℤ K.column j)
        ∙ cc (K.unit, mul-one c)

identity-shift : (b i j : ℕ) → identity (b + i) (b + j) ≡ identity i j
identity-shift b i j = go (ℕ_discrete i j)
  where
    go : Dec (i ≡ j) → identity (b + i) (b + j) ≡ identity i j
    go (yes e) = cc (e, identity-at (b + i), identity-at i)
    go (no d) = cc (identity-other (b + i) (b + j) (omega arith), identity-other i j d)

-- Let C be k by k' and C' be k' by k. Take the rows of C and the columns of C' from b on, and leave out the first r of the k' middle
-- indices, so that fewer middle indices than rows are left. If, modulo e, C times C' is the identity there, and c times each row of C'
-- that is left out is zero there, then e divides c.
pub block-divides : (k k' b r : ℕ) (C C' : Matrix) (e c : ℤ) → r ≤ k' → k' + b < k + r → ((i l : ℕ) → b ≤ i → i < k → b ≤ l → l < k → e ∣ℤ (identity i l -ℤ mul k' C C' i l)) → ((j l : ℕ) → j < r → b ≤ l → l < k → e ∣ℤ (c *ℤ C' j l)) → e ∣ℤ c
unfolding mul
block-divides k k' b r C C' e c lr lk inverse left = rectangle-divides N A B e c entry
  where
    N : ℕ
    N = k' - r

    A : Matrix
    A i j = c *ℤ C (b + i) (r + j)

    B : Matrix
    B i j = C' (r + i) (b + j)

    regroup : (h t d : ℤ) → c *ℤ (d -ℤ (h +ℤ t)) +ℤ c *ℤ h ≡ c *ℤ d -ℤ c *ℤ t
    regroup h t d = solve (c ∷ h ∷ t ∷ d ∷ []) (search terms depth 16) tt

    entry : (i l : ℕ) → i < suc N → l < suc N → e ∣ℤ (c *ℤ identity i l -ℤ mul N A B i l)
    entry i l li ll = subst (λ (z : ℤ). e ∣ℤ z) total
        (dvd-add
        (dvd-mul c (inverse (b + i) (b + l) (omega arith) (omega arith) (omega arith) (omega arith)))
        (dvd-sum r e left_out (λ j lj. dvd-mul (C (b + i) j) (left j (b + l) lj (omega arith) (omega arith)))))
      where
        F : ℕ → ℤ
        F j = C (b + i) j *ℤ C' j (b + l)

        left_out : ℕ → ℤ
        left_out j = C (b + i) j *ℤ (c *ℤ C' j (b + l))

        left-out-sum : sum r left_out ≡ c *ℤ sum r F
        left-out-sum =
            sum-ext r left_out (λ j. c *ℤ F j) (λ j _. mul_left_comm (C (b + i) j) c (C' j (b + l)))
            ∙ sum-mul-left r c F

        product : mul N A B i l ≡ c *ℤ sum N (λ j. F (r + j))
        product =
            sum-ext N (λ j. A i j *ℤ B j l) (λ j. c *ℤ F (r + j)) (λ j _. mul-assoc-ℤ c (C (b + i) (r + j)) (C' (r + j) (b + l)))
            ∙ sum-mul-left N c (λ j. F (r + j))

        whole : sum k' F ≡ sum r F +ℤ sum N (λ j. F (r + j))
        whole =
            let e : k' ≡ r + N = omega arith in
            ap (λ (x : ℕ). sum x F) e ∙ sum-split r N F

        total : c *ℤ (identity (b + i) (b + l) -ℤ mul k' C C' (b + i) (b + l)) +ℤ sum r left_out ≡ c *ℤ identity i l -ℤ mul N A B i l
        total = cc
            (whole, identity-shift b i l, left-out-sum, product, regroup (sum r F) (sum N (λ j. F (r + j))) (identity i l))
