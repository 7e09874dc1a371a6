-- A matrix has one Smith diagonal: any two certificates of it agree on all factors (`factors-unique`) and on the rank (`rank_same`).
-- One diagonal becomes the other by a row transform and a column transform; `block-divides` is applied to the column transform.
use mathlib.Core.Path.{◌≡◌, refl, sym, ◌∙◌, subst}
use mathlib.Core.Logic.{◌≢◌}
use Prim.Native.Nat.{ℕ, suc, ◌≤◌, ◌<◌, min}
use native.Mathlib.Omega.{arith}
use native.Mathlib.Decide.{dec_lt}
use lib.IntN.{ℤ, pos, ◌-ℤ◌, ◌*ℤ◌}
use Rattle.integers.proofs.Ring.{mul-zero, mul_assoc as mul-assoc-ℤ, sub_self}
use Rattle.integers.proofs.Divides.{dvd-mul, dvd-zero}
use Rattle.integers.specs.Division.{◌∣ℤ◌}
use Rattle.matrices.specs.Sum.{sum}
use Rattle.matrices.proofs.SumLaws.{sum-zero, sum-single}
use Rattle.matrices.specs.Matrix.{Matrix, mul, identity}
use Rattle.matrices.proofs.Product.{mul-ext-at, mul_assoc}
use Rattle.matrices.proofs.Inverse.{InversePair, mul-cancel-middle, inverse-pair-mul, inverse-pair-sym}
use Rattle.matrices.proofs.VectorLaws.{mul_apply}
use Rattle.smith.proofs.Certificate.{diagonal, Smith}
use Rattle.smith.proofs.Diagonal.{diagonal-at, diagonal-other, apply-diagonal}
use Rattle.smith.proofs.Rank.{IsRank, rank-unique}
use Rattle.smith.proofs.Divisors.{dvd-chain, dvd-eq}
use Rattle.smith.proofs.Rectangle.{block-divides}

-- ---- the product with a diagonal matrix

mul-diagonal : (m : ℕ) (X : Matrix) (d : ℕ → ℤ) (j l : ℕ) → (m ≤ l → d l ≡ pos 0) → mul m X (diagonal d) j l ≡ X j l *ℤ d l
unfolding mul
mul-diagonal m X d j l beyond = go (dec_lt l m)
  where
    other : (k : ℕ) → k ≢ l → X j k *ℤ diagonal d k l ≡ pos 0
    other k a = cc (diagonal-other d k l a, mul-zero (X j k))

    go : Dec (l < m) → sum m (λ k. X j k *ℤ diagonal d k l) ≡ X j l *ℤ d l
    go (yes a) = sum-single m l (λ k. X j k *ℤ diagonal d k l) a (λ k _ b. other k b) ∙ cc (diagonal-at d l)
    go (no a) =
        sum-zero m (λ k. X j k *ℤ diagonal d k l) (λ k b. other k (omega arith))
        ∙ cc (beyond (omega arith), mul-zero (X j l))

diagonal-mul : (n : ℕ) (d : ℕ → ℤ) (Y : Matrix) (j l : ℕ) → j < n → mul n (diagonal d) Y j l ≡ d j *ℤ Y j l
diagonal-mul n d Y j l a = mul_apply n (diagonal d) Y j l ∙ apply-diagonal n d (λ k. Y k l) j a

-- ---- two certificates of one matrix

module _ {m n : ℕ} {A : Matrix} {d d' : ℕ → ℤ} {U Ui W Wi U' Ui' W' Wi' : Matrix} (S : Smith m n A d U Ui W Wi) (S' : Smith m n A d' U' Ui' W' Wi') where
  -- The first diagonal becomes the second by the row transform U' Ui and the column transform Wi W'; the inverse of the latter is Wi' W.
  transition : (j l : ℕ) → j < m → l < n → mul n (diagonal d') (mul n Wi' W) j l ≡ mul m (mul m U' Ui) (diagonal d) j l
  transition j l a b = second ∙ sym first
    where
      first : mul m (mul m U' Ui) (diagonal d) j l ≡ mul n (mul m U' A) W j l
      first =
          mul-ext-at m (mul m U' Ui) (mul m U' Ui) (diagonal d) (mul n (mul m U A) W) j l (λ k _. refl) (λ k c. sym (S.carries.at k l c b))
          ∙ sym (mul_assoc m n (mul m U' Ui) (mul m U A) W j l)
          ∙ mul-ext-at n (mul m (mul m U' Ui) (mul m U A)) (mul m U' A) W W j l (λ k _. mul-cancel-middle m Ui U S.row_pair.left U' A j k) (λ k _. refl)

      second : mul n (diagonal d') (mul n Wi' W) j l ≡ mul n (mul m U' A) W j l
      second =
          mul-ext-at n (diagonal d') (mul n (mul m U' A) W') (mul n Wi' W) (mul n Wi' W) j l (λ k c. sym (S'.carries.at j k a c)) (λ k _. refl)
          ∙ mul-cancel-middle n W' Wi' S'.column_pair.right (mul m U' A) W j l

  factor-divides : (s : ℕ) → s < min m n → d s ∣ℤ d' s
  factor-divides s a =
      block-divides n n s (suc s) (mul n Wi W') (mul n Wi' W) (d s) (d' s) (omega arith) (omega arith) inverse left_out
    where
      columns : InversePair n (mul n Wi W') (mul n Wi' W)
      columns = inverse-pair-mul (inverse-pair-sym S.column_pair) S'.column_pair

      inverse : (i l : ℕ) → s ≤ i → i < n → s ≤ l → l < n → d s ∣ℤ (identity i l -ℤ mul n (mul n Wi W') (mul n Wi' W) i l)
      inverse i l _ b _ c = subst (λ (x : ℤ). d s ∣ℤ x)
          (sym (cc (columns.right.at i l b c, sub_self (identity i l)))) (dvd-zero (d s))

      entry : (j l : ℕ) → j < m → j < n → l < n → d' j *ℤ mul n Wi' W j l ≡ mul m U' Ui j l *ℤ d l
      entry j l b c e =
          sym (diagonal-mul n d' (mul n Wi' W) j l c)
          ∙ transition j l b e
          ∙ mul-diagonal m (mul m U' Ui) d j l (λ f. S.beyond l (omega arith))

      left_out : (j l : ℕ) → j < suc s → s ≤ l → l < n → d s ∣ℤ (d' s *ℤ mul n Wi' W j l)
      left_out j l b c e = subst (λ (x : ℤ). d s ∣ℤ x) multiple
          (dvd-mul step.quotient (dvd-mul (mul m U' Ui j l) (dvd-chain (suc l) d (λ i _. S.divides i) s l c (omega arith))))
        where
          step : d' j ∣ℤ d' s
          step = dvd-chain (suc s) d' (λ i _. S'.divides i) j s (omega arith) (omega arith)

          multiple : step.quotient *ℤ (mul m U' Ui j l *ℤ d l) ≡ d' s *ℤ mul n Wi' W j l
          multiple = cc
              (entry j l (omega arith) (omega arith) e, mul-assoc-ℤ step.quotient (d' j) (mul n Wi' W j l), step.is)

pub factors-unique : {m n : ℕ} {A : Matrix} {d d' : ℕ → ℤ} {U Ui W Wi U' Ui' W' Wi' : Matrix} → Smith m n A d U Ui W Wi → Smith m n A d' U' Ui' W' Wi' → (i : ℕ) → d i ≡ d' i
factors-unique {m} {n} {d} {d'} S S' i = go (dec_lt i (min m n))
  where
    go : Dec (i < min m n) → d i ≡ d' i
    go (yes l) = dvd-eq (S.nonneg i) (S'.nonneg i) (factor-divides S S' i l) (factor-divides S' S i l)
    go (no l) = S.beyond i (omega arith) ∙ sym (S'.beyond i (omega arith))

pub rank_same : {m n r r' : ℕ} {A : Matrix} {d d' : ℕ → ℤ} {U Ui W Wi U' Ui' W' Wi' : Matrix} → Smith m n A d U Ui W Wi → Smith m n A d' U' Ui' W' Wi' → IsRank d r → IsRank d' r' → r ≡ r'
rank_same S S' h h' = rank-unique h (record {
  nonzero = λ i a e. h'.nonzero i a (sym (factors-unique S S' i) ∙ e);
  zeros = λ i a. factors-unique S S' i ∙ h'.zeros i a;
})
