-- The rank of a Smith diagonal and the number of its ones (`IsRank`, `IsOnes`). By the divisibility chain the nonzero entries come first,
-- and the ones first of all: `rank-exists`, `ones-exist`. `rank-bound`: the rank is at most the smaller side. `rank-unique`.
-- `ones-rank`: the ones count towards the rank. `order-above-one`: what is neither one nor zero is above 1.
use Prim.Native.Nat.{ℕ, zero, suc, ◌≤◌, ◌<◌, min, zero-le}
use native.Mathlib.Nat.{le_refl}
use native.Mathlib.Omega.{arith}
use native.Mathlib.Decide.{dec_lt}
use mathlib.Core.Path.{◌≡◌, refl, sym, ◌∙◌, ap, subst}
use mathlib.Core.Logic.{◌≢◌}
use lib.IntN.{ℤ, pos, negsuc, nat_abs, ℤ_discrete}
use lib.Signed.{◌≤ℤ◌, ◌<ℤ◌}
use Rattle.integers.proofs.Order.{lt-pos, nonneg-is}
use Rattle.integers.proofs.Divides.{zero-dvd, dvd-one}
use Rattle.integers.specs.Division.{◌∣ℤ◌}
use Rattle.matrices.specs.Matrix.{Matrix}
use Rattle.smith.proofs.Certificate.{Smith}

-- exactly the first r entries are nonzero
pub record IsRank (d : ℕ → ℤ) (r : ℕ) : Type 0 where
  pub nonzero : (i : ℕ) → i < r → d i ≢ pos 0
  pub zeros : (i : ℕ) → r ≤ i → d i ≡ pos 0

-- exactly the first u of the first k entries are 1
pub record IsOnes (k : ℕ) (d : ℕ → ℤ) (u : ℕ) : Type 0 where
  pub bound : u ≤ k
  pub ones : (i : ℕ) → i < u → d i ≡ pos 1
  pub others : (i : ℕ) → u ≤ i → i < k → d i ≢ pos 1

pub record Rank (d : ℕ → ℤ) : Type 0 where
  pub rank : ℕ
  pub is_rank : IsRank d rank

pub record Ones (k : ℕ) (d : ℕ → ℤ) : Type 0 where
  pub count : ℕ
  pub is_ones : IsOnes k d count

-- ---- a decidable property that each place hands down to the one before

record Prefix (P : ℕ → Type 0) (k : ℕ) : Type 0 where
  size : ℕ
  bound : size ≤ k
  inside : (i : ℕ) → i < size → P i
  outside : (i : ℕ) → size ≤ i → i < k → ¬ P i

module _ (P : ℕ → Type 0) (decide : (i : ℕ) → Dec (P i)) (down : (i : ℕ) → P (suc i) → P i) where
  down_to : (j i : ℕ) → P j → i ≤ j → P i
  down_to zero i p h = subst P (omega arith) p
  down_to (suc j) i p h = go (dec_lt j i) (λ l. down_to j i (down j p) l)
    where
      go : Dec (j < i) → (i ≤ j → P i) → P i
      go (yes l) r = subst P (omega arith) p
      go (no l) r = r (omega arith)

  prefix : (k : ℕ) → Prefix P k
  prefix zero = record { size = 0; bound = zero-le; inside = λ i h. absurd (omega arith); outside = λ i a b. omega arith }
  prefix (suc k) = go (prefix k) (decide k)
    where
      go : Prefix P k → Dec (P k) → Prefix P (suc k)
      go before (yes p) =
          record { size = suc k; bound = le_refl (suc k); inside = λ i h. down_to k i p (omega arith); outside = λ i a b. omega arith }
      go before (no p) =
          record { size = before.size; bound = omega (arith, before.bound); inside = before.inside; outside = later }
        where
          later : (i : ℕ) → before.size ≤ i → i < suc k → ¬ P i
          later i a b q = pick (dec_lt i k)
            where
              pick : Dec (i < k) → ⊥
              pick (yes l) = before.outside i a l q
              pick (no l) = p (subst P (omega arith) q)

-- ---- the rank

dec-not : {X : Type 0} → Dec X → Dec (¬ X)
dec-not (yes x) = no (λ f. f x)
dec-not (no f) = yes f

dec-stable : {X : Type 0} → Dec X → ¬ ¬ X → X
dec-stable (yes x) h = x
dec-stable (no f) h = absurd (h f)

module _ {m n : ℕ} {A : Matrix} {d : ℕ → ℤ} {U Ui W Wi : Matrix} (smith : Smith m n A d U Ui W Wi) where
  nonzero-down : (i : ℕ) → d (suc i) ≢ pos 0 → d i ≢ pos 0
  nonzero-down i h e = h (zero-dvd (subst (λ (x : ℤ). x ∣ℤ d (suc i)) e (smith.divides i)))

  pub rank-exists : Rank d
  rank-exists = record { rank = first.size; is_rank = record { nonzero = first.inside; zeros = zeros } }
    where
      first : Prefix (λ i. d i ≢ pos 0) (min m n)
      first = prefix (λ i. d i ≢ pos 0) (λ i. dec-not (ℤ_discrete (d i) (pos 0))) nonzero-down (min m n)

      zeros : (i : ℕ) → first.size ≤ i → d i ≡ pos 0
      zeros i h = go (dec_lt i (min m n))
        where
          go : Dec (i < min m n) → d i ≡ pos 0
          go (yes l) = dec-stable (ℤ_discrete (d i) (pos 0)) (first.outside i h l)
          go (no l) = smith.beyond i (omega arith)

  pub rank-bound : {r : ℕ} → IsRank d r → r ≤ min m n
  rank-bound {r} rank = omega (arith, not_more)
    where
      not_more : ¬ (min m n < r)
      not_more l = rank.nonzero (min m n) l (smith.beyond (min m n) (le_refl (min m n)))

  one_down : (i : ℕ) → d (suc i) ≡ pos 1 → d i ≡ pos 1
  one_down i e = nonneg-is (smith.nonneg i) ∙ ap pos (dvd-one (subst (λ (x : ℤ). d i ∣ℤ x) e (smith.divides i)))

  pub ones-exist : (k : ℕ) → Ones k d
  ones-exist k =
      record { count = first.size; is_ones = record { bound = first.bound; ones = first.inside; others = first.outside } }
    where
      first : Prefix (λ i. d i ≡ pos 1) k
      first = prefix (λ i. d i ≡ pos 1) (λ i. ℤ_discrete (d i) (pos 1)) one_down k

  -- an entry past the ones and within the rank is an order above 1
  pub order-above-one : {k u r : ℕ} → IsOnes k d u → IsRank d r → (i : ℕ) → u ≤ i → i < k → i < r → pos 1 <ℤ d i
  order-above-one ones rank i a b c = above (d i) (smith.nonneg i) (rank.nonzero i c) (ones.others i a b)
    where
      above : (x : ℤ) → pos 0 ≤ℤ x → x ≢ pos 0 → x ≢ pos 1 → pos 1 <ℤ x
      above (pos zero) h p q = absurd (p refl)
      above (pos (suc zero)) h p q = absurd (q refl)
      above (pos (suc (suc x))) h p q = lt-pos (omega arith)
      above (negsuc x) h p q = absurd h.le

pub ones-rank : {k u r : ℕ} {d : ℕ → ℤ} → IsOnes k d u → IsRank d r → u ≤ r
ones-rank {k} {u} {r} {d} ones rank = omega (arith, not_more)
  where
    not_more : ¬ (r < u)
    not_more l =
        let e : pos 1 ≡ pos 0 = sym (ones.ones r l) ∙ rank.zeros r (le_refl r) in
        let z : ◌≡◌ {A = ℕ} 1 0 = ap nat_abs e in
        omega arith

not-above : {r s : ℕ} {d : ℕ → ℤ} → IsRank d r → IsRank d s → ¬ (r < s)
not-above {r} a b l = b.nonzero r l (a.zeros r (le_refl r))

pub rank-unique : {r s : ℕ} {d : ℕ → ℤ} → IsRank d r → IsRank d s → r ≡ s
rank-unique a b = omega (arith, not-above a b, not-above b a)
