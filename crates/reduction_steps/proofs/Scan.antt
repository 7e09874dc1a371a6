-- How the scan of release 1 finds its pivot: what it has chosen is the best of the places that it has seen.
-- `Precedes`: the order of places, row by row; `release1-chosen`: at the end it has chosen the best of the block.
use mathlib.Core.Bool.{Bool, true, false, cond, not, ◌&&◌}
use mathlib.Core.Path.{◌≡◌, refl, sym, ◌∙◌, ap, subst, subst₂}
use mathlib.Core.Logic.{◌≢◌, ◌↔◌}
use Prim.Native.Nat.{ℕ, zero, suc, ◌+◌, ◌-◌, ◌≤◌, ◌<◌}
use native.Mathlib.Nat as NatL
use native.Mathlib.Decide.{dec_lt}
use native.Mathlib.Omega.{arith}
use lib.Dec.{eqb, ltb}
use lib.IntN.{pos, nat_abs}
use borrow.Author.Tests.{ltb-true, ltb-false, eqb-true, eqb-false}
use Rattle.integers.proofs.Order.{nat_abs-zero}
use Rattle.matrices.specs.Matrix.{Matrix}
use Rattle.reduction_steps.specs.Pivot.{Choice, none, place, better, along_row, down_rows, release1}

-- ---- the order of places

-- (i, j) is (a, b) or comes before it, row by row
pub data Precedes (i j a b : ℕ) : Type 0 where
  higher : i < a → Precedes i j a b
  left : i ≡ a → j ≤ b → Precedes i j a b

pub precedes-refl : (i j : ℕ) → Precedes i j i j
precedes-refl i j = left refl (NatL.le_refl j)

pub precedes-antisymm : (i j a b : ℕ) → Precedes i j a b → Precedes a b i j → place i j ≡ place a b
precedes-antisymm i j a b (higher h) (higher l) = absurd (omega arith)
precedes-antisymm i j a b (higher h) (left p l) = absurd (omega arith)
precedes-antisymm i j a b (left e h) (higher l) = absurd (omega arith)
precedes-antisymm i j a b (left e h) (left p l) =
    let f : j ≡ b = omega arith in
    cc

-- ---- the best of the places seen so far

-- (i, j) is seen, nonzero, of least absolute value among those seen, and the first such
pub record Best (seen : ℕ → ℕ → Type 0) (A : Matrix) (i j : ℕ) : Type 0 where
  pub here : seen i j
  pub nonzero : A i j ≢ pos 0
  pub least : (a b : ℕ) → seen a b → A a b ≢ pos 0 → nat_abs (A i j) ≤ nat_abs (A a b)
  pub first : (a b : ℕ) → seen a b → A a b ≢ pos 0 → nat_abs (A a b) ≡ nat_abs (A i j) → Precedes i j a b

-- a choice is the best of the places seen, or none where all of these are zero
abbrev pub Chosen : (seen : ℕ → ℕ → Type 0) (A : Matrix) → Choice → Type 0
Chosen seen A none = (a b : ℕ) → seen a b → A a b ≡ pos 0
Chosen seen A (place i j) = Best seen A i j

chosen-cong : (P Q : ℕ → ℕ → Type 0) (A : Matrix) (c : Choice) → ((a b : ℕ) → P a b ↔ Q a b) → Chosen P A c → Chosen Q A c
chosen-cong P Q A none e h = λ a b s. h a b ((e a b).1 s)
chosen-cong P Q A (place i j) e h = record {
  here = (e i j).0 h.here;
  nonzero = h.nonzero;
  least = λ a b s. h.least a b ((e a b).1 s);
  first = λ a b s. h.first a b ((e a b).1 s);
}

-- the places of P, and (i, j)
data Also (P : ℕ → ℕ → Type 0) (i j a b : ℕ) : Type 0 where
  old : P a b → Also P i j a b
  new : a ≡ i → b ≡ j → Also P i j a b

-- what holds on P and at (i, j)
also : {P : ℕ → ℕ → Type 0} (F : ℕ → ℕ → Type 0) (i j a b : ℕ) → (P a b → F a b) → F i j → Also P i j a b → F a b
also F i j a b f x (old s) = f s
also F i j a b f x (new p q) = subst₂ F (sym p) (sym q) x

-- one more place, after all of P
module _ (P : ℕ → ℕ → Type 0) (A : Matrix) (i j : ℕ) (after : (a b : ℕ) → P a b → Precedes a b i j) where
  better-none : Chosen P A none → Chosen (Also P i j) A (better A none i j)
  unfolding better
  better-none h = pick (eqb (nat_abs (A i j)) 0) refl
    where
      pick : (t : Bool) → eqb (nat_abs (A i j)) 0 ≡ t → Chosen (Also P i j) A (cond t none (place i j))
      pick true e = λ a b. also (λ a b. A a b ≡ pos 0) i j a b (h a b) (nat_abs-zero (A i j) (eqb-true (nat_abs (A i j)) 0 e))
      pick false e = record {
        here = new refl refl;
        nonzero = λ z. eqb-false (nat_abs (A i j)) 0 e (ap nat_abs z);
        least = λ a b s f. also (λ a b. nat_abs (A i j) ≤ nat_abs (A a b)) i j a b (λ p. absurd (f (h a b p))) (NatL.le_refl (nat_abs (A i j))) s;
        first = λ a b s f e. also (λ a b. Precedes i j a b) i j a b (λ p. absurd (f (h a b p))) (precedes-refl i j) s;
      }

  better-place : (a b : ℕ) → Chosen P A (place a b) → Chosen (Also P i j) A (better A (place a b) i j)
  unfolding better
  better-place a b h = pick (eqb (nat_abs (A i j)) 0) (ltb (nat_abs (A i j)) (nat_abs (A a b))) refl refl
    where
      stays : (A i j ≢ pos 0 → nat_abs (A a b) ≤ nat_abs (A i j)) → Best (Also P i j) A a b
      stays l = record {
        here = old h.here;
        nonzero = h.nonzero;
        least = λ c d. also (λ c d. A c d ≢ pos 0 → nat_abs (A a b) ≤ nat_abs (A c d)) i j c d (h.least c d) l;
        first =
            λ c d.
            also (λ c d. A c d ≢ pos 0 → nat_abs (A c d) ≡ nat_abs (A a b) → Precedes a b c d) i j c d
            (h.first c d)
            (λ f e. after a b h.here);
      }

      pick :
          (t u : Bool) → eqb (nat_abs (A i j)) 0 ≡ t → ltb (nat_abs (A i j)) (nat_abs (A a b)) ≡ u
          → Chosen (Also P i j) A (cond (not t && u) (place i j) (place a b))
      pick true true e l = stays (λ f. absurd (f (nat_abs-zero (A i j) (eqb-true (nat_abs (A i j)) 0 e))))
      pick true false e l = stays (λ f. ltb-false (nat_abs (A i j)) (nat_abs (A a b)) l)
      pick false false e l = stays (λ f. ltb-false (nat_abs (A i j)) (nat_abs (A a b)) l)
      pick false true e l = record {
        here = new refl refl;
        nonzero = λ z. eqb-false (nat_abs (A i j)) 0 e (ap nat_abs z);
        least =
            λ c d.
            also (λ c d. A c d ≢ pos 0 → nat_abs (A i j) ≤ nat_abs (A c d)) i j c d
            (λ p f. omega (arith, h.least c d p f, less))
            (λ f. NatL.le_refl (nat_abs (A i j)));
        first =
            λ c d.
            also (λ c d. A c d ≢ pos 0 → nat_abs (A c d) ≡ nat_abs (A i j) → Precedes i j c d) i j c d
            (λ p f e. absurd (omega (arith, h.least c d p f, less)))
            (λ f e. precedes-refl i j);
      }
        where
          less : nat_abs (A i j) < nat_abs (A a b)
          less = ltb-true (nat_abs (A i j)) (nat_abs (A a b)) l

  better-chosen : (c : Choice) → Chosen P A c → Chosen (Also P i j) A (better A c i j)
  better-chosen none h = better-none h
  better-chosen (place a b) h = better-place a b h

-- ---- the scan

-- Seen when the scan has come to (r, s): the places before it in rows from k on and columns k to n - 1.
record Passed (n k r s a b : ℕ) : Type 0 where
  row_from : k ≤ a
  column-from : k ≤ b
  column-below : b < n
  before : Precedes a (suc b) r s

-- the places of the block
pub record Block (m n k a b : ℕ) : Type 0 where
  pub row_from : k ≤ a
  pub row_below : a < m
  pub column-from : k ≤ b
  pub column-below : b < n

module _ (n k : ℕ) (A : Matrix) where
  next-column : (i j a b : ℕ) → k ≤ i → k ≤ j → j < n → Also (Passed n k i j) i j a b ↔ Passed n k i (suc j) a b
  next-column i j a b ki kj jn = (forth, back)
    where
      weaken : Precedes a (suc b) i j → Precedes a (suc b) i (suc j)
      weaken (higher h) = higher h
      weaken (left e h) = left e (omega arith)

      forth : Also (Passed n k i j) i j a b → Passed n k i (suc j) a b
      forth (old s) = record { row_from = s.row_from; column-from = s.column-from; column-below = s.column-below; before = weaken s.before }
      forth (new p q) = record { row_from = omega arith; column-from = omega arith; column-below = omega arith; before = left p (omega arith) }

      back : Passed n k i (suc j) a b → Also (Passed n k i j) i j a b
      back s = pick s.before
        where
          before' : Precedes a (suc b) i j → Passed n k i j a b
          before' h = record { row_from = s.row_from; column-from = s.column-from; column-below = s.column-below; before = h }

          pick : Precedes a (suc b) i (suc j) → Also (Passed n k i j) i j a b
          pick (higher h) = old (before' (higher h))
          pick (left e h) = elim (dec_lt b j) [ yes l ↦ old (before' (left e l)) | no f ↦ new e (omega arith) ]

  along_row-chosen :
      (i more j : ℕ) (best : Choice) → k ≤ i → k ≤ j → j + more ≡ k + (n - k) → Chosen (Passed n k i j) A best
      → Chosen (Passed n k i (k + (n - k))) A (along_row A i more j best)
  unfolding along_row
  along_row-chosen i zero j best ki kj e h = subst (λ (c : ℕ). Chosen (Passed n k i c) A best) (sym (NatL.add-zero j) ∙ e) h
  along_row-chosen i (suc more) j best ki kj e h =
      along_row-chosen i more (suc j) (better A best i j) ki (omega arith) (omega arith)
      (chosen-cong (Also (Passed n k i j) i j) (Passed n k i (suc j)) A (better A best i j)
      (λ a b. next-column i j a b ki kj (omega arith))
      (better-chosen (Passed n k i j) A i j earlier best h))
    where
      weaken : (a b : ℕ) → Precedes a (suc b) i j → Precedes a b i j
      weaken a b (higher l) = higher l
      weaken a b (left p l) = left p (omega arith)

      earlier : (a b : ℕ) → Passed n k i j a b → Precedes a b i j
      earlier a b s = weaken a b s.before

  next_row : (i a b : ℕ) → Passed n k i (k + (n - k)) a b ↔ Passed n k (suc i) k a b
  next_row i a b = (forth, back)
    where
      forth : Passed n k i (k + (n - k)) a b → Passed n k (suc i) k a b
      forth s = record { row_from = s.row_from; column-from = s.column-from; column-below = s.column-below; before = weaken s.before }
        where
          weaken : Precedes a (suc b) i (k + (n - k)) → Precedes a (suc b) (suc i) k
          weaken (higher h) = higher (omega arith)
          weaken (left e h) = higher (omega arith)

      back : Passed n k (suc i) k a b → Passed n k i (k + (n - k)) a b
      back s = record { row_from = s.row_from; column-from = s.column-from; column-below = s.column-below; before = pick s.before }
        where
          pick : Precedes a (suc b) (suc i) k → Precedes a (suc b) i (k + (n - k))
          pick (higher h) = elim (dec_lt a i) [ yes l ↦ higher l | no f ↦ left (omega arith) (omega (arith, s.column-below, s.column-from)) ]
          pick (left e h) = absurd (omega (arith, s.column-from))

  down_rows-chosen :
      (more i : ℕ) (best : Choice) → k ≤ i → Chosen (Passed n k i k) A best
      → Chosen (Passed n k (i + more) k) A (down_rows A k (n - k) more i best)
  unfolding down_rows
  down_rows-chosen zero i best ki h = subst (λ (r : ℕ). Chosen (Passed n k r k) A best) (sym (NatL.add-zero i)) h
  down_rows-chosen (suc more) i best ki h =
      subst (λ (r : ℕ). Chosen (Passed n k r k) A (down_rows A k (n - k) more (suc i) (along_row A i (n - k) k best))) (omega arith)
      (down_rows-chosen more (suc i) (along_row A i (n - k) k best) (omega arith)
      (chosen-cong (Passed n k i (k + (n - k))) (Passed n k (suc i) k) A (along_row A i (n - k) k best)
      (λ a b. next_row i a b)
      (along_row-chosen i (n - k) k best ki (NatL.le_refl k) refl h)))

pub release1-chosen : (m n k : ℕ) (A : Matrix) → Chosen (Block m n k) A (release1 m n k A)
unfolding release1
release1-chosen m n k A =
    chosen-cong (Passed n k (k + (m - k)) k) (Block m n k) A (release1 m n k A) end (down_rows-chosen n k A (m - k) k none (NatL.le_refl k) start)
  where
    start : (a b : ℕ) → Passed n k k k a b → A a b ≡ pos 0
    start a b s = pick s.before
      where
        pick : Precedes a (suc b) k k → A a b ≡ pos 0
        pick (higher h) = absurd (omega (arith, s.row_from))
        pick (left e h) = absurd (omega (arith, s.column-from))

    end : (a b : ℕ) → Passed n k (k + (m - k)) k a b ↔ Block m n k a b
    end a b = (forth, back)
      where
        forth : Passed n k (k + (m - k)) k a b → Block m n k a b
        forth s = record { row_from = s.row_from; row_below = pick s.before; column-from = s.column-from; column-below = s.column-below }
          where
            pick : Precedes a (suc b) (k + (m - k)) k → a < m
            pick (higher h) = omega (arith, s.row_from)
            pick (left e h) = absurd (omega (arith, s.column-from))

        back : Block m n k a b → Passed n k (k + (m - k)) k a b
        back s = record { row_from = s.row_from; column-from = s.column-from; column-below = s.column-below; before = higher (omega (arith, s.row_from, s.row_below)) }
