-- The order of the cells of a section. `precedes` is a strict order: precedes-irrefl, precedes-trans; two cells of equal length
-- are equal or one precedes the other: precedes-total. In a list whose neighbours rise, cells rise from any place to any later one
-- (ordered-precedes), so a cell stands at one place at most (ordered-unique).
use mathlib.Core.Path.{◌≡◌, refl, sym}
use mathlib.Core.Bool.{Bool, true, false, and-eq-true_iff, or-true, true≢false}
use mathlib.Core.List.{List, [], ◌∷◌}
use Prim.Native.Nat.{ℕ, zero, suc, ◌<◌}
use native.Mathlib.Omega.{arith}
use native.Mathlib.Decide.{ℕ_discrete, dec_lt}
use borrow.Author.Tests.{eqb-true, eq-eqb, ltb-true, lt-ltb}
use lib.Dec.{eqb, ltb}
use lib.ListN.{length, get_or}
use Rattle.complexes.specs.Cell.{Cell, precedes}

-- what `precedes (v ∷ c) (w ∷ d)` says: the first vertices rise, or they are equal and the rest decides
pub data Precedes (v w : ℕ) (c d : Cell) : Type 0 where
  first : v < w → Precedes v w c d
  next : v ≡ w → precedes c d ≡ true → Precedes v w c d

pub precedes-true : (v w : ℕ) (c d : Cell) → precedes (v ∷ c) (w ∷ d) ≡ true → Precedes v w c d
unfolding precedes
precedes-true v w c d e = go (ltb v w) refl
  where
    go : (b : Bool) → ltb v w ≡ b → Precedes v w c d
    go true l = first (ltb-true v w l)
    go false l =
        let both = (and-eq-true_iff (eqb v w) (precedes c d)).0 (rw l at e) in
        next (eqb-true v w both.0) both.1

pub precedes-first : (v w : ℕ) (c d : Cell) → v < w → precedes (v ∷ c) (w ∷ d) ≡ true
unfolding precedes
precedes-first v w c d l = rw (lt-ltb v w l)

pub precedes-next : (v w : ℕ) (c d : Cell) → v ≡ w → precedes c d ≡ true → precedes (v ∷ c) (w ∷ d) ≡ true
unfolding precedes
precedes-next v w c d q e = rw (eq-eqb v w q, e) (or-true (ltb v w))

pub precedes-irrefl : (c : Cell) → precedes c c ≡ true → ⊥
unfolding precedes
precedes-irrefl [] e = true≢false (sym e)
precedes-irrefl (v ∷ c) e = go (precedes-true v v c c e) (precedes-irrefl c)
  where
    go : Precedes v v c c → (precedes c c ≡ true → ⊥) → ⊥
    go (first l) r = omega arith
    go (next q p) r = r p

pub precedes-trans : (a b c : Cell) → precedes a b ≡ true → precedes b c ≡ true → precedes a c ≡ true
unfolding precedes
precedes-trans [] [] c p q = q
precedes-trans [] (v ∷ b) [] p q = q
precedes-trans [] (v ∷ b) (w ∷ c) p q = refl
precedes-trans (u ∷ a) [] c p q = absurd (true≢false (sym p))
precedes-trans (u ∷ a) (v ∷ b) [] p q = q
precedes-trans (u ∷ a) (v ∷ b) (w ∷ c) p q = go (precedes-true u v a b p) (precedes-true v w b c q) (precedes-trans a b c)
  where
    go : Precedes u v a b → Precedes v w b c → (precedes a b ≡ true → precedes b c ≡ true → precedes a c ≡ true) → precedes (u ∷ a) (w ∷ c) ≡ true
    go (first k) (first l) r = precedes-first u w a c (omega arith)
    go (first k) (next l m) r = precedes-first u w a c (omega arith)
    go (next k m) (first l) r = precedes-first u w a c (omega arith)
    go (next k m) (next l n) r = precedes-next u w a c (omega arith) (r m n)

-- how two cells stand to each other
pub data Compared (c d : Cell) : Type 0 where
  equal : c ≡ d → Compared c d
  before : precedes c d ≡ true → Compared c d
  after : precedes d c ≡ true → Compared c d

pub precedes-total : (c d : Cell) → length c ≡ length d → Compared c d
precedes-total [] [] e = equal refl
precedes-total [] (w ∷ d) e = absurd (omega arith)
precedes-total (v ∷ c) [] e = absurd (omega arith)
precedes-total (v ∷ c) (w ∷ d) e = go (dec_lt v w) (dec_lt w v) (precedes-total c d (omega arith))
  where
    go : Dec (v < w) → Dec (w < v) → Compared c d → Compared (v ∷ c) (w ∷ d)
    go (yes l) s r = before (precedes-first v w c d l)
    go (no l) (yes s) r = after (precedes-first w v d c s)
    go (no l) (no s) (equal q) = let h : v ≡ w = omega arith in equal (cc)
    go (no l) (no s) (before p) = before (precedes-next v w c d (omega arith) p)
    go (no l) (no s) (after p) = after (precedes-next w v d c (omega arith) p)

-- a list whose neighbours rise
module _ (l : List Cell) (rise : (i : ℕ) → suc i < length l → precedes (get_or l i []) (get_or l (suc i) []) ≡ true) where
  pub ordered-precedes : (i j : ℕ) → i < j → j < length l → precedes (get_or l i []) (get_or l j []) ≡ true
  ordered-precedes i zero h b = absurd (omega arith)
  ordered-precedes i (suc j) h b = go (ℕ_discrete i j) (λ k. ordered-precedes i j k (omega arith))
    where
      go : Dec (i ≡ j) → (i < j → precedes (get_or l i []) (get_or l j []) ≡ true) → precedes (get_or l i []) (get_or l (suc j) []) ≡ true
      go (yes q) r = rw q (rise j b)
      go (no q) r = precedes-trans (get_or l i []) (get_or l j []) (get_or l (suc j) []) (r (omega arith)) (rise j b)

  pub ordered-unique : (i j : ℕ) → i < length l → j < length l → get_or l i [] ≡ get_or l j [] → i ≡ j
  ordered-unique i j a b e = go (dec_lt i j) (dec_lt j i)
    where
      go : Dec (i < j) → Dec (j < i) → i ≡ j
      go (yes h) s = absurd (precedes-irrefl (get_or l j []) (rw e at (ordered-precedes i j h b)))
      go (no h) (yes s) = absurd (precedes-irrefl (get_or l j []) (rw e at (ordered-precedes j i s a)))
      go (no h) (no s) = omega arith
