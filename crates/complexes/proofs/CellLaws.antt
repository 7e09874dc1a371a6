-- The tests on cells decide what they are for.
-- `same` is equality: same_true, eq-same, same_false, ne_same. `listed` is `Listed`: listed-true, Listed-listed.
-- `rises` is a strict rise from place to place: rises-at, rises-lt, rises-of.
use mathlib.Core.Path.{◌≡◌, refl, sym}
use mathlib.Core.Bool.{Bool, true, false, and-eq-true_iff, or-true, true≢false}
use mathlib.Core.List.{List, [], ◌∷◌}
use Prim.Native.Nat.{ℕ, zero, suc, ◌<◌}
use native.Mathlib.Omega.{arith}
use native.Mathlib.Decide.{ℕ_discrete}
use borrow.Author.Tests.{eqb-true, eq-eqb, ltb-true, lt-ltb}
use lib.Dec.{eqb, ltb}
use lib.ListN.{length, get_or}
use Rattle.complexes.specs.Cell.{Cell, same, rises, listed, Listed}

-- ---- equal cells

pub same_true : (c d : Cell) → same c d ≡ true → c ≡ d
unfolding same
same_true [] [] e = refl
same_true [] (w ∷ d) e = cc
same_true (v ∷ c) [] e = cc
same_true (v ∷ c) (w ∷ d) e =
    let both = (and-eq-true_iff (eqb v w) (same c d)).0 e in
    cc (eqb-true v w both.0, same_true c d both.1)

pub same_refl : (c : Cell) → same c c ≡ true
unfolding same
same_refl [] = refl
same_refl (v ∷ c) = rw (eq-eqb v v refl) (same_refl c)

pub eq-same : (c d : Cell) → c ≡ d → same c d ≡ true
eq-same c d e = rw e (same_refl d)

pub same_false : (c d : Cell) → same c d ≡ false → c ≡ d → ⊥
same_false c d e q = true≢false (cc (eq-same c d q))

pub ne_same : (c d : Cell) → (c ≡ d → ⊥) → same c d ≡ false
ne_same c d h = go (same c d) refl
  where
    go : (b : Bool) → same c d ≡ b → b ≡ false
    go true e = absurd (h (same_true c d e))
    go false e = refl

pub cell-discrete : (c d : Cell) → Dec (c ≡ d)
cell-discrete c d = go (same c d) refl
  where
    go : (b : Bool) → same c d ≡ b → Dec (c ≡ d)
    go true e = yes (same_true c d e)
    go false e = no (same_false c d e)

-- ---- cells in a list

pub Listed-next : {c : Cell} (d : Cell) {l : List Cell} → Listed c l → Listed c (d ∷ l)
Listed-next d h = record { place = suc h.place; below = omega arith; is = h.is }

pub listed-true : (c : Cell) (l : List Cell) → listed c l ≡ true → Listed c l
unfolding listed
listed-true c [] e = absurd (true≢false (sym e))
listed-true c (d ∷ l) e = go (same c d) refl (listed-true c l)
  where
    go : (b : Bool) → same c d ≡ b → (listed c l ≡ true → Listed c l) → Listed c (d ∷ l)
    go true s r = record { place = 0; below = omega arith; is = sym (same_true c d s) }
    go false s r = Listed-next d (r (cc))

pub Listed-listed : {c : Cell} {l : List Cell} → Listed c l → listed c l ≡ true
unfolding listed
Listed-listed {c} {l} h = at l h.place h.below h.is
  where
    at : (l : List Cell) (i : ℕ) → i < length l → get_or l i [] ≡ c → listed c l ≡ true
    at [] i b e = absurd (omega arith)
    at (d ∷ l) zero b e = rw (eq-same c d (sym e))
    at (d ∷ l) (suc i) b e = rw (at l i (omega arith) e) (or-true (same c d))

-- ---- rising vertices

-- each vertex is below the next
pub rises-at : (c : Cell) (j : ℕ) → rises c ≡ true → suc j < length c → get_or c j 0 < get_or c (suc j) 0
unfolding rises
rises-at [] j e l = absurd (omega arith)
rises-at (v ∷ []) j e l = absurd (omega arith)
rises-at (v ∷ w ∷ c) zero e l = ltb-true v w ((and-eq-true_iff (ltb v w) (rises (w ∷ c))).0 e).0
rises-at (v ∷ w ∷ c) (suc j) e l = rises-at (w ∷ c) j ((and-eq-true_iff (ltb v w) (rises (w ∷ c))).0 e).1 (omega arith)

-- a vertex is below every later one
pub rises-lt : (c : Cell) (i j : ℕ) → rises c ≡ true → i < j → j < length c → get_or c i 0 < get_or c j 0
rises-lt c i zero e h l = absurd (omega arith)
rises-lt c i (suc j) e h l = go (ℕ_discrete i j) (λ k. rises-lt c i j e k (omega arith))
  where
    next : get_or c j 0 < get_or c (suc j) 0
    next = rises-at c j e l

    go : Dec (i ≡ j) → (i < j → get_or c i 0 < get_or c j 0) → get_or c i 0 < get_or c (suc j) 0
    go (yes q) r = rw q next
    go (no q) r = omega (arith, r (omega arith), next)

pub rises-of : (c : Cell) → ((j : ℕ) → suc j < length c → get_or c j 0 < get_or c (suc j) 0) → rises c ≡ true
unfolding rises
rises-of [] h = refl
rises-of (v ∷ []) h = refl
rises-of (v ∷ w ∷ c) h = rw (lt-ltb v w (h 0 (omega arith))) (rises-of (w ∷ c) (λ j l. h (suc j) (omega arith)))
