-- The faces of a cell: length_without, get_or-without-below, get_or-without-above, without-parts, rises-without, without-injective (the faces
-- of a rising cell differ), and without-without, the exchange law for leaving out two vertices.
use mathlib.Core.Path.{◌≡◌, refl, sym, ap}
use mathlib.Core.Bool.{true}
use mathlib.Core.List.{[], ◌∷◌, ◌++◌}
use Prim.Native.Nat.{ℕ, zero, suc, ◌<◌, ◌≤◌}
use native.Mathlib.Omega.{arith}
use native.Mathlib.Decide.{dec_lt}
use lib.ListN.{length, get_or, take, drop}
use Rattle.complexes.specs.Cell.{Cell, without, rises}
use Rattle.complexes.proofs.CellLaws.{rises-lt, rises-of}

pub length_without : (j : ℕ) (c : Cell) → j < length c → suc (length (without j c)) ≡ length c
unfolding without
length_without j [] l = absurd (omega arith)
length_without zero (v ∷ c) l = refl
length_without (suc j) (v ∷ c) l = ap suc (length_without j c (omega arith))

-- the vertices before the one left out, and those behind it
pub without-parts : (j : ℕ) (c : Cell) → j < length c → without j c ≡ take j c ++ drop (suc j) c
unfolding without
without-parts j [] l = absurd (omega arith)
without-parts zero (v ∷ c) l = refl
without-parts (suc j) (v ∷ c) l = ap (λ (r : Cell). v ∷ r) (without-parts j c (omega arith))

pub get_or-without-below : (j : ℕ) (c : Cell) (t : ℕ) → t < j → get_or (without j c) t 0 ≡ get_or c t 0
unfolding without
get_or-without-below j [] t l = refl
get_or-without-below zero (v ∷ c) t l = absurd (omega arith)
get_or-without-below (suc j) (v ∷ c) zero l = refl
get_or-without-below (suc j) (v ∷ c) (suc t) l = get_or-without-below j c t (omega arith)

pub get_or-without-above : (j : ℕ) (c : Cell) (t : ℕ) → j ≤ t → get_or (without j c) t 0 ≡ get_or c (suc t) 0
unfolding without
get_or-without-above j [] t l = refl
get_or-without-above zero (v ∷ c) t l = refl
get_or-without-above (suc j) (v ∷ c) zero l = absurd (omega arith)
get_or-without-above (suc j) (v ∷ c) (suc t) l = get_or-without-above j c t (omega arith)

pub rises-without : (j : ℕ) (c : Cell) → j < length c → rises c ≡ true → rises (without j c) ≡ true
rises-without j c l e = rises-of (without j c) (λ t h. at t h (dec_lt t j) (dec_lt (suc t) j))
  where
    shorter : suc (length (without j c)) ≡ length c
    shorter = length_without j c l

    at : (t : ℕ) → suc t < length (without j c) → Dec (t < j) → Dec (suc t < j)
        → get_or (without j c) t 0 < get_or (without j c) (suc t) 0
    at t h (yes a) (yes b) =
        rw (get_or-without-below j c t a, get_or-without-below j c (suc t) b)
        (rises-lt c t (suc t) e (omega arith) (omega arith))
    at t h (yes a) (no b) =
        rw (get_or-without-below j c t a, get_or-without-above j c (suc t) (omega arith))
        (rises-lt c t (suc (suc t)) e (omega arith) (omega (arith, shorter)))
    at t h (no a) s =
        rw (get_or-without-above j c t (omega arith), get_or-without-above j c (suc t) (omega arith))
        (rises-lt c (suc t) (suc (suc t)) e (omega arith) (omega (arith, shorter)))

pub without-injective : (c : Cell) (i j : ℕ) → rises c ≡ true → i < length c → j < length c → without i c ≡ without j c → i ≡ j
without-injective c i j e a b q = go (dec_lt i j) (dec_lt j i)
  where
    -- at the lower place one face has the vertex and the other has the next
    distinct : (s t : ℕ) → s < t → t < length c → without s c ≡ without t c → ⊥
    distinct s t l h p =
        let same : get_or c (suc s) 0 ≡ get_or c s 0 = cc (get_or-without-above s c s (omega arith), get_or-without-below t c s l) in
        omega (arith, rises-lt c s (suc s) e (omega arith) (omega arith))

    go : Dec (i < j) → Dec (j < i) → i ≡ j
    go (yes l) s = absurd (distinct i j l b q)
    go (no l) (yes s) = absurd (distinct j i s a (sym q))
    go (no l) (no s) = omega arith

-- leaving out vertex t + 1 and then an earlier one is leaving out the earlier one and then vertex t
pub without-without : (s t : ℕ) (c : Cell) → s ≤ t → without s (without (suc t) c) ≡ without t (without s c)
unfolding without
without-without s t [] l = refl
without-without zero t (v ∷ c) l = refl
without-without (suc s) zero (v ∷ c) l = absurd (omega arith)
without-without (suc s) (suc t) (v ∷ c) l = ap {B = Cell} (λ d. v ∷ d) (without-without s t c (omega arith))
