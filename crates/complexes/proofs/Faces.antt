-- A complex is closed under leaving out any vertices but not all, so it is a simplicial complex in the usual sense: closed-sublist.
-- Conversely, sections that are closed so hold every face: sublists-closed. `Subsets` has the same for subsets.
use mathlib.Core.Path.{◌≡◌, refl, sym, ap, ◌∙◌}
use mathlib.Core.List.{[], ◌∷◌}
use Prim.Native.Nat.{ℕ, zero, suc, ◌<◌, ◌≤◌, ◌-◌}
use native.Mathlib.Omega.{arith}
use lib.ListN.{length}
use Rattle.complexes.specs.Cell.{Cell, without, Listed, Sublist, none, skip, keep}
use Rattle.complexes.proofs.FaceLaws.{length_without}
use Rattle.complexes.specs.Complex.{Sections, section, count, cell, Complex}

pub Sublist-refl : (c : Cell) → Sublist c c
Sublist-refl [] = none
Sublist-refl (v ∷ c) = keep v (Sublist-refl c)

pub Sublist-length : {d c : Cell} → Sublist d c → length d ≤ length c
Sublist-length none = omega arith
Sublist-length (skip v s) = omega (arith, Sublist-length s)
Sublist-length (keep v s) = omega (arith, Sublist-length s)

-- a face is a sublist
pub without-Sublist : (j : ℕ) (c : Cell) → Sublist (without j c) c
unfolding without
without-Sublist j [] = none
without-Sublist zero (v ∷ c) = skip v (Sublist-refl c)
without-Sublist (suc j) (v ∷ c) = keep v (without-Sublist j c)

-- a sublist is the whole cell or a sublist of a face
data Split (d c : Cell) : Type 0 where
  whole : d ≡ c → Split d c
  face : (j : ℕ) → j < length c → Sublist d (without j c) → Split d c

split-keep : (v : ℕ) {d c : Cell} → Split d c → Split (v ∷ d) (v ∷ c)
unfolding without
split-keep v (whole e) = whole (cc)
split-keep v (face j l s) = face (suc j) (omega arith) (keep v s)

split : {d c : Cell} → Sublist d c → Split d c
unfolding without
split none = whole refl
split (skip v s) = face 0 (omega arith) s
split (keep v s) = split-keep v (split s)

-- every cell that is a nonempty sublist of a listed one is listed in the section of its own dimension
abbrev pub SublistClosed : Sections → Type 0
SublistClosed K = (p i : ℕ) (d : Cell) → i < count K p → 0 < length d → Sublist d (cell K p i) → Listed d (section K (length d - 1))

pub closed-sublist : {top limit : ℕ} {K : Sections} → Complex top limit K → SublistClosed K
closed-sublist {K} complex p i d a n s = go p i a s
  where
    -- the whole cell stands where it stands
    itself : (p i : ℕ) → i < count K p → d ≡ cell K p i → Listed d (section K (length d - 1))
    itself p i a e =
        let size : length d - 1 ≡ p = omega (arith, ap length e, complex.sized p i a) in
        rw size (record { place = i; below = a; is = sym e })

    In : ℕ → Type 0
    In p = (i : ℕ) → i < count K p → Sublist d (cell K p i) → Listed d (section K (length d - 1))

    at_zero : (i : ℕ) → i < count K 0 → Split d (cell K 0 i) → Listed d (section K (length d - 1))
    at_zero i a (whole e) = itself 0 i a e
    at_zero i a (face j l r) = absurd (omega (arith, Sublist-length r, length_without j (cell K 0 i) l, complex.sized 0 i a))

    at_suc : (p i : ℕ) → i < count K (suc p) → In p → Split d (cell K (suc p) i) → Listed d (section K (length d - 1))
    at_suc p i a h (whole e) = itself (suc p) i a e
    at_suc p i a h (face j l r) =
        let found = complex.closed p i j a (omega (arith, complex.sized (suc p) i a)) in
        h found.place found.below (rw found.is r)

    go : (p : ℕ) → In p
    go zero i a s = at_zero i a (split s)
    go (suc p) i a s = at_suc p i a (go p) (split s)

-- what a complex asks of faces follows from the same of sublists
pub sublists-closed : (K : Sections) → ((p i : ℕ) → i < count K p → length (cell K p i) ≡ suc p) → SublistClosed K
    → (p i j : ℕ) → i < count K (suc p) → j < suc (suc p) → Listed (without j (cell K (suc p) i)) (section K p)
sublists-closed K sized closed p i j a b =
    rw size at (closed (suc p) i (without j c) a (omega (arith, shorter)) (without-Sublist j c))
  where
    c : Cell
    c = cell K (suc p) i

    shorter : suc (length (without j c)) ≡ suc (suc p)
    shorter = length_without j c (omega (arith, sized (suc p) i a)) ∙ sized (suc p) i a

    size : length (without j c) - 1 ≡ p
    size = omega (arith, shorter)
