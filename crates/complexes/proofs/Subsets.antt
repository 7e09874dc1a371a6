-- For cells with rising vertices a sublist is the same as a subset of the vertices: sublist-subset, subset-sublist. So a complex holds every
-- nonempty subset of each of its cells: closed-subset.
use mathlib.Core.Path.{◌≡◌, refl, sym}
use mathlib.Core.Bool.{true}
use mathlib.Core.List.{[], ◌∷◌}
use Prim.Native.Nat.{ℕ, zero, suc, ◌<◌, ◌-◌}
use native.Mathlib.Omega.{arith}
use lib.ListN.{length, get_or}
use Rattle.complexes.specs.Cell.{Cell, rises, Listed, Vertex, Subset, Sublist, none, skip, keep}
use Rattle.complexes.proofs.CellLaws.{rises-at, rises-lt, rises-of}
use Rattle.complexes.specs.Complex.{Sections, section, count, cell, Complex}
use Rattle.complexes.proofs.Faces.{closed-sublist}

-- a vertex of w ∷ c is w or one of c
data Either (v w : ℕ) (c : Cell) : Type 0 where
  here : v ≡ w → Either v w c
  there : Vertex v c → Either v w c

vertex-cases : (v w : ℕ) (c : Cell) → Vertex v (w ∷ c) → Either v w c
vertex-cases v w c h = go h.place h.below h.is
  where
    go : (i : ℕ) → i < length (w ∷ c) → get_or (w ∷ c) i 0 ≡ v → Either v w c
    go zero l e = here (sym e)
    go (suc i) l e = there (record { place = i; below = omega arith; is = e })

vertex-here : (v : ℕ) (c : Cell) → Vertex v (v ∷ c)
vertex-here v c = record { place = 0; below = omega arith; is = refl }

vertex-there : (v w : ℕ) (c : Cell) → Vertex v c → Vertex v (w ∷ c)
vertex-there v w c h = record { place = suc h.place; below = omega arith; is = h.is }

pub sublist-subset : {d c : Cell} → Sublist d c → Subset d c
sublist-subset none v h = h
sublist-subset (skip {c = c} w s) v h = vertex-there v w c (sublist-subset s v h)
sublist-subset (keep {d = d} {c = c} w s) v h = go (vertex-cases v w d h) (sublist-subset s v)
  where
    go : Either v w d → (Vertex v d → Vertex v c) → Vertex v (w ∷ c)
    go (here e) r = rw e (vertex-here w c)
    go (there k) r = vertex-there v w c (r k)

-- ---- rising cells

rises-tail : (v : ℕ) (c : Cell) → rises (v ∷ c) ≡ true → rises c ≡ true
rises-tail v c e = rises-of c (λ j l. rises-at (v ∷ c) (suc j) e (omega arith))

-- the first vertex is below the others
rises-head : (v w : ℕ) (c : Cell) → rises (v ∷ c) ≡ true → Vertex w c → v < w
rises-head v w c e h = omega (arith, rises-lt (v ∷ c) 0 (suc h.place) e (omega arith) (omega arith))

-- a subset of v ∷ c without v is one of c
subset-rest : (v : ℕ) (d c : Cell) → Subset d (v ∷ c) → ((w : ℕ) → Vertex w d → v < w) → Subset d c
subset-rest v d c h above w k = go (vertex-cases w v c (h w k))
  where
    go : Either w v c → Vertex w c
    go (here e) = absurd (omega (arith, above w k))
    go (there r) = r

pub subset-sublist : (d c : Cell) → rises d ≡ true → rises c ≡ true → Subset d c → Sublist d c
subset-sublist [] [] p q h = none
subset-sublist (w ∷ d) [] p q h = absurd (omega (arith, (h w (vertex-here w d)).below))
subset-sublist [] (v ∷ c) p q h = skip v (subset-sublist [] c p (rises-tail v c q) (λ w k. absurd (omega (arith, k.below))))
subset-sublist (w ∷ d) (v ∷ c) p q h =
    go
    (vertex-cases w v c (h w (vertex-here w d)))
    (subset-sublist d c (rises-tail w d p) (rises-tail v c q))
    (subset-sublist (w ∷ d) c p (rises-tail v c q))
  where
    go : Either w v c → (Subset d c → Sublist d c) → (Subset (w ∷ d) c → Sublist (w ∷ d) c) → Sublist (w ∷ d) (v ∷ c)
    go (here e) r s = rw e (keep v (r (subset-rest v d c (λ u k. h u (vertex-there u w d k)) (λ u k. rw (← e) (rises-head w u d p k)))))
    go (there k) r s = skip v (s (subset-rest v (w ∷ d) c h above))
      where
        above : (u : ℕ) → Vertex u (w ∷ d) → v < u
        above u l = at (vertex-cases u w d l)
          where
            at : Either u w d → v < u
            at (here e) = rw e (rises-head v w c q k)
            at (there m) = omega (arith, rises-head v w c q k, rises-head w u d p m)

pub closed-subset : {top limit : ℕ} {K : Sections} → Complex top limit K → (p i : ℕ) (d : Cell) → i < count K p → 0 < length d
    → rises d ≡ true → Subset d (cell K p i) → Listed d (section K (length d - 1))
closed-subset {K} complex p i d a n e h =
    closed-sublist complex p i d a n (subset-sublist d (cell K p i) e (complex.rising p i a) h)
