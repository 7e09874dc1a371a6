-- The cell with given vertices.
--     cell_with-rises, cell_with-vertex          it rises, and its vertices are the given ones
--     cell_with-unique                          no other cell is so
--     cell_with-length                          it has no more vertices than were given
--     member-vertex, member-false              `member` is `Vertex`
--     repeats-length, cell_with-whole           a vertex stands twice exactly where the cell has fewer vertices than were given
use mathlib.Core.Path.{◌≡◌, refl, sym, ap, ◌∙◌}
use mathlib.Core.Logic.{◌↔◌, ◌⊎◌, inl, inr, ⊎_map}
use mathlib.Core.Bool.{Bool, true, false, not, ◌||◌, or-true, true≢false}
use mathlib.Core.List.{List, [], ◌∷◌}
use Prim.Native.Nat.{ℕ, suc, ◌≤◌}
use native.Mathlib.Omega.{arith}
use borrow.Author.Tests.{ltb-true, lt-ltb, eqb-true, eq-eqb, ne_eqb, not-false}
use lib.Dec.{eqb, ltb, eqb-suc-suc}
use lib.ListN.{length, get_or}
use Rattle.complexes.specs.Cell.{Cell, rises, Vertex}
use Rattle.complexes.proofs.CellLaws.{rises-at, rises-of}
use Rattle.closures.specs.Insert.{insert, insert_all}
use Rattle.closures.specs.Closure.{cell_with, member, repeats}
use Rattle.closures.specs.Rising.{Rising}
use Rattle.closures.proofs.RisingLaws.{numbers-order, Stands, stands-cons, stands-cases, vertex-stands, rising-unique}
use Rattle.closures.proofs.InsertLaws.{insert-rising, insert-vertex, insert-present, insert-absent}
use Rattle.closures.proofs.InsertLaws.{insert_all-rising, insert_all-vertex, insert_all-adds}

-- ---- rising cells

pub rises-rising : (c : Cell) → rises c ≡ true → Rising ltb 0 c
rises-rising c r i h = lt-ltb (get_or c i 0) (get_or c (suc i) 0) (rises-at c i r h)

pub rising-rises : (c : Cell) → Rising ltb 0 c → rises c ≡ true
rising-rises c r = rises-of c (λ j h. ltb-true (get_or c j 0) (get_or c (suc j) 0) (r j h))

-- cells that rise and have the same vertices are equal
pub rises-unique : (c e : Cell) → rises c ≡ true → rises e ≡ true → ((v : ℕ) → Vertex v c ↔ Vertex v e) → c ≡ e
rises-unique c e r s h = rising-unique ltb numbers-order 0 c e (rises-rising c r) (rises-rising e s) same
  where
    same : (v : ℕ) → Stands 0 v c ↔ Stands 0 v e
    same v = (λ k. vertex-stands.0 ((h v).0 (vertex-stands.1 k)), λ k. vertex-stands.0 ((h v).1 (vertex-stands.1 k)))

vertex-nil : {v : ℕ} → Vertex v [] → ⊥
vertex-nil h = omega (arith, h.below)

-- a vertex of v ∷ c is v or one of c
pub vertex-cons : (v w : ℕ) (c : Cell) → Vertex w (v ∷ c) ↔ ((w ≡ v) ⊎ Vertex w c)
vertex-cons v w c = (
  λ h. ⊎_map (λ e. e) vertex-stands.1 (stands-cases (vertex-stands.0 h)),
  λ h. vertex-stands.1 ((stands-cons v w c).1 (⊎_map (λ e. e) vertex-stands.0 h)),
)

-- ---- the cell

pub cell_with-rises : (vs : List ℕ) → rises (cell_with vs) ≡ true
cell_with-rises vs = rising-rises (cell_with vs) (insert_all-rising ltb numbers-order 0 [] vs (λ i h. absurd (omega arith)))

pub cell_with-vertex : (v : ℕ) (vs : List ℕ) → Vertex v (cell_with vs) ↔ Vertex v vs
cell_with-vertex v vs = (λ h. only ((insert_all-vertex [] vs v).0 h), λ h. (insert_all-vertex [] vs v).1 (inr h))
  where
    only : Vertex v [] ⊎ Vertex v vs → Vertex v vs
    only (inl h) = absurd (vertex-nil h)
    only (inr h) = h

pub cell_with-unique : (c : Cell) (vs : List ℕ) → rises c ≡ true → ((v : ℕ) → Vertex v c ↔ Vertex v vs) → c ≡ cell_with vs
cell_with-unique c vs r h =
    rises-unique c (cell_with vs) r (cell_with-rises vs) (λ v. (λ k. (cell_with-vertex v vs).1 ((h v).0 k), λ k. (h v).1 ((cell_with-vertex v vs).0 k)))

pub cell_with-length : (vs : List ℕ) → length (cell_with vs) ≤ length vs
cell_with-length vs = omega (arith, insert_all-adds ltb [] vs)

-- ---- a vertex that stands twice

pub member-vertex : (v : ℕ) (vs : List ℕ) → (member v vs ≡ true) ↔ Vertex v vs
unfolding member
member-vertex v [] = (λ e. absurd (true≢false (sym e)), λ h. absurd (vertex-nil h))
member-vertex v (w ∷ vs) = (
  λ e. (vertex-cons w v vs).1 (to (member-vertex v vs).0 (eqb v w) refl e),
  λ h. back (member-vertex v vs).1 ((vertex-cons w v vs).0 h),
)
  where
    to : (member v vs ≡ true → Vertex v vs) → (b : Bool) → eqb v w ≡ b → (b || member v vs) ≡ true → (v ≡ w) ⊎ Vertex v vs
    to r true q e = inl (eqb-true v w q)
    to r false q e = inr (r e)

    back : (Vertex v vs → member v vs ≡ true) → (v ≡ w) ⊎ Vertex v vs → (eqb v w || member v vs) ≡ true
    back r (inl q) = rw (eq-eqb v w q)
    back r (inr h) = rw (r h) (or-true (eqb v w))

pub member-false : (v : ℕ) (vs : List ℕ) → member v vs ≡ false → Vertex v vs → ⊥
member-false v vs e h = true≢false (cc ((member-vertex v vs).1 h))

-- with one more vertex
cell_with-cons : (v : ℕ) (vs : List ℕ) → cell_with (v ∷ vs) ≡ insert ltb v (cell_with vs)
cell_with-cons v vs =
    sym (cell_with-unique (insert ltb v (cell_with vs)) (v ∷ vs) rise (λ w. (
      λ h. (vertex-cons v w vs).1 (⊎_map (λ e. e) (cell_with-vertex w vs).0 ((insert-vertex v w (cell_with vs)).0 h)),
      λ h. (insert-vertex v w (cell_with vs)).1 (⊎_map (λ e. e) (cell_with-vertex w vs).1 ((vertex-cons v w vs).0 h)),
    )))
  where
    rise : rises (insert ltb v (cell_with vs)) ≡ true
    rise =
        rising-rises
        (insert ltb v (cell_with vs))
        (insert-rising ltb numbers-order 0 v (cell_with vs) (rises-rising (cell_with vs) (cell_with-rises vs)))

cell_with-nil : cell_with [] ≡ []
unfolding insert_all
cell_with-nil = refl

pub repeats-length : (vs : List ℕ) → repeats vs ≡ not (eqb (length (cell_with vs)) (length vs))
unfolding repeats
repeats-length [] = rw cell_with-nil
repeats-length (v ∷ vs) = rw (cell_with-cons v vs) (go (member v vs) refl (repeats-length vs))
  where
    absent : member v vs ≡ false → Stands 0 v (cell_with vs) → ⊥
    absent m h = member-false v vs m ((cell_with-vertex v vs).0 (vertex-stands.1 h))

    go : (b : Bool) → member v vs ≡ b → repeats vs ≡ not (eqb (length (cell_with vs)) (length vs))
        → (b || repeats vs) ≡ not (eqb (length (insert ltb v (cell_with vs))) (suc (length vs)))
    go true m r =
        let present : Stands 0 v (cell_with vs) = vertex-stands.0 ((cell_with-vertex v vs).1 ((member-vertex v vs).0 m)) in
        rw (
          insert-present ltb numbers-order 0 v (cell_with vs) (rises-rising (cell_with vs) (cell_with-rises vs)) present,
          ne_eqb (length (cell_with vs)) (suc (length vs)) (λ e. omega (arith, cell_with-length vs)),
        )
    go false m r = rw (insert-absent ltb numbers-order 0 v (cell_with vs) (absent m), eqb-suc-suc (length (cell_with vs)) (length vs)) r

pub cell_with-whole : (vs : List ℕ) → (repeats vs ≡ false) ↔ (length (cell_with vs) ≡ length vs)
cell_with-whole vs = (
  λ e. eqb-true (length (cell_with vs)) (length vs) (not-false (eqb (length (cell_with vs)) (length vs)) (sym (repeats-length vs) ∙ e)),
  λ e. repeats-length vs ∙ ap not (eq-eqb (length (cell_with vs)) (length vs) e),
)
