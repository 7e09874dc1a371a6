-- The sections of a closure, for any cells.
--     own_section-listed, own_section-rising     a section's own cells are the cells of its dimension, and rise
--     own_section-snoc, own_section-skip         one more cell, of this dimension or of another
--     own_section-append, own_section-grows      more cells, with which the section is no shorter
--     IsFace, faces_of-listed                   what stands among the faces of cells
--     faces_of-snoc                             one more cell
--     closed_section-part, part-closed_section   a closed section lists the sublists of the cells that have its number of vertices (`Part`)
--     closed_section-rising                     it rises
--     own_section-closed_section                 its own cells are no more than all
use mathlib.Core.Path.{◌≡◌, refl, sym, ap, ◌∙◌}
use mathlib.Core.Logic.{◌↔◌, ◌⊎◌, inl, inr}
use mathlib.Core.List.{List, [], ◌∷◌, ◌++◌, append-nil, append_assoc}
use Prim.Native.Nat.{ℕ, zero, suc, ◌+◌, ◌≤◌, ◌<◌}
use native.Mathlib.Omega.{arith}
use native.Mathlib.Decide.{ℕ_discrete, dec_lt}
use borrow.Author.Tests.{eq-eqb, ne_eqb}
use lib.ListN.{length}
use Rattle.lists.specs.Tabulate.{tabulate}
use Rattle.lists.proofs.TabulateLaws.{length-tabulate, get_or-tabulate}
use Rattle.complexes.specs.Cell.{Cell, without, precedes, Listed, Sublist}
use Rattle.complexes.proofs.CellLaws.{Listed-next}
use Rattle.complexes.proofs.FaceLaws.{length_without}
use Rattle.complexes.proofs.Faces.{Sublist-refl, without-Sublist}
use Rattle.closures.specs.Insert.{insert, insert_all}
use Rattle.closures.specs.Closure.{of_dimension, own_section, faces_of, closed_section}
use Rattle.closures.proofs.RisingLaws.{Stands, stands-cons, stands-cases, stands_here, stands-there, stands-nil, stands-append, listed-stands}
use Rattle.closures.specs.Rising.{Rising}
use Rattle.closures.proofs.RisingLaws.{cells-order}
use Rattle.closures.proofs.InsertLaws.{insert_all-listed, insert_all-rising, insert_all-grows, insert_all-append}
use Rattle.closures.proofs.SublistLaws.{Sublist-trans, Sublist-whole, Widened, widen}

-- ---- the cells of a dimension

module _ (p : ℕ) where
  of_dimension-own : (c : Cell) (cells : List Cell) → length c ≡ suc p → of_dimension p (c ∷ cells) ≡ c ∷ of_dimension p cells
  unfolding of_dimension
  of_dimension-own c cells e = rw (eq-eqb (length c) (suc p) e)

  of_dimension-other : (c : Cell) (cells : List Cell) → (length c ≡ suc p → ⊥) → of_dimension p (c ∷ cells) ≡ of_dimension p cells
  unfolding of_dimension
  of_dimension-other c cells h = rw (ne_eqb (length c) (suc p) h)

  of_dimension-nil : of_dimension p [] ≡ []
  unfolding of_dimension
  of_dimension-nil = refl

  pub of_dimension-append : (cells more : List Cell) → of_dimension p (cells ++ more) ≡ of_dimension p cells ++ of_dimension p more
  of_dimension-append [] more = rw of_dimension-nil
  of_dimension-append (c ∷ cells) more = go (ℕ_discrete (length c) (suc p)) (of_dimension-append cells more)
    where
      go : Dec (length c ≡ suc p) → of_dimension p (cells ++ more) ≡ of_dimension p cells ++ of_dimension p more
          → of_dimension p (c ∷ (cells ++ more)) ≡ of_dimension p (c ∷ cells) ++ of_dimension p more
      go (yes e) r = rw (of_dimension-own c (cells ++ more) e, of_dimension-own c cells e, r)
      go (no e) r = rw (of_dimension-other c (cells ++ more) e, of_dimension-other c cells e, r)

  pub of_dimension-stands : (cells : List Cell) (c : Cell) → Stands [] c (of_dimension p cells) ↔ ((length c ≡ suc p) × Stands [] c cells)
  of_dimension-stands [] c = rw of_dimension-nil (λ h. absurd (stands-nil h), λ h. h.1)
  of_dimension-stands (e ∷ cells) c = go (ℕ_discrete (length e) (suc p)) (of_dimension-stands cells c)
    where
      -- what is known of the rest
      Rest : Type 0
      Rest = Stands [] c (of_dimension p cells) ↔ ((length c ≡ suc p) × Stands [] c cells)

      to : length e ≡ suc p → Rest → (c ≡ e) ⊎ Stands [] c (of_dimension p cells) → (length c ≡ suc p) × Stands [] c (e ∷ cells)
      to s r (inl q) = (ap length q ∙ s, (stands-cons e c cells).1 (inl q))
      to s r (inr h) = ((r.0 h).0, stands-there e (r.0 h).1)

      back : length c ≡ suc p → Rest → (c ≡ e) ⊎ Stands [] c cells → Stands [] c (e ∷ of_dimension p cells)
      back s r (inl q) = (stands-cons e c (of_dimension p cells)).1 (inl q)
      back s r (inr h) = stands-there e (r.1 (s, h))

      -- a cell of the dimension stands behind e, which is of another
      behind : (length e ≡ suc p → ⊥) → length c ≡ suc p → (c ≡ e) ⊎ Stands [] c cells → Stands [] c cells
      behind n s (inl q) = absurd (n (ap length (sym q) ∙ s))
      behind n s (inr h) = h

      go : Dec (length e ≡ suc p) → Rest → Stands [] c (of_dimension p (e ∷ cells)) ↔ ((length c ≡ suc p) × Stands [] c (e ∷ cells))
      go (yes s) r = rw (of_dimension-own e cells s) (λ h. to s r (stands-cases h), λ h. back h.0 r (stands-cases h.1))
      go (no n) r =
          rw (of_dimension-other e cells n) (
            λ h. ((r.0 h).0, stands-there e (r.0 h).1),
            λ h. r.1 (h.0, behind n h.0 (stands-cases h.1)),
          )

  pub of_dimension-listed : (cells : List Cell) (c : Cell) → Listed c (of_dimension p cells) ↔ ((length c ≡ suc p) × Listed c cells)
  of_dimension-listed cells c = (
    λ h. let k = (of_dimension-stands cells c).0 (listed-stands.0 h) in (k.0, listed-stands.1 k.1),
    λ h. listed-stands.1 ((of_dimension-stands cells c).1 (h.0, listed-stands.0 h.1)),
  )

  -- ---- a section's own cells

  pub own_section-listed : (cells : List Cell) (c : Cell) → Listed c (own_section cells p) ↔ ((length c ≡ suc p) × Listed c cells)
  own_section-listed cells c = (
    λ h. (of_dimension-listed cells c).0 (only ((insert_all-listed [] (of_dimension p cells) c).0 h)),
    λ h. (insert_all-listed [] (of_dimension p cells) c).1 (inr ((of_dimension-listed cells c).1 h)),
  )
    where
      only : Listed c [] ⊎ Listed c (of_dimension p cells) → Listed c (of_dimension p cells)
      only (inl h) = absurd (stands-nil (listed-stands.0 h))
      only (inr h) = h

  pub own_section-rising : (cells : List Cell) → Rising precedes [] (own_section cells p)
  own_section-rising cells = insert_all-rising precedes cells-order [] [] (of_dimension p cells) (λ i h. absurd (omega arith))

  pub own_section-append : (cells more : List Cell) → own_section (cells ++ more) p ≡ insert_all precedes (own_section cells p) (of_dimension p more)
  own_section-append cells more = rw (of_dimension-append cells more) (insert_all-append precedes [] (of_dimension p cells) (of_dimension p more))

  pub own_section-grows : (cells more : List Cell) → length (own_section cells p) ≤ length (own_section (cells ++ more) p)
  own_section-grows cells more = rw (own_section-append cells more) (insert_all-grows precedes (own_section cells p) (of_dimension p more))

  pub own_section-snoc : (cells : List Cell) (c : Cell) → length c ≡ suc p → own_section (cells ++ (c ∷ [])) p ≡ insert precedes c (own_section cells p)
  unfolding insert_all
  own_section-snoc cells c e = own_section-append cells (c ∷ []) ∙ rw (of_dimension-own c [] e, of_dimension-nil)

  pub own_section-skip : (cells : List Cell) (c : Cell) → (length c ≡ suc p → ⊥) → own_section (cells ++ (c ∷ [])) p ≡ own_section cells p
  unfolding insert_all
  own_section-skip cells c n = own_section-append cells (c ∷ []) ∙ rw (of_dimension-other c [] n, of_dimension-nil)

-- ---- faces

-- e is face number `place` of a listed cell, which has n faces
pub record IsFace (n : ℕ) (cells : List Cell) (e : Cell) : Type 0 where
  pub cell : Cell
  pub listed : Listed cell cells
  pub place : ℕ
  pub below : place < n
  pub is : without place cell ≡ e

-- the faces of one cell
faces-stands : (n : ℕ) (c e : Cell) (cells : List Cell) → Listed c cells → Stands [] e (tabulate n (λ j. without j c)) → IsFace n cells e
faces-stands n c e cells l h =
    let b : h.place < n = omega (arith, h.below, length-tabulate n (λ j. without j c)) in
    record { cell = c; listed = l; place = h.place; below = b; is = sym (get_or-tabulate n (λ j. without j c) h.place [] b) ∙ h.is }

stands-faces : (n : ℕ) (c : Cell) (j : ℕ) → j < n → Stands [] (without j c) (tabulate n (λ j. without j c))
stands-faces n c j b =
    record { place = j; below = omega (arith, length-tabulate n (λ j. without j c)); is = get_or-tabulate n (λ j. without j c) j [] b }

module _ (n : ℕ) where
  pub faces_of-append : (cells more : List Cell) → faces_of n (cells ++ more) ≡ faces_of n cells ++ faces_of n more
  unfolding faces_of
  faces_of-append [] more = refl
  faces_of-append (c ∷ cells) more =
      rw (faces_of-append cells more) (sym (append_assoc (tabulate n (λ j. without j c)) (faces_of n cells) (faces_of n more)))

  -- one cell more
  pub faces_of-snoc : (cells : List Cell) (c : Cell) → faces_of n (cells ++ (c ∷ [])) ≡ faces_of n cells ++ tabulate n (λ j. without j c)
  unfolding faces_of
  faces_of-snoc cells c = faces_of-append cells (c ∷ []) ∙ rw (append-nil (tabulate n (λ j. without j c)))

  listed-face : (cells : List Cell) (e : Cell) → Listed e (faces_of n cells) → IsFace n cells e
  unfolding faces_of
  listed-face [] e h = absurd (stands-nil (listed-stands.0 h))
  listed-face (c ∷ cells) e h = go (listed-face cells e) ((stands-append e (tabulate n (λ j. without j c)) (faces_of n cells)).0 (listed-stands.0 h))
    where
      go : (Listed e (faces_of n cells) → IsFace n cells e) → Stands [] e (tabulate n (λ j. without j c)) ⊎ Stands [] e (faces_of n cells)
          → IsFace n (c ∷ cells) e
      go r (inl k) = faces-stands n c e (c ∷ cells) (listed-stands.1 (stands_here c cells)) k
      go r (inr k) =
          let f = r (listed-stands.1 k) in
          record { cell = f.cell; listed = Listed-next c f.listed; place = f.place; below = f.below; is = f.is }

  face-stands : (cells : List Cell) (c : Cell) → Stands [] c cells → (j : ℕ) → j < n → Stands [] (without j c) (faces_of n cells)
  unfolding faces_of
  face-stands [] c h j b = absurd (stands-nil h)
  face-stands (e ∷ cells) c h j b = go (λ k. face-stands cells c k j b) (stands-cases h)
    where
      go : (Stands [] c cells → Stands [] (without j c) (faces_of n cells)) → (c ≡ e) ⊎ Stands [] c cells
          → Stands [] (without j c) (tabulate n (λ j. without j e) ++ faces_of n cells)
      go r (inl q) = (stands-append (without j c) (tabulate n (λ j. without j e)) (faces_of n cells)).1 (inl (rw q (stands-faces n e j b)))
      go r (inr k) = (stands-append (without j c) (tabulate n (λ j. without j e)) (faces_of n cells)).1 (inr (r k))

  pub faces_of-listed : (cells : List Cell) (e : Cell) → Listed e (faces_of n cells) ↔ IsFace n cells e
  faces_of-listed cells e = (
    listed-face cells e,
    λ f. listed-stands.1 (rw f.is at (face-stands cells f.cell (listed-stands.0 f.listed) f.place f.below)),
  )

-- ---- closed sections

-- e has p + 1 vertices and is a sublist of one of the cells
pub record Part (cells : List Cell) (p : ℕ) (e : Cell) : Type 0 where
  pub sized : length e ≡ suc p
  pub whole : Cell
  pub listed : Listed whole cells
  pub sublist : Sublist e whole

module _ (cells : List Cell) where
  pub closed_section-zero : (p : ℕ) → closed_section cells 0 p ≡ own_section cells p
  unfolding closed_section
  closed_section-zero p = refl

  pub closed_section-suc : (more p : ℕ)
      → closed_section cells (suc more) p ≡ insert_all precedes (own_section cells p) (faces_of (suc (suc p)) (closed_section cells more (suc p)))
  unfolding closed_section
  closed_section-suc more p = refl

  pub closed_section-rising : (more p : ℕ) → Rising precedes [] (closed_section cells more p)
  unfolding closed_section
  closed_section-rising zero p = own_section-rising p cells
  closed_section-rising (suc more) p =
      let new = faces_of (suc (suc p)) (closed_section cells more (suc p)) in
      insert_all-rising precedes cells-order [] (own_section cells p) new (own_section-rising p cells)

  pub own_section-closed_section : (more p : ℕ) → length (own_section cells p) ≤ length (closed_section cells more p)
  unfolding closed_section
  own_section-closed_section zero p = omega arith
  own_section-closed_section (suc more) p = insert_all-grows precedes (own_section cells p) (faces_of (suc (suc p)) (closed_section cells more (suc p)))

  own-part : (p : ℕ) (e : Cell) → Listed e (own_section cells p) → Part cells p e
  own-part p e h = let k = (own_section-listed p cells e).0 h in record { sized = k.0; whole = e; listed = k.1; sublist = Sublist-refl e }

  -- a face of a part is one
  face-part : (p : ℕ) (e : Cell) (j : ℕ) → j < suc (suc p) → Part cells (suc p) e → Part cells p (without j e)
  face-part p e j b h =
      record {
        sized = omega (arith, length_without j e (omega (arith, h.sized)), h.sized);
        whole = h.whole;
        listed = h.listed;
        sublist = Sublist-trans (without-Sublist j e) h.sublist;
      }

  -- the faces of parts, beside the section's own cells
  down-part : (p : ℕ) (above : List Cell) → ((c : Cell) → Listed c above → Part cells (suc p) c)
      → (e : Cell) → Listed e (own_section cells p) ⊎ Listed e (faces_of (suc (suc p)) above) → Part cells p e
  down-part p above parts e (inl h) = own-part p e h
  down-part p above parts e (inr h) =
      let f = (faces_of-listed (suc (suc p)) above e).0 h in
      rw f.is at (face-part p f.cell f.place f.below (parts f.cell f.listed))

  pub closed_section-part : (more p : ℕ) (e : Cell) → Listed e (closed_section cells more p) → Part cells p e
  unfolding closed_section
  closed_section-part zero p e h = own-part p e h
  closed_section-part (suc more) p e h =
      let above = closed_section cells more (suc p) in
      down-part p above (closed_section-part more (suc p)) e ((insert_all-listed (own_section cells p) (faces_of (suc (suc p)) above) e).0 h)

  -- a part that is a whole cell
  part-own : (p : ℕ) (e : Cell) (h : Part cells p e) → length h.whole ≤ suc p → Listed e (own_section cells p)
  part-own p e h b =
      let q : e ≡ h.whole = Sublist-whole h.sublist (omega (arith, h.sized)) in
      (own_section-listed p cells e).1 (h.sized, rw q h.listed)

  -- every other is a face of a part of the next dimension
  up-part : (p : ℕ) (e : Cell) (h : Part cells p e) → suc p < length h.whole → (above : List Cell)
      → ((c : Cell) (k : Part cells (suc p) c) → k.whole ≡ h.whole → Listed c above) → Listed e (faces_of (suc (suc p)) above)
  up-part p e h l above parts =
      (faces_of-listed (suc (suc p)) above e).1 (record {
        cell = w.cell;
        listed = parts w.cell (record { sized = size; whole = h.whole; listed = h.listed; sublist = w.part }) refl;
        place = w.place;
        below = omega (arith, w.below, size);
        is = w.is;
      })
    where
      w : Widened e h.whole
      w = widen h.sublist (omega (arith, h.sized))

      size : length w.cell ≡ suc (suc p)
      size = omega (arith, length_without w.place w.cell w.below, ap length w.is, h.sized)

  pub part-closed_section : (more p : ℕ) (e : Cell) (h : Part cells p e) → length h.whole ≤ suc (p + more) → Listed e (closed_section cells more p)
  unfolding closed_section
  part-closed_section zero p e h b = part-own p e h (omega arith)
  part-closed_section (suc more) p e h b =
      let above = closed_section cells more (suc p) in
      (insert_all-listed (own_section cells p) (faces_of (suc (suc p)) above) e).1
      (go (λ c k q. part-closed_section more (suc p) c k (omega (arith, ap length q))) (dec_lt (suc p) (length h.whole)))
    where
      go : ((c : Cell) (k : Part cells (suc p) c) → k.whole ≡ h.whole → Listed c (closed_section cells more (suc p))) → Dec (suc p < length h.whole)
          → Listed e (own_section cells p) ⊎ Listed e (faces_of (suc (suc p)) (closed_section cells more (suc p)))
      go r (no l) = inl (part-own p e h (omega arith))
      go r (yes l) = inr (up-part p e h l (closed_section cells more (suc p)) r)
