-- The closure of the cells with given lists of vertices lists exactly the lists' vertex sets and their nonempty subsets, and is a complex.
--     closure-is, closure-unique             it is what document 02, Note 3, asks for (`IsClosure`), and nothing else is
--     closure-complex, IsClosure-complex     it is a complex
--     closure-section, own_sections-section   the sections, one by one
--     closure-top, closure-step              .. and from the highest downwards
--     closure-parts, closure-rising          section p lists the sublists of the cells with p + 1 vertices, and rises
--     own_sections-count                      a section's own cells are no more than all
--     map-cell_with-all                       what every list has, the cells with their vertices have
use mathlib.Core.Path.{◌≡◌, refl, sym, ◌∙◌}
use mathlib.Core.Logic.{◌↔◌}
use mathlib.Core.List.{List, [], map}
use Prim.Native.Nat.{ℕ, suc, ◌-◌, ◌≤◌, ◌<◌}
use native.Mathlib.Omega.{arith}
use native.Mathlib.Decide.{dec_lt}
use lib.ListN.{length, get_or, length-map, get_or-map}
use lib.Seq.{ext_get_or}
use Rattle.lists.proofs.TabulateLaws.{length-tabulate, get_or-tabulate, get_or-tabulate-beyond}
use Rattle.complexes.specs.Cell.{Cell, without, precedes, Listed}
use Rattle.complexes.proofs.FaceLaws.{length_without, rises-without}
use Rattle.complexes.specs.Complex.{Sections, section, count, cell, vertex_bound, Complex}
use Rattle.complexes.proofs.Faces.{Sublist-length, without-Sublist}
use Rattle.complexes.proofs.Subsets.{sublist-subset, subset-sublist}
use Rattle.complexes.specs.Packed.{Numbered}
use Rattle.closures.specs.Insert.{insert_all}
use Rattle.closures.specs.Closure.{cell_with, own_section, faces_of, closed_section, own_sections, closure}
use Rattle.closures.specs.Form.{IsPart, IsClosure}
use Rattle.closures.specs.Rising.{All, Rising}
use Rattle.closures.proofs.RisingLaws.{cells-order, Stands, stands-nil, listed-stands, all-stands, rising-unique}
use Rattle.closures.proofs.CellWithLaws.{cell_with-rises, cell_with-vertex, cell_with-length}
use Rattle.closures.proofs.SublistLaws.{Sublist-rises}
use Rattle.closures.proofs.SectionLaws.{own_section-closed_section, closed_section-zero, closed_section-suc, closed_section-rising}
use Rattle.closures.proofs.SectionLaws.{Part, closed_section-part, part-closed_section}

-- ---- the sections

module _ (top : ℕ) (cells : List Cell) where
  pub closure-dimensions : length (closure top cells) ≡ suc top
  unfolding closure
  closure-dimensions = length-tabulate (suc top) (λ p. closed_section cells (top - p) p)

  pub closure-section : (p : ℕ) → p ≤ top → section (closure top cells) p ≡ closed_section cells (top - p) p
  unfolding closure
  closure-section p h = get_or-tabulate (suc top) (λ p. closed_section cells (top - p) p) p [] (omega arith)

  pub closure-beyond : (p : ℕ) → top < p → section (closure top cells) p ≡ []
  unfolding closure
  closure-beyond p h = get_or-tabulate-beyond (suc top) (λ p. closed_section cells (top - p) p) p [] h

  pub own_sections-section : (p : ℕ) → p ≤ top → section (own_sections top cells) p ≡ own_section cells p
  unfolding own_sections
  own_sections-section p h = get_or-tabulate (suc top) (own_section cells) p [] (omega arith)

  pub own_sections-beyond : (p : ℕ) → top < p → section (own_sections top cells) p ≡ []
  unfolding own_sections
  own_sections-beyond p h = get_or-tabulate-beyond (suc top) (own_section cells) p [] h

  -- the highest section has its own cells only
  pub closure-top : section (closure top cells) top ≡ own_section cells top
  closure-top =
      let none : top - top ≡ 0 = omega arith in
      closure-section top (omega arith) ∙ rw none (closed_section-zero cells top)

  -- every other has the faces of the next higher one as well
  pub closure-step : (p : ℕ) → p < top
      → section (closure top cells) p ≡ insert_all precedes (own_section cells p) (faces_of (suc (suc p)) (section (closure top cells) (suc p)))
  closure-step p h =
      let above : top - p ≡ suc (top - suc p) = omega arith in
      closure-section p (omega arith) ∙ rw (above, closure-section (suc p) h) (closed_section-suc cells (top - suc p) p)

  pub own_sections-count : (p : ℕ) → count (own_sections top cells) p ≤ count (closure top cells) p
  own_sections-count p = go (dec_lt top p)
    where
      go : Dec (top < p) → count (own_sections top cells) p ≤ count (closure top cells) p
      go (yes h) = rw (own_sections-beyond p h) (omega arith)
      go (no h) = rw (own_sections-section p (omega arith), closure-section p (omega arith)) (own_section-closed_section cells (top - p) p)

  pub closure-rising : (p : ℕ) → Rising precedes [] (section (closure top cells) p)
  closure-rising p = go (dec_lt top p)
    where
      go : Dec (top < p) → Rising precedes [] (section (closure top cells) p)
      go (yes h) = rw (closure-beyond p h) (λ i b. absurd (omega arith))
      go (no h) = rw (closure-section p (omega arith)) (closed_section-rising cells (top - p) p)

  -- where no cell has more than top + 1 vertices, section p lists the sublists of the cells with p + 1 vertices
  pub closure-parts : All (λ c. length c ≤ suc top) [] cells → (p : ℕ) (e : Cell) → Listed e (section (closure top cells) p) ↔ Part cells p e
  closure-parts short p e = go (dec_lt top p)
    where
      at_most : (c : Cell) → Listed c cells → length c ≤ suc top
      at_most c h = all-stands (λ c. length c ≤ suc top) short (listed-stands.0 h)

      go : Dec (top < p) → Listed e (section (closure top cells) p) ↔ Part cells p e
      go (yes h) =
          rw (closure-beyond p h) (
            λ k. absurd (stands-nil (listed-stands.0 k)),
            λ k. absurd (omega (arith, k.sized, Sublist-length k.sublist, at_most k.whole k.listed)),
          )
      go (no h) =
          rw (closure-section p (omega arith)) (
            closed_section-part cells (top - p) p e,
            λ k. part-closed_section cells (top - p) p e k (omega (arith, at_most k.whole k.listed)),
          )

-- ---- lists of vertices

map-cell_with-at : (lists : List (List ℕ)) (i : ℕ) → get_or (map cell_with lists) i [] ≡ cell_with (get_or lists i [])
unfolding insert_all
map-cell_with-at lists i = get_or-map cell_with lists i []

-- what every list has, every cell has, where it goes over
pub map-cell_with-all : (P Q : Cell → Type 0) → ((vs : List ℕ) → P vs → Q (cell_with vs))
    → (lists : List (List ℕ)) → All P [] lists → All Q [] (map cell_with lists)
map-cell_with-all P Q over lists a i h =
    rw (map-cell_with-at lists i) (over (get_or lists i []) (a i (omega (arith, length-map lists cell_with))))

module _ (lists : List (List ℕ)) (p : ℕ) (e : Cell) where
  part-is : Part (map cell_with lists) p e → IsPart lists p e
  part-is h =
      record {
        sized = h.sized;
        rising = Sublist-rises h.sublist (rw (← whole) (cell_with-rises (get_or lists i [])));
        place = i;
        below = omega (arith, h.listed.below, length-map lists cell_with);
        subset = λ v k. (cell_with-vertex v (get_or lists i [])).0 (rw whole (sublist-subset h.sublist v k));
      }
    where
      i : ℕ
      i = h.listed.place

      whole : cell_with (get_or lists i []) ≡ h.whole
      whole = sym (map-cell_with-at lists i) ∙ h.listed.is

  is-part : IsPart lists p e → Part (map cell_with lists) p e
  is-part h =
      record {
        sized = h.sized;
        whole = cell_with vs;
        listed = record { place = h.place; below = omega (arith, h.below, length-map lists cell_with); is = map-cell_with-at lists h.place };
        sublist = subset-sublist e (cell_with vs) h.rising (cell_with-rises vs) (λ v k. (cell_with-vertex v vs).1 (h.subset v k));
      }
    where
      vs : List ℕ
      vs = get_or lists h.place []

pub closure-is : (top : ℕ) (lists : List (List ℕ)) → All (λ vs. length vs ≤ suc top) [] lists → IsClosure top lists (closure top (map cell_with lists))
closure-is top lists short =
    record {
      dimensions = closure-dimensions top (map cell_with lists);
      ordered = closure-rising top (map cell_with lists);
      exactly = exactly;
    }
  where
    few : All (λ c. length c ≤ suc top) [] (map cell_with lists)
    few = map-cell_with-all (λ vs. length vs ≤ suc top) (λ c. length c ≤ suc top) (λ vs h. omega (arith, cell_with-length vs)) lists short

    exactly : (p : ℕ) (e : Cell) → Listed e (section (closure top (map cell_with lists)) p) ↔ IsPart lists p e
    exactly p e = (
      λ h. part-is lists p e ((closure-parts top (map cell_with lists) few p e).0 h),
      λ h. (closure-parts top (map cell_with lists) few p e).1 (is-part lists p e h),
    )

pub closure-unique : {top : ℕ} {lists : List (List ℕ)} {K L : Sections} → IsClosure top lists K → IsClosure top lists L → K ≡ L
closure-unique {K} {L} h k =
    ext_get_or [] K L
    (h.dimensions ∙ sym k.dimensions)
    (λ p b. rising-unique precedes cells-order [] (section K p) (section L p) (h.ordered p) (k.ordered p) (same p))
  where
    same : (p : ℕ) (c : Cell) → Stands [] c (section K p) ↔ Stands [] c (section L p)
    same p c = (
      λ s. listed-stands.0 ((k.exactly p c).1 ((h.exactly p c).0 (listed-stands.1 s))),
      λ s. listed-stands.0 ((h.exactly p c).1 ((k.exactly p c).0 (listed-stands.1 s))),
    )

-- ---- the complex

module _ {top : ℕ} {lists : List (List ℕ)} {K : Sections} (h : IsClosure top lists K) where
  -- cell i of dimension p
  part_at : (p i : ℕ) → i < count K p → IsPart lists p (cell K p i)
  part_at p i b = (h.exactly p (cell K p i)).0 (record { place = i; below = b; is = refl })

  -- a face is listed one dimension below
  face-listed : (p i j : ℕ) → i < count K (suc p) → j < suc (suc p) → Listed (without j (cell K (suc p) i)) (section K p)
  face-listed p i j b l =
      let c = cell K (suc p) i in
      let k : IsPart lists (suc p) c = part_at (suc p) i b in
      (h.exactly p (without j c)).1 (record {
        sized = omega (arith, length_without j c (omega (arith, k.sized)), k.sized);
        rising = rises-without j c (omega (arith, k.sized)) k.rising;
        place = k.place;
        below = k.below;
        subset = λ v s. k.subset v (sublist-subset (without-Sublist j c) v s);
      })

  pub IsClosure-complex : {limit : ℕ} → All Numbered [] lists → ((p : ℕ) → count K p ≤ limit) → Complex top limit K
  IsClosure-complex numbered within =
      record {
        dimensions = h.dimensions;
        within = within;
        sized = λ p i b. (part_at p i b).sized;
        numbered = λ p i j b l. number (part_at p i b) j l;
        rising = λ p i b. (part_at p i b).rising;
        ordered = h.ordered;
        closed = face-listed;
      }
    where
      number : {p : ℕ} {c : Cell} → IsPart lists p c → (j : ℕ) → j < suc p → get_or c j 0 < vertex_bound
      number {p} {c} k j l =
          let v = k.subset (get_or c j 0) (record { place = j; below = omega (arith, k.sized); is = refl }) in
          rw v.is at ((numbered k.place k.below).at v.place v.below)

pub closure-complex : (top limit : ℕ) (lists : List (List ℕ)) → All (λ vs. length vs ≤ suc top) [] lists → All Numbered [] lists
    → ((p : ℕ) → count (closure top (map cell_with lists)) p ≤ limit) → Complex top limit (closure top (map cell_with lists))
closure-complex top limit lists short numbered within = IsClosure-complex (closure-is top lists short) numbered within
