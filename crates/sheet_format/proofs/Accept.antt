-- A sheet is accepted exactly when it holds a simplicial complex laid out as in document 01: demand 2, first half.
--     accepted-iff        no refusal applies exactly when the bytes are the layout of a complex within the limit that has no loose node
--     sections-layout, sections-front, layout-sections, layout-injective     that complex is the one read from the bytes, and the only one
--     laid-iff, laid-complex, layout-laid      none of the checks 1 to 7 applies exactly when they are the layout of a complex within the limit
--     accepted-complex    what is read from an accepted sheet is a complex, accepted-used: without loose nodes
--     accepted-chains     the cells that the calls work with make a chain complex
use mathlib.Core.Path.{◌≡◌, sym, ap, ◌∙◌, subst}
use mathlib.Core.Logic.{◌↔◌}
use mathlib.Core.List.{List, [], ◌++◌}
use Prim.Native.Nat.{ℕ, suc, ◌+◌, ◌*◌, ◌≤◌, ◌<◌}
use native.Mathlib.Decide.{dec_le}
use native.Mathlib.Omega.{arith}
use lib.ListN.{length, get_or}
use lib.Seq.{ext_get_or}
use Rattle.limits.specs.Limits.{library_limit}
use Rattle.complexes.specs.Cell.{Cell}
use Rattle.complexes.specs.Complex.{Sections, section, count, cell, Complex}
use Rattle.complexes.specs.Loose.{NoLooseNodes}
use Rattle.complexes.proofs.ChainComplex.{ChainComplex, complex-chains}
use Rattle.sheet_format.specs.Layout.{top, start, layout}
use Rattle.sheet_format.specs.Check.{field_at, count_field, start_at, cell_of, sections_of, complex_refusal, refusal}
use Rattle.sheet_format.specs.Sheet.{Bytes, IsLayout, IsSheet}
use Rattle.sheet_format.specs.CheckLaws.{
  Passes,
  complex-zero,
  refusal-zero,
  too_short-false,
  count_exceeds-false,
  offset_differs-false,
  length_differs-false,
  vertices_do_not_rise-false,
  cells_do_not_rise-false,
  face_missing-false,
}
use Rattle.sheet_format.specs.SheetLaws.{count_field-in, count_field-out, count_field-below, count-beyond, count-below, length-sections_of, count-sections_of, cell-sections_of, length-cell_of, get_or-cell_of, start-ext, start-mono, field_at-lt}
use Rattle.sheet_format.proofs.LooseLaws.{loose_node-false}
use Rattle.sheet_format.proofs.Pieces.{carries-self, carries-all, carries-append, bytes-append}
use Rattle.sheet_format.proofs.LayoutLaws.{Reads, Shaped, complex-shaped, length-layout, bytes-layout, carries-layout}

-- ---- what is read from a sheet to which none of the checks 1 to 7 applies

pub laid-complex : (limit : ℕ) (b : List ℕ) → Bytes b → complex_refusal limit b ≡ 0 → Complex top limit (sections_of b)
laid-complex limit b h e = record {
  dimensions = length-sections_of b;
  within = λ p. rw (count-sections_of b p) (within p (dec_le p top));
  sized = λ p i l. ap length (at p i l) ∙ length-cell_of b (suc p) (start_at b p + 2 * (suc p * i));
  numbered = λ p i j l m. rw (at p i l, get_or-cell_of b (suc p) (start_at b p + 2 * (suc p * i)) j m)
      (field_at-lt b h (start_at b p + 2 * (suc p * i) + 2 * j));
  rising = λ p i l. (vertices_do_not_rise-false (sections_of b)).0 passes.vertices p i (below p i l) l;
  ordered = λ p i l. (cells_do_not_rise-false (sections_of b)).0 passes.cells p i (below p (suc i) l) l;
  closed = λ p i j l m. (face_missing-false (sections_of b)).0 passes.faces p i j (below (suc p) i l) l m;
}
  where
    passes : Passes limit b
    passes = (complex-zero limit b).0 e

    within : (p : ℕ) → Dec (p ≤ top) → count_field b p ≤ limit
    within p (yes l) = (count_exceeds-false limit b).0 passes.counts p l
    within p (no l) = omega (arith, count_field-out b p (omega arith))

    below : (p i : ℕ) → i < count (sections_of b) p → p ≤ top
    below p i l = count_field-below b p i (rw (count-sections_of b p) at l)

    at : (p i : ℕ) → i < count (sections_of b) p → cell (sections_of b) p i ≡ cell_of b (suc p) (start_at b p + 2 * (suc p * i))
    at p i l = cell-sections_of b p i (below p i l) (rw (count-sections_of b p) at l)

-- ---- what is read from an accepted sheet

pub accepted-complex : (limit : ℕ) (b : List ℕ) → Bytes b → refusal limit b ≡ 0 → Complex top limit (sections_of b)
accepted-complex limit b h e = laid-complex limit b h ((refusal-zero limit b).0 e).0

pub accepted-used : (limit : ℕ) (b : List ℕ) → Bytes b → refusal limit b ≡ 0 → NoLooseNodes (sections_of b)
accepted-used limit b h e = (loose_node-false (accepted-complex limit b h e)).0 ((refusal-zero limit b).0 e).1

pub accepted-chains : (limit : ℕ) (b : List ℕ) → Bytes b → refusal limit b ≡ 0 → ChainComplex limit (sections_of b)
accepted-chains limit b h e = complex-chains (accepted-complex limit b h e)

-- ---- the bytes of a complex give the complex back

module _ {limit : ℕ} {K : Sections} (shape : Shaped limit K) where
  module _ {b : List ℕ} (r : Reads b K) where
    reads-count : (p : ℕ) → count_field b p ≡ count K p
    reads-count p = pick (dec_le p top)
      where
        pick : Dec (p ≤ top) → count_field b p ≡ count K p
        pick (yes l) = count_field-in b p l ∙ r.counts p l
        pick (no l) =
            count_field-out b p (omega arith) ∙ sym (count-beyond K p (omega (arith, shape.dimensions)))

    reads-start : (p : ℕ) → start_at b p ≡ start (count K) p
    reads-start p = start-ext (count_field b) (count K) p (λ q l. reads-count q)

    reads-cell : (p i : ℕ) → i < count K p → cell (sections_of b) p i ≡ cell K p i
    reads-cell p i l =
        cell-sections_of b p i (omega (arith, count-below K p i l, shape.dimensions)) (rw (reads-count p) l)
        ∙ ap (λ (s : ℕ). cell_of b (suc p) (s + 2 * (suc p * i))) (reads-start p)
        ∙ ext_get_or 0 (cell_of b (suc p) at) (cell K p i) (length-cell_of b (suc p) at ∙ sym (shape.sized p i l))
        (λ j m. let k : j < suc p = rw (length-cell_of b (suc p) at) at m in get_or-cell_of b (suc p) at j k ∙ r.vertices p i j l k)
      where
        at : ℕ
        at = start (count K) p + 2 * (suc p * i)

    pub reads-sections : sections_of b ≡ K
    reads-sections =
        ext_get_or [] (sections_of b) K (length-sections_of b ∙ sym shape.dimensions)
        (λ p _. ext_get_or [] (section (sections_of b) p) (section K p) (same p) (λ i l. reads-cell p i (rw (same p) at l)))
      where
        same : (p : ℕ) → count (sections_of b) p ≡ count K p
        same p = count-sections_of b p ∙ reads-count p

  -- .. also where other bytes stand behind them
  pub sections-front : limit ≤ library_limit → (rest : List ℕ) → Bytes rest → sections_of (layout K ++ rest) ≡ K
  sections-front small rest bytes =
      reads-sections ((carries-layout shape small (layout K ++ rest) (bytes-append (layout K) rest (bytes-layout K) bytes)).0
      ((carries-append (layout K ++ rest) 0 (layout K) rest).0 (carries-self (layout K ++ rest))).0)

module _ {limit : ℕ} {K : Sections} (complex : Complex top limit K) where
  pub reads-layout : limit ≤ library_limit → Reads (layout K) K
  reads-layout small = (carries-layout (complex-shaped complex) small (layout K) (bytes-layout K)).0 (carries-self (layout K))

  pub sections-layout : limit ≤ library_limit → sections_of (layout K) ≡ K
  sections-layout small = reads-sections (complex-shaped complex) (reads-layout small)

  pub laid-layout : limit ≤ library_limit → complex_refusal limit (layout K) ≡ 0
  unfolding start
  laid-layout small = (complex-zero limit (layout K)).1 (record {
    long = (too_short-false (layout K)).1 (rw (length-layout complex) (start-mono (count K) 0 (suc top) (omega arith)));
    counts = (count_exceeds-false limit (layout K)).1 (λ p _. rw (reads-count (complex-shaped complex) r p) (complex.within p));
    offsets = (offset_differs-false (layout K)).1 (λ p l. r.offsets p l ∙ sym (reads-start (complex-shaped complex) r p));
    ends = (length_differs-false (layout K)).1 (length-layout complex ∙ sym (reads-start (complex-shaped complex) r (suc top)));
    vertices = rw (sections-layout small) ((vertices_do_not_rise-false K).1 (λ p i _ l. complex.rising p i l));
    cells = rw (sections-layout small) ((cells_do_not_rise-false K).1 (λ p i _ l. complex.ordered p i l));
    faces = rw (sections-layout small) ((face_missing-false K).1 (λ p i j _ l m. complex.closed p i j l m));
  })
    where
      r : Reads (layout K) K
      r = reads-layout small

  pub accepted-layout : NoLooseNodes K → limit ≤ library_limit → refusal limit (layout K) ≡ 0
  accepted-layout used small = (refusal-zero limit (layout K)).1 (laid-layout small, rw (sections-layout small) ((loose_node-false complex).1 used))

pub layout-injective : {limit : ℕ} → limit ≤ library_limit → {K L : Sections} → Complex top limit K → Complex top limit L → layout K ≡ layout L → K ≡ L
layout-injective small k l e = sym (sections-layout k small) ∙ ap sections_of e ∙ sections-layout l small

-- ---- such a sheet is the layout of what is read from it

laid-reads : (limit : ℕ) (b : List ℕ) → complex_refusal limit b ≡ 0 → Reads b (sections_of b)
laid-reads limit b e = record {
  counts = λ p l. sym (count_field-in b p l) ∙ sym (count-sections_of b p);
  offsets = λ p l. (offset_differs-false b).0 ((complex-zero limit b).0 e).offsets p l ∙ starts p;
  vertices = λ p i j l m.
      let k : i < count_field b p = rw (count-sections_of b p) at l in
      ap (λ (s : ℕ). field_at b (s + 2 * (suc p * i) + 2 * j)) (sym (starts p))
      ∙ sym (get_or-cell_of b (suc p) (start_at b p + 2 * (suc p * i)) j m)
      ∙ ap (λ (c : Cell). get_or c j 0) (sym (cell-sections_of b p i (count_field-below b p i k) k));
}
  where
    starts : (p : ℕ) → start_at b p ≡ start (count (sections_of b)) p
    starts p = start-ext (count_field b) (count (sections_of b)) p (λ q _. sym (count-sections_of b q))

pub layout-laid : (limit : ℕ) → limit ≤ library_limit → (b : List ℕ) → Bytes b → complex_refusal limit b ≡ 0 → layout (sections_of b) ≡ b
layout-laid limit small b h e =
    carries-all b (layout (sections_of b)) ((carries-layout (complex-shaped complex) small b h).1 (laid-reads limit b e))
    (length-layout complex
    ∙ start-ext (count (sections_of b)) (count_field b) (suc top) (λ q _. count-sections_of b q)
    ∙ sym ((length_differs-false b).0 ((complex-zero limit b).0 e).ends))
  where
    complex : Complex top limit (sections_of b)
    complex = laid-complex limit b h e

pub layout-sections : (limit : ℕ) → limit ≤ library_limit → (b : List ℕ) → Bytes b → refusal limit b ≡ 0 → layout (sections_of b) ≡ b
layout-sections limit small b h e = layout-laid limit small b h ((refusal-zero limit b).0 e).0

abbrev pub is-laid : (limit : ℕ) → limit ≤ library_limit → (b : List ℕ) → Bytes b → complex_refusal limit b ≡ 0 → IsLayout limit b
is-laid limit small b h e = record { cells = sections_of b; complex = laid-complex limit b h e; bytes = layout-laid limit small b h e }

pub laid-iff : (limit : ℕ) → limit ≤ library_limit → (b : List ℕ) → Bytes b → (complex_refusal limit b ≡ 0) ↔ IsLayout limit b
laid-iff limit small b h = (
  is-laid limit small b h,
  λ s. subst (λ (x : List ℕ). complex_refusal limit x ≡ 0) s.bytes (laid-layout s.complex small),
)

pub accepted-iff : (limit : ℕ) → limit ≤ library_limit → (b : List ℕ) → Bytes b → (refusal limit b ≡ 0) ↔ IsSheet limit b
accepted-iff limit small b h = (
  λ e. record { laid = is-laid limit small b h ((refusal-zero limit b).0 e).0; used = accepted-used limit b h e },
  λ s. subst (λ (x : List ℕ). refusal limit x ≡ 0) s.laid.bytes (accepted-layout s.laid.complex s.used small),
)
