-- The layout of a complex, field by field.
--     length-parts      its length is that of the header and the sections
--     length-sized, length-layout     .. and where the section past the last would start
--     bytes-layout      it consists of bytes
--     Shaped, complex-shaped, carries-layout      b carries it exactly when each field of b is the one required
use mathlib.Core.Path.{◌≡◌, refl, sym, ap, ◌∙◌, subst, subst₂, ap₂}
use mathlib.Core.Logic.{◌↔◌}
use mathlib.Core.List.{List, [], ◌∷◌, ◌++◌}
use Prim.Native.Nat.{ℕ, zero, suc, ◌+◌, ◌*◌, ◌/◌, ◌%◌, ◌≤◌, ◌<◌, suc-le-suc}
use native.Mathlib.Nat.{le_of_suc-le-suc, add-zero, zero-add}
use native.Mathlib.Numerals.{add-one}
use native.Mathlib.Omega.{arith}
use lib.ListN.{length, get_or, length-append}
use Rattle.limits.specs.Limits.{library_limit}
use Rattle.complexes.specs.Cell.{Cell}
use Rattle.complexes.specs.Complex.{Sections, section, count, cell, vertex_bound, Complex}
use Rattle.sheet_format.specs.Layout.{top, header_length, field, cell_bytes, section_bytes, sections_bytes, start, header_bytes, layout}
use Rattle.sheet_format.specs.Check.{field_at, offset_field}
use Rattle.sheet_format.specs.Sheet.{Bytes}
use Rattle.sheet_format.specs.SheetLaws.{count-below, start-mono, start-le}
use Rattle.sheet_format.proofs.Pieces.{
  Carries,
  carries-append,
  pieces,
  pieces-ext,
  Starts,
  length-pieces,
  carries-pieces,
  bytes-append,
  bytes-pieces,
}

-- ---- one field

pub bytes-field : (v : ℕ) → Bytes (field v)
bytes-field v = record { small = pick }
  where
    pick : (i : ℕ) → get_or (field v) i 0 < 256
    pick zero = omega arith
    pick (suc zero) = omega arith
    pick (suc (suc i)) = omega arith

pub carries-field : (b : List ℕ) → Bytes b → (at v : ℕ) → v < 65536 → Carries b at (field v) ↔ field_at b at ≡ v
carries-field b h at v l = (to, λ e. record { agree = from e })
  where
    to : Carries b at (field v) → field_at b at ≡ v
    to k =
        let low : get_or b at 0 ≡ v % 256 = rw (add-zero at) at (k.agree 0 (omega arith)) in
        let high : get_or b (suc at) 0 ≡ v / 256 % 256 = rw (add-one at) at (k.agree 1 (omega arith)) in
        omega arith

    from : field_at b at ≡ v → (r : ℕ) → r < 2 → get_or b (at + r) 0 ≡ get_or (field v) r 0
    from e zero r = rw (add-zero at) (omega (arith, h.small at, h.small (suc at)))
    from e (suc zero) r = rw (add-one at) (omega (arith, h.small at, h.small (suc at)))
    from e (suc (suc i)) r = omega arith

-- ---- the layout as pieces

cell_bytes-pieces : (c : Cell) → cell_bytes c ≡ pieces (length c) (λ j. field (get_or c j 0))
unfolding cell_bytes pieces
cell_bytes-pieces [] = refl
cell_bytes-pieces (v ∷ c) = ap (λ (s : List ℕ). field v ++ s) (cell_bytes-pieces c)

section_bytes-pieces : (l : List Cell) → section_bytes l ≡ pieces (length l) (λ i. cell_bytes (get_or l i []))
unfolding section_bytes pieces
section_bytes-pieces [] = refl
section_bytes-pieces (c ∷ l) = ap (λ (s : List ℕ). cell_bytes c ++ s) (section_bytes-pieces l)

sections_bytes-pieces : (K : Sections) → sections_bytes K ≡ pieces (length K) (λ p. section_bytes (section K p))
unfolding sections_bytes pieces
sections_bytes-pieces [] = refl
sections_bytes-pieces (l ∷ K) = ap (λ (s : List ℕ). section_bytes l ++ s) (sections_bytes-pieces K)

-- the header's entry for dimension p
entry : (ℕ → ℕ) → ℕ → List ℕ
entry n p = field (n p) ++ field (start n p)

header_bytes-pieces : (n : ℕ → ℕ) (p more : ℕ) → header_bytes n p more ≡ pieces more (λ q. entry n (p + q))
unfolding header_bytes pieces entry
header_bytes-pieces n p zero = refl
header_bytes-pieces n p (suc more) =
    ap₂ ◌++◌ (ap (entry n) (sym (add-zero p)))
    (header_bytes-pieces n (suc p) more ∙ pieces-ext more (λ q. entry n (suc p + q)) (λ q. entry n (p + suc q)) (λ q h. ap (entry n) (omega arith)))

header-pieces : (n : ℕ → ℕ) (more : ℕ) → header_bytes n 0 more ≡ pieces more (entry n)
header-pieces n more = header_bytes-pieces n 0 more ∙ pieces-ext more (λ q. entry n (0 + q)) (entry n) (λ q h. ap (entry n) (zero-add q))

-- ---- lengths

pub length-cell_bytes : (c : Cell) → length (cell_bytes c) ≡ 2 * length c
unfolding cell_bytes
length-cell_bytes [] = refl
length-cell_bytes (v ∷ c) = omega (arith, length-cell_bytes c)

-- cells of n vertices each start 2 n bytes apart
section-starts : (at n : ℕ) (l : List Cell) → ((i : ℕ) → i < length l → length (get_or l i []) ≡ n)
    → Starts (length l) (λ i. at + 2 * (n * i)) (λ i. cell_bytes (get_or l i []))
section-starts at n l h = record { next = λ i k. omega (arith, length-cell_bytes (get_or l i []), h i k) }

pub length-section_bytes : (n : ℕ) (l : List Cell) → ((i : ℕ) → i < length l → length (get_or l i []) ≡ n)
    → length (section_bytes l) ≡ 2 * (n * length l)
length-section_bytes n l h =
    ap length (section_bytes-pieces l)
    ∙ omega (arith, length-pieces (length l) (λ i. 0 + 2 * (n * i)) (λ i. cell_bytes (get_or l i [])) (section-starts 0 n l h))

pub length-header_bytes : (n : ℕ → ℕ) (more : ℕ) → length (header_bytes n 0 more) ≡ 4 * more
unfolding entry
length-header_bytes n more =
    ap length (header-pieces n more) ∙ omega (arith, length-pieces more (λ p. 4 * p) (entry n) (record { next = λ p l. omega arith }))

-- ---- bytes

bytes-cell_bytes : (c : Cell) → Bytes (cell_bytes c)
bytes-cell_bytes c = rw (cell_bytes-pieces c) (bytes-pieces (length c) (λ j. field (get_or c j 0)) (λ j l. bytes-field (get_or c j 0)))

bytes-section_bytes : (l : List Cell) → Bytes (section_bytes l)
bytes-section_bytes l = rw (section_bytes-pieces l) (bytes-pieces (length l) (λ i. cell_bytes (get_or l i [])) (λ i k. bytes-cell_bytes (get_or l i [])))

bytes-entry : (n : ℕ → ℕ) (p : ℕ) → Bytes (entry n p)
unfolding entry
bytes-entry n p = bytes-append (field (n p)) (field (start n p)) (bytes-field (n p)) (bytes-field (start n p))

pub bytes-layout : (K : Sections) → Bytes (layout K)
unfolding layout
bytes-layout K = bytes-append (header_bytes (count K) 0 (suc top)) (sections_bytes K)
    (rw (header-pieces (count K) (suc top)) (bytes-pieces (suc top) (entry (count K)) (λ p l. bytes-entry (count K) p)))
    (rw (sections_bytes-pieces K) (bytes-pieces (length K) (λ p. section_bytes (section K p)) (λ p l. bytes-section_bytes (section K p))))

-- ---- what a list carries

carries-cell : (b : List ℕ) → Bytes b → (at : ℕ) (c : Cell) → ((j : ℕ) → j < length c → get_or c j 0 < 65536)
    → Carries b at (cell_bytes c) ↔ ((j : ℕ) → j < length c → field_at b (at + 2 * j) ≡ get_or c j 0)
carries-cell b h at c small = (λ k j l. (one j l).0 (each.0 k j l), λ e. each.1 (λ j l. (one j l).1 (e j l)))
  where
    starts : Starts (length c) (λ j. at + 2 * j) (λ j. field (get_or c j 0))
    starts = record { next = λ j l. omega arith }

    each : Carries b at (cell_bytes c) ↔ ((j : ℕ) → j < length c → Carries b (at + 2 * j) (field (get_or c j 0)))
    each =
        subst₂ (λ (i : ℕ) (s : List ℕ). Carries b i s ↔ ((j : ℕ) → j < length c → Carries b (at + 2 * j) (field (get_or c j 0))))
        (omega arith) (sym (cell_bytes-pieces c))
        (carries-pieces b (length c) (λ j. at + 2 * j) (λ j. field (get_or c j 0)) starts)

    one : (j : ℕ) → j < length c → Carries b (at + 2 * j) (field (get_or c j 0)) ↔ field_at b (at + 2 * j) ≡ get_or c j 0
    one j l = carries-field b h (at + 2 * j) (get_or c j 0) (small j l)

carries-section : (b : List ℕ) (at n : ℕ) (l : List Cell) → ((i : ℕ) → i < length l → length (get_or l i []) ≡ n)
    → Carries b at (section_bytes l) ↔ ((i : ℕ) → i < length l → Carries b (at + 2 * (n * i)) (cell_bytes (get_or l i [])))
carries-section b at n l sized =
    subst₂ (λ (i : ℕ) (s : List ℕ). Carries b i s ↔ ((i : ℕ) → i < length l → Carries b (at + 2 * (n * i)) (cell_bytes (get_or l i []))))
    (omega arith) (sym (section_bytes-pieces l))
    (carries-pieces b (length l) (λ i. at + 2 * (n * i)) (λ i. cell_bytes (get_or l i [])) (section-starts at n l sized))

carries-header : (b : List ℕ) → Bytes b → (n : ℕ → ℕ) (more : ℕ) → ((p : ℕ) → p < more → n p < 65536) → ((p : ℕ) → p < more → start n p < 65536)
    → Carries b 0 (header_bytes n 0 more) ↔ ((p : ℕ) → p < more → (field_at b (4 * p) ≡ n p) × (field_at b (4 * p + 2) ≡ start n p))
unfolding entry
carries-header b h n more counts offsets = (λ k p l. (one p l).0 (each.0 k p l), λ e. each.1 (λ p l. (one p l).1 (e p l)))
  where
    starts : Starts more (λ p. 4 * p) (entry n)
    starts = record { next = λ p l. omega arith }

    each : Carries b 0 (header_bytes n 0 more) ↔ ((p : ℕ) → p < more → Carries b (4 * p) (entry n p))
    each =
        subst (λ (s : List ℕ). Carries b 0 s ↔ ((p : ℕ) → p < more → Carries b (4 * p) (entry n p))) (sym (header-pieces n more))
        (carries-pieces b more (λ p. 4 * p) (entry n) starts)

    one : (p : ℕ) → p < more → Carries b (4 * p) (entry n p) ↔ (field_at b (4 * p) ≡ n p) × (field_at b (4 * p + 2) ≡ start n p)
    one p l =
        let cut = carries-append b (4 * p) (field (n p)) (field (start n p)) in
        let low = carries-field b h (4 * p) (n p) (counts p l) in
        let high = carries-field b h (4 * p + 2) (start n p) (offsets p l) in
        (λ k. (low.0 (cut.0 k).0, high.0 (cut.0 k).1), λ e. cut.1 (low.1 e.0, high.1 e.1))

-- each field of b is the one that the sheet of K requires
pub record Reads (b : List ℕ) (K : Sections) : Type 0 where
  pub counts : (p : ℕ) → p ≤ top → field_at b (4 * p) ≡ count K p
  pub offsets : (p : ℕ) → p ≤ top → offset_field b p ≡ start (count K) p
  pub vertices : (p i j : ℕ) → i < count K p → j < suc p
      → field_at b (start (count K) p + 2 * (suc p * i) + 2 * j) ≡ get_or (cell K p i) j 0

-- ---- the whole sheet

pub length-parts : (K : Sections) → length (layout K) ≡ header_length + length (sections_bytes K)
unfolding layout
length-parts K =
    length-append (header_bytes (count K) 0 (suc top)) (sections_bytes K)
    ∙ ap (λ (n : ℕ). n + length (sections_bytes K)) (length-header_bytes (count K) (suc top))

-- the layout of cells that have as many vertices as their dimension says
module _ (K : Sections) (sized : (p i : ℕ) → i < count K p → length (cell K p i) ≡ suc p) where
  sections-start : Starts (length K) (start (count K)) (λ p. section_bytes (section K p))
  unfolding start
  sections-start = record {
    next = λ p l. ap (λ (s : ℕ). start (count K) p + s) (sym (length-section_bytes (suc p) (section K p) (sized p)));
  }

  pub length-sized : length K ≡ suc top → length (layout K) ≡ start (count K) (suc top)
  unfolding start
  length-sized dimensions =
      length-parts K
      ∙ ap (λ (t : List ℕ). header_length + length t) (sections_bytes-pieces K)
      ∙ length-pieces (length K) (start (count K)) (λ p. section_bytes (section K p)) sections-start
      ∙ ap (start (count K)) dimensions

-- of a complex
pub length-layout : {limit : ℕ} {K : Sections} → Complex top limit K → length (layout K) ≡ start (count K) (suc top)
length-layout {K = K} complex = length-sized K complex.sized complex.dimensions

-- the cells of dimensions 0 to `top`, at most `limit` in each, of as many vertex numbers as their dimension says
pub record Shaped (limit : ℕ) (K : Sections) : Type 0 where
  pub dimensions : length K ≡ suc top
  pub within : (p : ℕ) → count K p ≤ limit
  pub sized : (p i : ℕ) → i < count K p → length (cell K p i) ≡ suc p
  pub numbered : (p i j : ℕ) → i < count K p → j < suc p → get_or (cell K p i) j 0 < vertex_bound

pub complex-shaped : {limit : ℕ} {K : Sections} → Complex top limit K → Shaped limit K
complex-shaped complex =
    record { dimensions = complex.dimensions; within = complex.within; sized = complex.sized; numbered = complex.numbered }

module _ {limit : ℕ} {K : Sections} (shape : Shaped limit K) where
  sections-starts : Starts (length K) (start (count K)) (λ p. section_bytes (section K p))
  sections-starts = sections-start K shape.sized

  start_small : limit ≤ library_limit → (p : ℕ) → p ≤ suc top → start (count K) p < 65536
  start_small small p h =
      omega (arith, start-mono (count K) p (suc top) h, start-le (count K) limit (suc top) (λ q l. shape.within q))

  carries-vertices : (b : List ℕ) → Bytes b → (at p : ℕ) → Carries b at (section_bytes (section K p))
      ↔ ((i j : ℕ) → i < count K p → j < suc p → field_at b (at + 2 * (suc p * i) + 2 * j) ≡ get_or (cell K p i) j 0)
  carries-vertices b h at p = (
    λ k i j l m. (one i l).0 (each.0 k i l) j (rw (shape.sized p i l) m),
    λ e. each.1 (λ i l. (one i l).1 (λ j m. e i j l (rw (shape.sized p i l) at m))),
  )
    where
      each : Carries b at (section_bytes (section K p))
          ↔ ((i : ℕ) → i < count K p → Carries b (at + 2 * (suc p * i)) (cell_bytes (cell K p i)))
      each = carries-section b at (suc p) (section K p) (λ i l. shape.sized p i l)

      one : (i : ℕ) → i < count K p → Carries b (at + 2 * (suc p * i)) (cell_bytes (cell K p i))
          ↔ ((j : ℕ) → j < length (cell K p i) → field_at b (at + 2 * (suc p * i) + 2 * j) ≡ get_or (cell K p i) j 0)
      one i l =
          carries-cell b h (at + 2 * (suc p * i)) (cell K p i) (λ j m. shape.numbered p i j l (rw (shape.sized p i l) at m))

  pub carries-layout : limit ≤ library_limit → (b : List ℕ) → Bytes b → Carries b 0 (layout K) ↔ Reads b K
  unfolding layout start offset_field
  carries-layout small b h = (
    λ k. record {
      counts = λ p l. (header.0 (cut.0 k).0 p (suc-le-suc l)).0;
      offsets = λ p l. (header.0 (cut.0 k).0 p (suc-le-suc l)).1;
      vertices = λ p i j l m.
          (carries-vertices b h (start (count K) p) p).0 (sections.0 (cut.0 k).1 p (count-below K p i l)) i j l m;
    },
    λ e. cut.1 (
      header.1 (λ p l. (e.counts p (le_of_suc-le-suc l), e.offsets p (le_of_suc-le-suc l))),
      sections.1 (λ p l. (carries-vertices b h (start (count K) p) p).1 (e.vertices p)),
    ),
  )
    where
      cut : Carries b 0 (layout K) ↔ Carries b 0 (header_bytes (count K) 0 (suc top)) × Carries b (start (count K) 0) (sections_bytes K)
      cut =
          subst (λ (at : ℕ). Carries b 0 (layout K) ↔ Carries b 0 (header_bytes (count K) 0 (suc top)) × Carries b at (sections_bytes K))
          (zero-add (length (header_bytes (count K) 0 (suc top))) ∙ length-header_bytes (count K) (suc top))
          (carries-append b 0 (header_bytes (count K) 0 (suc top)) (sections_bytes K))

      header : Carries b 0 (header_bytes (count K) 0 (suc top))
          ↔ ((p : ℕ) → p < suc top → (field_at b (4 * p) ≡ count K p) × (field_at b (4 * p + 2) ≡ start (count K) p))
      header =
          carries-header b h (count K) (suc top) (λ p l. omega (arith, shape.within p)) (λ p l. start_small small p (omega arith))

      sections : Carries b (start (count K) 0) (sections_bytes K)
          ↔ ((p : ℕ) → p < length K → Carries b (start (count K) p) (section_bytes (section K p)))
      sections =
          subst (λ (s : List ℕ). Carries b (start (count K) 0) s ↔ ((p : ℕ) → p < length K → Carries b (start (count K) p) (section_bytes (section K p))))
          (sym (sections_bytes-pieces K))
          (carries-pieces b (length K) (start (count K)) (λ p. section_bytes (section K p)) sections-starts)
