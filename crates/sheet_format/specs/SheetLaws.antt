-- What the bytes of a sheet hold, by dimension, cell and vertex, and how large it can be.
--     length-sections_of, section-sections_of, count-sections_of, cell-sections_of
--     start-ext, start-mono, start-le, start-fewer, field_at-lt, count_field-lt, start_at-le
use Rattle.std.specs.Prelude.{◌≡◌, refl, Bool, cond, List, [], ℕ, zero, suc, ◌+◌, ◌-◌, ◌*◌, ◌≤◌, ◌<◌, length, get_or, take}
use Rattle.std.proofs.Common.{sym, ap, ◌∙◌, subst, ap₂, lt-suc_self, mul-le-mul, le_refl, le_trans, le-add_right, add-zero, add-suc, add-sub_of_le, arith, ext_get_or, length-take-le, get_or-take, le-leb}
use Rattle.std.proofs.Math.Decide.{dec_le, dec_lt}
use Rattle.std.proofs.Math.ListN.{get_or-eq_default}
use Rattle.std.proofs.lemmas.Bool.{lt-leb}
use Rattle.complexes.specs.Cell.{Cell}
use Rattle.complexes.specs.Complex.{Sections, section, count, cell}
use Rattle.sheet_format.specs.Layout.{top, header_length, start, vertex_numbers}
use Rattle.sheet_format.specs.Check.{field_at, count_field, start_at, cell_of, cells_of, sections_of}
use Rattle.sheet_format.specs.Sheet.{Bytes}
use Rattle.lists.proofs.TabulateLaws.{length-tabulate, get_or-tabulate}

-- ---- the counts

pub count_field-in : (b : List ℕ) (p : ℕ) → p ≤ top → count_field b p ≡ field_at b (4 * p)
unfolding count_field
count_field-in b p h = ap (λ (t : Bool). cond t (field_at b (4 * p)) 0) (le-leb p top h)

pub count_field-out : (b : List ℕ) (p : ℕ) → top < p → count_field b p ≡ 0
unfolding count_field
count_field-out b p h = ap (λ (t : Bool). cond t (field_at b (4 * p)) 0) (lt-leb p top h)

-- a dimension that is not listed has no cells, and one with cells is listed
pub count-beyond : (K : Sections) (p : ℕ) → length K ≤ p → count K p ≡ 0
count-beyond K p h = ap length (get_or-eq_default K [] {n = p} h)

pub count-below : (K : Sections) (p i : ℕ) → i < count K p → p < length K
count-below K p i h = pick (dec_lt p (length K))
  where
    pick : Dec (p < length K) → p < length K
    pick (yes l) = l
    pick (no l) = omega (arith, count-beyond K p (omega arith))

-- ---- the cells

pub length-sections_of : (b : List ℕ) → length (sections_of b) ≡ suc top
unfolding sections_of
length-sections_of b = length-tabulate (suc top) (λ p. cells_of b (suc p) (count_field b p) (start_at b p))

pub section-sections_of : (b : List ℕ) (p : ℕ) → p ≤ top → section (sections_of b) p ≡ cells_of b (suc p) (count_field b p) (start_at b p)
unfolding sections_of
section-sections_of b p h = get_or-tabulate (suc top) (λ q. cells_of b (suc q) (count_field b q) (start_at b q)) p [] (omega arith)

pub length-cells_of : (b : List ℕ) (n many at : ℕ) → length (cells_of b n many at) ≡ many
unfolding cells_of
length-cells_of b n many at = length-tabulate many (λ i. cell_of b n (at + 2 * (n * i)))

pub get_or-cells_of : (b : List ℕ) (n many at i : ℕ) → i < many → get_or (cells_of b n many at) i [] ≡ cell_of b n (at + 2 * (n * i))
unfolding cells_of
get_or-cells_of b n many at i h = get_or-tabulate many (λ k. cell_of b n (at + 2 * (n * k))) i [] h

pub length-cell_of : (b : List ℕ) (n at : ℕ) → length (cell_of b n at) ≡ n
unfolding cell_of
length-cell_of b n at = length-tabulate n (λ j. field_at b (at + 2 * j))

pub get_or-cell_of : (b : List ℕ) (n at j : ℕ) → j < n → get_or (cell_of b n at) j 0 ≡ field_at b (at + 2 * j)
unfolding cell_of
get_or-cell_of b n at j h = get_or-tabulate n (λ k. field_at b (at + 2 * k)) j 0 h

-- the first n of m vertices
pub take-cell_of : (b : List ℕ) (n m at : ℕ) → n ≤ m → take n (cell_of b m at) ≡ cell_of b n at
take-cell_of b n m at l =
    ext_get_or 0 (take n (cell_of b m at)) (cell_of b n at) (sized ∙ sym (length-cell_of b n at))
    (λ j k.
    let k' : j < n = omega (arith, sized) in
    get_or-take n (cell_of b m at) j 0 k' ∙ get_or-cell_of b m at j (omega arith) ∙ sym (get_or-cell_of b n at j k'))
  where
    sized : length (take n (cell_of b m at)) ≡ n
    sized = length-take-le n (cell_of b m at) (omega (arith, length-cell_of b m at))

pub count-sections_of : (b : List ℕ) (p : ℕ) → count (sections_of b) p ≡ count_field b p
count-sections_of b p = pick (dec_le p top)
  where
    pick : Dec (p ≤ top) → count (sections_of b) p ≡ count_field b p
    pick (yes h) = ap length (section-sections_of b p h) ∙ length-cells_of b (suc p) (count_field b p) (start_at b p)
    pick (no h) =
        count-beyond (sections_of b) p (omega (arith, length-sections_of b)) ∙ sym (count_field-out b p (omega arith))

-- a dimension with cells is one of the sheet's
pub count_field-below : (b : List ℕ) (p i : ℕ) → i < count_field b p → p ≤ top
count_field-below b p i h = omega (arith, count-below (sections_of b) p i (rw (count-sections_of b p) h), length-sections_of b)

pub cell-sections_of : (b : List ℕ) (p i : ℕ) → p ≤ top → i < count_field b p
    → cell (sections_of b) p i ≡ cell_of b (suc p) (start_at b p + 2 * (suc p * i))
cell-sections_of b p i h k =
    ap (λ (l : List Cell). get_or l i []) (section-sections_of b p h) ∙ get_or-cells_of b (suc p) (count_field b p) (start_at b p) i k

-- ---- where a section starts

pub start-ext : (n m : ℕ → ℕ) (p : ℕ) → ((q : ℕ) → q < p → n q ≡ m q) → start n p ≡ start m p
unfolding start
start-ext n m zero e = refl
start-ext n m (suc p) e = ap₂ (λ s k. s + 2 * (suc p * k)) (start-ext n m p (λ q h. e q (omega arith))) (e p (lt-suc_self p))

start-add : (n : ℕ → ℕ) (p k : ℕ) → start n p ≤ start n (p + k)
unfolding start
start-add n p zero = rw (add-zero p) (le_refl (start n p))
start-add n p (suc k) = rw (add-suc p k) (le_trans (start-add n p k) (le-add_right (start n (p + k)) (2 * (suc (p + k) * n (p + k)))))

pub start-mono : (n : ℕ → ℕ) (p q : ℕ) → p ≤ q → start n p ≤ start n q
start-mono n p q h = subst (λ (r : ℕ). start n p ≤ start n r) (add-sub_of_le h) (start-add n p (q - p))

pub start-le : (n : ℕ → ℕ) (limit p : ℕ) → ((q : ℕ) → q < p → n q ≤ limit) → start n p ≤ header_length + 2 * (limit * vertex_numbers p)
unfolding start
start-le n limit zero h = omega arith
start-le n limit (suc p) h =
    omega (arith, start-le n limit p (λ q k. h q (omega arith)), mul-le-mul (le_refl (suc p)) (h p (lt-suc_self p)))

-- fewer cells end sooner
pub start-fewer : (n m : ℕ → ℕ) (p : ℕ) → ((q : ℕ) → n q ≤ m q) → start n p ≤ start m p
unfolding start
start-fewer n m zero h = omega arith
start-fewer n m (suc p) h = omega (arith, start-fewer n m p h, mul-le-mul (le_refl (suc p)) (h p))

-- ---- bounds for bytes

pub field_at-lt : (b : List ℕ) → Bytes b → (i : ℕ) → field_at b i < 65536
field_at-lt b h i = omega (arith, h.small i, h.small (suc i))

pub count_field-lt : (b : List ℕ) → Bytes b → (p : ℕ) → count_field b p < 65536
count_field-lt b h p = pick (dec_le p top)
  where
    pick : Dec (p ≤ top) → count_field b p < 65536
    pick (yes k) = omega (arith, count_field-in b p k, field_at-lt b h (4 * p))
    pick (no k) = omega (arith, count_field-out b p (omega arith))

pub start_at-le : (b : List ℕ) → Bytes b → (p : ℕ) → start_at b p ≤ header_length + 2 * (65535 * vertex_numbers p)
start_at-le b h p = start-le (count_field b) 65535 p (λ q k. omega (arith, count_field-lt b h q))
