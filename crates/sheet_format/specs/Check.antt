-- What the bytes of a sheet hold, and the refusals 1 to 7 and 18: document 01, "The sheet" and "The report and the coordinates", and document 02, Note 7.
-- Everything computes.
use Rattle.std.specs.Prelude.{Bool, false, not, cond, ◌&&◌, ◌||◌, List, [], ◌∷◌, ◌++◌, ℕ, zero, suc, ◌+◌, ◌*◌, pred, eqb, ltb, leb, length, get_or}
use Rattle.lists.specs.Tabulate.{tabulate}
use Rattle.complexes.specs.Cell.{Cell, without, rises, precedes, listed}
use Rattle.complexes.specs.Complex.{Sections, section, count, cell}
use Rattle.trials.specs.Trial.{first_refusal}
use Rattle.sheet_format.specs.Layout.{top, header_length, start}

-- ---- what the bytes b hold

-- the field at byte i; a byte past the end counts as 0
abbrev pub field_at : List ℕ → ℕ → ℕ
field_at b i = get_or b i 0 + 256 * get_or b (suc i) 0

-- n_p; a count outside the sheet's dimensions is 0
unfoldable pub count_field : List ℕ → ℕ → ℕ
count_field b p = cond (leb p top) (field_at b (4 * p)) 0

-- the offset of section p in the header
unfoldable pub offset_field : List ℕ → ℕ → ℕ
offset_field b p = field_at b (4 * p + 2)

-- where section p must start
abbrev pub start_at : List ℕ → ℕ → ℕ
start_at b p = start (count_field b) p

-- the cell of n vertices at byte `at`
unfoldable pub cell_of : List ℕ → ℕ → ℕ → Cell
cell_of b n at = tabulate n (λ j. field_at b (at + 2 * j))

-- the cells of n vertices each, `many` of them, from byte `at` on
unfoldable pub cells_of : List ℕ → ℕ → ℕ → ℕ → List Cell
cells_of b n many at = tabulate many (λ i. cell_of b n (at + 2 * (n * i)))

-- all the cells of the sheet
unfoldable pub sections_of : List ℕ → Sections
sections_of b = tabulate (suc top) (λ p. cells_of b (suc p) (count_field b p) (start_at b p))

-- ---- the checks

-- the test passes for some number below n
unfoldable pub some : ℕ → (ℕ → Bool) → Bool
some zero f = false
some (suc n) f = some n f || f n

-- 1: fewer than 16 bytes
abbrev pub too_short : List ℕ → Bool
too_short b = ltb (length b) header_length

-- 2: a count exceeds its limit
abbrev pub count_exceeds : ℕ → List ℕ → Bool
count_exceeds limit b = some (suc top) (λ p. ltb limit (count_field b p))

-- 3: an offset differs from the one required
abbrev pub offset_differs : List ℕ → Bool
offset_differs b = some (suc top) (λ p. not (eqb (offset_field b p) (start_at b p)))

-- 4: the length differs from the one required
abbrev pub length_differs : List ℕ → Bool
length_differs b = not (eqb (length b) (start_at b (suc top)))

-- 5: in some cell the vertices do not rise strictly
unfoldable pub vertices_do_not_rise : Sections → Bool
vertices_do_not_rise K = some (suc top) (λ p. some (count K p) (λ i. not (rises (cell K p i))))

-- 6: in some section the cells do not rise strictly
unfoldable pub cells_do_not_rise : Sections → Bool
cells_do_not_rise K = some (suc top) (λ p. some (pred (count K p)) (λ i. not (precedes (cell K p i) (cell K p (suc i)))))

-- 7: a face is missing
unfoldable pub face_missing : Sections → Bool
face_missing K =
    some top (λ p. some (count K (suc p)) (λ i. some (suc (suc p)) (λ j. not (listed (without j (cell K (suc p) i)) (section K p)))))

-- v is one of the two vertices of edge k
abbrev pub on_edge : Sections → ℕ → ℕ → Bool
on_edge K v k = eqb (get_or (cell K 1 k) 0 0) v || eqb (get_or (cell K 1 k) 1 0) v

-- vertex i stands in no edge, where there is an edge
abbrev pub loose : Sections → ℕ → Bool
loose K i = ltb 0 (count K 1) && not (some (count K 1) (on_edge K (get_or (cell K 0 i) 0 0)))

-- 18: a vertex is loose
abbrev pub loose_node : Sections → Bool
loose_node K = some (count K 0) (loose K)

-- ---- the order of trial

-- the checks of the sheet b at the count limit: 1 to 7, which the sweep tries first ..
abbrev pub complex_checks : ℕ → List ℕ → List (ℕ × Bool)
complex_checks limit b =
    (1, too_short b)
    ∷ (2, count_exceeds limit b)
    ∷ (3, offset_differs b)
    ∷ (4, length_differs b)
    ∷ (5, vertices_do_not_rise (sections_of b))
    ∷ (6, cells_do_not_rise (sections_of b))
    ∷ (7, face_missing (sections_of b)) ∷ []

-- .. and all of them, which every other call on a sheet tries
abbrev pub sheet_checks : ℕ → List ℕ → List (ℕ × Bool)
sheet_checks limit b = complex_checks limit b ++ ((18, loose_node (sections_of b)) ∷ [])

-- the number of the first of 1 to 7 that applies to the sheet b at the count limit, 0 for none
unfoldable pub complex_refusal : ℕ → List ℕ → ℕ
complex_refusal limit b = first_refusal (complex_checks limit b)

-- the number of the first refusal that applies to the sheet b at the count limit, 0 if it is accepted
unfoldable pub refusal : ℕ → List ℕ → ℕ
refusal limit b = first_refusal (sheet_checks limit b)
