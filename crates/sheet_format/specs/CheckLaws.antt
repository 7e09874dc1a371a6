-- Laws of the checks: what `some` decides, when `refusal` is 0.
--     some-true, some-false    a test passes for some number below n, or fails for each
--     too_short-false, ..       what it means that a check tells no fault
--     complex-zero             none of the checks 1 to 7 applies exactly when none of them tells a fault
--     refusal-zero             a sheet is accepted exactly when none of them applies and no node is loose
use Rattle.std.specs.Prelude.{◌≡◌, refl, ◌↔◌, ◌⊎◌, Bool, true, false, not, ◌||◌, List, [], ◌∷◌, ℕ, zero, suc, pred, ◌≤◌, ◌<◌, eqb, ltb, length}
use Rattle.std.proofs.Common.{ap, ◌∙◌, ap₂, inl, inr, true≢false, suc-le-suc, le_of_suc-le-suc, not-suc-le-zero, lt-suc_self, arith, ltb-false, le-ltb, eqb-true, eq-eqb}
use Rattle.std.proofs.lemmas.Bool.{false≢true, not-false}
use Rattle.std.proofs.Math.Decide.{dec_lt}
use Rattle.complexes.specs.Cell.{Cell, without, rises, precedes, listed, Listed}
use Rattle.complexes.specs.Complex.{Sections, section, count, cell}
use Rattle.complexes.proofs.CellLaws.{listed-true, Listed-listed}
use Rattle.sheet_format.specs.Layout.{top, header_length}
use Rattle.sheet_format.specs.Check.{count_field, offset_field, start_at, sections_of, some, complex_checks, complex_refusal, refusal, loose_node, too_short, count_exceeds, offset_differs, length_differs, vertices_do_not_rise, cells_do_not_rise, face_missing}
use Rattle.trials.specs.Trial.{first_refusal}
use Rattle.trials.proofs.FirstLaws.{first-zero, first-append-zero}

-- ---- some

-- a number below n for which the test passes
pub record Found (n : ℕ) (f : ℕ → Bool) : Type 0 where
  pub place : ℕ
  pub below : place < n
  pub passes : f place ≡ true

pub or_cases : (a b : Bool) → a || b ≡ true → (a ≡ true) ⊎ (b ≡ true)
or_cases true b e = inl refl
or_cases false b e = inr e

or_right : (a b : Bool) → b ≡ true → a || b ≡ true
or_right true b e = refl
or_right false b e = e

or-neither : (a b : Bool) → a || b ≡ false → (a ≡ false) × (b ≡ false)
or-neither true b e = absurd (true≢false e)
or-neither false b e = (refl, e)

-- a number below n + 1 is below n or is n
below_suc : (n i : ℕ) → i < suc n → (i < n) ⊎ (i ≡ n)
below_suc n i h = pick (dec_lt i n)
  where
    pick : Dec (i < n) → (i < n) ⊎ (i ≡ n)
    pick (yes l) = inl l
    pick (no l) = inr (omega arith)

found-suc : (n : ℕ) (f : ℕ → Bool) → (some n f ≡ true → Found n f) → (some n f ≡ true) ⊎ (f n ≡ true) → Found (suc n) f
found-suc n f w (inl p) = let k = w p in record { place = k.place; below = omega (arith, k.below); passes = k.passes }
found-suc n f w (inr p) = record { place = n; below = lt-suc_self n; passes = p }

found : (n : ℕ) (f : ℕ → Bool) → some n f ≡ true → Found n f
unfolding some
found zero f e = absurd (false≢true e)
found (suc n) f e = found-suc n f (found n f) (or_cases (some n f) (f n) e)

pub some_at : (n : ℕ) (f : ℕ → Bool) (i : ℕ) → i < n → f i ≡ true → some n f ≡ true
unfolding some
some_at zero f i h e = absurd (not-suc-le-zero h)
some_at (suc n) f i h e = pick (below_suc n i h) (some_at n f i)
  where
    pick : (i < n) ⊎ (i ≡ n) → (i < n → f i ≡ true → some n f ≡ true) → some n f || f n ≡ true
    pick (inl l) w = ap (λ (a : Bool). a || f n) (w l e)
    pick (inr l) w = or_right (some n f) (f n) (rw l at e)

pub some-true : (n : ℕ) (f : ℕ → Bool) → some n f ≡ true ↔ Found n f
some-true n f = (found n f, λ w. some_at n f w.place w.below w.passes)

none : (n : ℕ) (f : ℕ → Bool) → some n f ≡ false → (i : ℕ) → i < n → f i ≡ false
unfolding some
none zero f e i h = absurd (not-suc-le-zero h)
none (suc n) f e i h = pick (or-neither (some n f) (f n) e) (below_suc n i h) (λ e₁. none n f e₁ i)
  where
    pick : (some n f ≡ false) × (f n ≡ false) → (i < n) ⊎ (i ≡ n) → (some n f ≡ false → i < n → f i ≡ false) → f i ≡ false
    pick k (inl l) w = w k.0 l
    pick k (inr l) w = rw l k.1

some-none : (n : ℕ) (f : ℕ → Bool) → ((i : ℕ) → i < n → f i ≡ false) → some n f ≡ false
unfolding some
some-none zero f w = refl
some-none (suc n) f w = ap (λ (a : Bool). a || f n) (some-none n f (λ i h. w i (omega arith))) ∙ w n (lt-suc_self n)

pub some-false : (n : ℕ) (f : ℕ → Bool) → some n f ≡ false ↔ ((i : ℕ) → i < n → f i ≡ false)
some-false n f = (none n f, some-none n f)

pub some-ext : (n : ℕ) (f g : ℕ → Bool) → ((i : ℕ) → i < n → f i ≡ g i) → some n f ≡ some n g
unfolding some
some-ext zero f g w = refl
some-ext (suc n) f g w = ap₂ ◌||◌ (some-ext n f g (λ i h. w i (omega arith))) (w n (lt-suc_self n))

-- ---- the checks, one by one

pub too_short-false : (b : List ℕ) → too_short b ≡ false ↔ header_length ≤ length b
too_short-false b = (ltb-false (length b) header_length, le-ltb (length b) header_length)

pub count_exceeds-false : (limit : ℕ) (b : List ℕ) → count_exceeds limit b ≡ false ↔ ((p : ℕ) → p ≤ top → count_field b p ≤ limit)
count_exceeds-false limit b =
    let each = some-false (suc top) (λ p. ltb limit (count_field b p)) in (
      λ e p h. ltb-false limit (count_field b p) (each.0 e p (suc-le-suc h)),
      λ k. each.1 (λ p h. le-ltb limit (count_field b p) (k p (le_of_suc-le-suc h))),
    )

eqb-not-false : (m n : ℕ) → not (eqb m n) ≡ false ↔ m ≡ n
eqb-not-false m n = (λ e. eqb-true m n (not-false (eqb m n) e), λ e. ap not (eq-eqb m n e))

pub offset_differs-false : (b : List ℕ) → offset_differs b ≡ false ↔ ((p : ℕ) → p ≤ top → offset_field b p ≡ start_at b p)
offset_differs-false b =
    let each = some-false (suc top) (λ p. not (eqb (offset_field b p) (start_at b p))) in (
      λ e p h. (eqb-not-false (offset_field b p) (start_at b p)).0 (each.0 e p (suc-le-suc h)),
      λ k. each.1 (λ p h. (eqb-not-false (offset_field b p) (start_at b p)).1 (k p (le_of_suc-le-suc h))),
    )

pub length_differs-false : (b : List ℕ) → length_differs b ≡ false ↔ length b ≡ start_at b (suc top)
length_differs-false b = eqb-not-false (length b) (start_at b (suc top))

pub vertices_do_not_rise-false : (K : Sections)
    → vertices_do_not_rise K ≡ false ↔ ((p i : ℕ) → p ≤ top → i < count K p → rises (cell K p i) ≡ true)
unfolding vertices_do_not_rise
vertices_do_not_rise-false K = (
  λ e p i h l. not-false (rises (cell K p i)) ((inner p).0 (outer.0 e p (suc-le-suc h)) i l),
  λ k. outer.1 (λ p h. (inner p).1 (λ i l. ap not (k p i (le_of_suc-le-suc h) l))),
)
  where
    inner : (p : ℕ) → some (count K p) (λ i. not (rises (cell K p i))) ≡ false ↔ ((i : ℕ) → i < count K p → not (rises (cell K p i)) ≡ false)
    inner p = some-false (count K p) (λ i. not (rises (cell K p i)))

    outer : vertices_do_not_rise K ≡ false ↔ ((p : ℕ) → p < suc top → some (count K p) (λ i. not (rises (cell K p i))) ≡ false)
    outer = some-false (suc top) (λ p. some (count K p) (λ i. not (rises (cell K p i))))

pub cells_do_not_rise-false : (K : Sections)
    → cells_do_not_rise K ≡ false ↔ ((p i : ℕ) → p ≤ top → suc i < count K p → precedes (cell K p i) (cell K p (suc i)) ≡ true)
unfolding cells_do_not_rise
cells_do_not_rise-false K = (
  λ e p i h l. not-false (precedes (cell K p i) (cell K p (suc i))) ((inner p).0 (outer.0 e p (suc-le-suc h)) i (omega arith)),
  λ k. outer.1 (λ p h. (inner p).1 (λ i l. ap not (k p i (le_of_suc-le-suc h) (omega arith)))),
)
  where
    inner : (p : ℕ) → some (pred (count K p)) (λ i. not (precedes (cell K p i) (cell K p (suc i)))) ≡ false
        ↔ ((i : ℕ) → i < pred (count K p) → not (precedes (cell K p i) (cell K p (suc i))) ≡ false)
    inner p = some-false (pred (count K p)) (λ i. not (precedes (cell K p i) (cell K p (suc i))))

    outer : cells_do_not_rise K ≡ false
        ↔ ((p : ℕ) → p < suc top → some (pred (count K p)) (λ i. not (precedes (cell K p i) (cell K p (suc i)))) ≡ false)
    outer = some-false (suc top) (λ p. some (pred (count K p)) (λ i. not (precedes (cell K p i) (cell K p (suc i)))))

pub face_missing-false : (K : Sections)
    → face_missing K ≡ false
    ↔ ((p i j : ℕ) → p < top → i < count K (suc p) → j < suc (suc p) → Listed (without j (cell K (suc p) i)) (section K p))
unfolding face_missing
face_missing-false K = (
  λ e p i j h l m. listed-true (face p i j) (section K p)
      (not-false (listed (face p i j) (section K p)) ((faces p i).0 ((cells p).0 (dims.0 e p h) i l) j m)),
  λ k. dims.1 (λ p h. (cells p).1 (λ i l. (faces p i).1 (λ j m. ap not (Listed-listed (k p i j h l m))))),
)
  where
    face : ℕ → ℕ → ℕ → Cell
    face p i j = without j (cell K (suc p) i)

    missing : ℕ → ℕ → ℕ → Bool
    missing p i j = not (listed (face p i j) (section K p))

    faces : (p i : ℕ) → some (suc (suc p)) (missing p i) ≡ false ↔ ((j : ℕ) → j < suc (suc p) → missing p i j ≡ false)
    faces p i = some-false (suc (suc p)) (missing p i)

    cells : (p : ℕ) → some (count K (suc p)) (λ i. some (suc (suc p)) (missing p i)) ≡ false
        ↔ ((i : ℕ) → i < count K (suc p) → some (suc (suc p)) (missing p i) ≡ false)
    cells p = some-false (count K (suc p)) (λ i. some (suc (suc p)) (missing p i))

    dims : face_missing K ≡ false ↔ ((p : ℕ) → p < top → some (count K (suc p)) (λ i. some (suc (suc p)) (missing p i)) ≡ false)
    dims = some-false top (λ p. some (count K (suc p)) (λ i. some (suc (suc p)) (missing p i)))

-- ---- acceptance

-- none of the seven checks tells a fault
pub record Passes (limit : ℕ) (b : List ℕ) : Type 0 where
  pub long : too_short b ≡ false
  pub counts : count_exceeds limit b ≡ false
  pub offsets : offset_differs b ≡ false
  pub ends : length_differs b ≡ false
  pub vertices : vertices_do_not_rise (sections_of b) ≡ false
  pub cells : cells_do_not_rise (sections_of b) ≡ false
  pub faces : face_missing (sections_of b) ≡ false

pub complex-zero : (limit : ℕ) (b : List ℕ) → complex_refusal limit b ≡ 0 ↔ Passes limit b
unfolding complex_refusal
complex-zero limit b = (to, from)
  where
    to : complex_refusal limit b ≡ 0 → Passes limit b
    to e =
        let (long, (counts, (offsets, (ends, (vertices, (cells, (faces, _))))))) = (first-zero (complex_checks limit b) refl).0 e in
        record { long = long; counts = counts; offsets = offsets; ends = ends; vertices = vertices; cells = cells; faces = faces }

    from : Passes limit b → complex_refusal limit b ≡ 0
    from k = rw (k.long, k.counts, k.offsets, k.ends, k.vertices, k.cells, k.faces)

-- no node is loose, told by the last check alone
last-zero : (fault : Bool) → first_refusal ((18, fault) ∷ []) ≡ 0 ↔ (fault ≡ false)
last-zero fault = (λ e. ((first-zero ((18, fault) ∷ []) refl).0 e).0, λ e. rw e)

pub refusal-zero : (limit : ℕ) (b : List ℕ) → refusal limit b ≡ 0 ↔ ((complex_refusal limit b ≡ 0) × (loose_node (sections_of b) ≡ false))
unfolding refusal complex_refusal
refusal-zero limit b =
    let parts = first-append-zero (complex_checks limit b) ((18, loose_node (sections_of b)) ∷ []) refl in
    let last = last-zero (loose_node (sections_of b)) in
    (λ e. let k = parts.0 e in (k.0, last.0 k.1), λ k. parts.1 (k.0, last.1 k.1))
