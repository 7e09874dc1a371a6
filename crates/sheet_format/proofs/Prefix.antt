-- A sheet longer than the longest that can be accepted is settled by its first bytes.
--     accepted-length  no accepted sheet is longer than `longest`
--     refusal-long     a longer sheet is refused with 2, 3 or 4
--     refusal-take     the refusal of a sheet is that of its first n bytes, for every n above `longest`
use mathlib.Core.Path.{◌≡◌, refl, sym, ap, ◌∙◌, ap₂}
use mathlib.Core.Bool.{Bool, true, false, not}
use mathlib.Core.List.{List, [], ◌∷◌}
use Prim.Native.Nat.{ℕ, suc, ◌+◌, ◌*◌, ◌≤◌, ◌<◌}
use native.Mathlib.Nat.{le_of_suc-le-suc}
use native.Mathlib.Decide.{dec_le}
use native.Mathlib.Omega.{arith}
use lib.Dec.{eqb, ltb}
use lib.ListN.{length, take, drop}
use lib.Seq.{length-take-le, take_all, get_or-take}
use borrow.Author.Tests.{le-ltb, ne_eqb}
use Rattle.sheet_format.specs.Layout.{top, header_length, longest}
use Rattle.trials.specs.Trial.{first_refusal}
use Rattle.sheet_format.specs.Check.{field_at, count_field, offset_field, start_at, count_exceeds, offset_differs, length_differs, sheet_checks, refusal}
use Rattle.sheet_format.specs.CheckLaws.{some-ext, count_exceeds-false, length_differs-false, complex-zero, refusal-zero}
use Rattle.sheet_format.specs.SheetLaws.{count_field-in, count_field-out, start-ext, start-le}

-- ---- a longer sheet

-- the checks 2 to 4, where 4 tells a fault
abbrev up_to4 : Bool → Bool → List (ℕ × Bool)
up_to4 counts offsets = (2, counts) ∷ (3, offsets) ∷ (4, true) ∷ []

fourth : (x y z : Bool) (later : List (ℕ × Bool)) → (x ≡ false → z ≡ true) → first_refusal ((2, x) ∷ (3, y) ∷ (4, z) ∷ later) ≡ first_refusal (up_to4 x y)
fourth true y z later h = refl
fourth false y z later h = ap (λ (t : Bool). first_refusal ((3, y) ∷ (4, t) ∷ later)) (h refl)

start-longest : (limit : ℕ) (b : List ℕ) → count_exceeds limit b ≡ false → start_at b (suc top) ≤ longest limit
start-longest limit b e = start-le (count_field b) limit (suc top) (λ p l. (count_exceeds-false limit b).0 e p (le_of_suc-le-suc l))

pub accepted-length : (limit : ℕ) (b : List ℕ) → refusal limit b ≡ 0 → length b ≤ longest limit
accepted-length limit b e =
    let passes = (complex-zero limit b).0 ((refusal-zero limit b).0 e).0 in
    omega (arith, start-longest limit b passes.counts, (length_differs-false b).0 passes.ends)

length-long : (limit : ℕ) (b : List ℕ) → longest limit < length b → count_exceeds limit b ≡ false → length_differs b ≡ true
length-long limit b h e =
    ap not (ne_eqb (length b) (start_at b (suc top)) (λ q. omega (arith, start-longest limit b e)))

pub refusal-long : (limit : ℕ) (b : List ℕ) → longest limit < length b
    → refusal limit b ≡ first_refusal (up_to4 (count_exceeds limit b) (offset_differs b))
unfolding refusal
refusal-long limit b h =
    rw (le-ltb (length b) header_length (omega arith))
    (fourth (count_exceeds limit b) (offset_differs b) (length_differs b) (drop 4 (sheet_checks limit b)) (length-long limit b h))

-- ---- the first bytes

module _ (n : ℕ) (b : List ℕ) (long : header_length ≤ n) where
  field_at-take : (i : ℕ) → suc i < n → field_at (take n b) i ≡ field_at b i
  field_at-take i h = ap₂ (λ x y. x + 256 * y) (get_or-take n b i 0 (omega arith)) (get_or-take n b (suc i) 0 h)

  count_field-take : (p : ℕ) → count_field (take n b) p ≡ count_field b p
  count_field-take p = pick (dec_le p top)
    where
      pick : Dec (p ≤ top) → count_field (take n b) p ≡ count_field b p
      pick (yes l) = count_field-in (take n b) p l ∙ field_at-take (4 * p) (omega arith) ∙ sym (count_field-in b p l)
      pick (no l) = count_field-out (take n b) p (omega arith) ∙ sym (count_field-out b p (omega arith))

  offset_field-take : (p : ℕ) → p ≤ top → offset_field (take n b) p ≡ offset_field b p
  unfolding offset_field
  offset_field-take p l = field_at-take (4 * p + 2) (omega arith)

  start_at-take : (p : ℕ) → start_at (take n b) p ≡ start_at b p
  start_at-take p = start-ext (count_field (take n b)) (count_field b) p (λ q _. count_field-take q)

  count_exceeds-take : (limit : ℕ) → count_exceeds limit (take n b) ≡ count_exceeds limit b
  count_exceeds-take limit =
      some-ext (suc top) (λ p. ltb limit (count_field (take n b) p)) (λ p. ltb limit (count_field b p)) (λ p _. ap (ltb limit) (count_field-take p))

  offset_differs-take : offset_differs (take n b) ≡ offset_differs b
  offset_differs-take =
      some-ext (suc top) (λ p. not (eqb (offset_field (take n b) p) (start_at (take n b) p))) (λ p. not (eqb (offset_field b p) (start_at b p)))
      (λ p l. ap₂ (λ x y. not (eqb x y)) (offset_field-take p (le_of_suc-le-suc l)) (start_at-take p))

pub refusal-take : (limit : ℕ) (b : List ℕ) (n : ℕ) → longest limit < n → refusal limit (take n b) ≡ refusal limit b
refusal-take limit b n h = pick (dec_le (length b) n)
  where
    pick : Dec (length b ≤ n) → refusal limit (take n b) ≡ refusal limit b
    pick (yes l) = ap (refusal limit) (take_all n b l)
    pick (no l) =
        refusal-long limit (take n b) (omega (arith, length-take-le n b (omega arith)))
        ∙ ap₂ (λ x y. first_refusal (up_to4 x y)) (count_exceeds-take n b (omega arith) limit) (offset_differs-take n b (omega arith))
        ∙ sym (refusal-long limit b (omega arith))
