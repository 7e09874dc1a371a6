-- Laws of the sweep call.
--     sweep-told                    1 to 7 are told as by the checks of the sheet
--     sweep-short, sweep-done       16 exactly where the slice is too short for the sheet that is written; done where it is not
--     sweep-fits                    done where the slice is as long as the sheet that is given
--     sweep-left                    a refusal leaves the slice alone
--     sweep-sheet, sweep-number     what is written where the call is done
--     sweep-same, sweep-twice       an accepted sheet is written unchanged, and so is what the sweep wrote
use mathlib.Core.Path.{◌≡◌, refl, sym, ap, ◌∙◌, subst}
use mathlib.Core.Logic.{◌↔◌, ◌≢◌}
use mathlib.Core.Bool.{Bool, true, false, cond}
use mathlib.Core.List.{List, [], ◌∷◌, ◌++◌}
use Prim.Native.Nat.{ℕ, ◌≤◌, ◌<◌}
use native.Mathlib.Omega.{arith}
use lib.Dec.{ltb}
use lib.ListN.{length, take, drop}
use lib.Seq.{length-take-le}
use borrow.Author.Tests.{ltb-true, ltb-false, lt-ltb, le-ltb}
use Rattle.limits.specs.Limits.{library_limit}
use Rattle.trials.specs.Trial.{first_refusal, done, number_told}
use Rattle.trials.proofs.FirstLaws.{first-append-told, first-append-passed, first-append-zero}
use Rattle.trials.proofs.WriteLaws.{answer-number, answer-left, answer-done, done-length}
use Rattle.complexes.specs.Complex.{Sections, Complex}
use Rattle.sheet_format.specs.Layout.{top, layout}
use Rattle.sheet_format.specs.Check.{sections_of, complex_checks, complex_refusal, refusal}
use Rattle.sheet_format.specs.CheckLaws.{refusal-zero}
use Rattle.sheet_format.specs.Sheet.{Bytes}
use Rattle.sheet_format.specs.Written.{header_gives}
use Rattle.sheet_format.proofs.Accept.{laid-complex, accepted-used, layout-laid}
use Rattle.sheet_format.proofs.WrittenLaws.{front-sections, written-layout}
use Rattle.sweeps.specs.Sweep.{swept, swept_sheet, sweep_checks, sweep_call}
use Rattle.sweeps.specs.Swept.{IsSwept, SweptSheet}
use Rattle.sweeps.proofs.SweptLaws.{swept-is, swept-complex, swept-used, swept_same, swept-unique, swept-fits}

-- 16 is told exactly where the room is too short
sixteen : (room n : ℕ) → ◌≡◌ {A = ℕ} (cond (ltb room n) 16 0) 16 ↔ (room < n)
sixteen room n = (λ e. go (ltb room n) refl e, λ l. rw (lt-ltb room n l) refl)
  where
    go : (t : Bool) → ltb room n ≡ t → ◌≡◌ {A = ℕ} (cond t 16 0) 16 → room < n
    go true e _ = ltb-true room n e
    go false e z = absurd (omega (arith, z))

-- .. and done is not, where it is
fits : (room n : ℕ) → ◌≡◌ {A = ℕ} (cond (ltb room n) 16 0) 0 → n ≤ room
fits room n e = go (ltb room n) refl e
  where
    go : (t : Bool) → ltb room n ≡ t → ◌≡◌ {A = ℕ} (cond t 16 0) 0 → n ≤ room
    go true e z = absurd (omega (arith, z))
    go false e _ = ltb-false room n e

module _ (limit : ℕ) (b slice : List ℕ) where
  number_is : number_told (sweep_call limit b slice).answer ≡ first_refusal (sweep_checks limit (length slice) b)
  unfolding sweep_call
  number_is = answer-number (first_refusal (sweep_checks limit (length slice) b)) (swept_sheet (sections_of b)) slice

  pub sweep-left : number_told (sweep_call limit b slice).answer ≢ 0 → (sweep_call limit b slice).output ≡ slice
  unfolding sweep_call
  sweep-left = answer-left (first_refusal (sweep_checks limit (length slice) b)) (swept_sheet (sections_of b)) slice

  -- whether the slice is too short
  abbrev short : Bool
  short = ltb (length slice) (length (swept_sheet (sections_of b)))

  pub sweep-told : complex_refusal limit b ≢ 0 → number_told (sweep_call limit b slice).answer ≡ complex_refusal limit b
  unfolding complex_refusal
  sweep-told d = number_is ∙ first-append-told (complex_checks limit b) ((16, short) ∷ []) refl d

  last-is : complex_refusal limit b ≡ 0 → first_refusal (sweep_checks limit (length slice) b) ≡ cond short 16 0
  unfolding complex_refusal
  last-is e = first-append-passed (complex_checks limit b) ((16, short) ∷ []) refl e

  -- ---- where none of the checks 1 to 7 applies
  module _ (small : limit ≤ library_limit) (bytes : Bytes b) (laid : complex_refusal limit b ≡ 0) where
    complex : Complex top limit (sections_of b)
    complex = laid-complex limit b bytes laid

    module _ (L : Sections) (other : Complex top limit L) (is : IsSwept (sections_of b) L) where
      same : L ≡ swept (sections_of b)
      same = swept-unique complex other is

      pub sweep-short : (number_told (sweep_call limit b slice).answer ≡ 16) ↔ (length slice < length (layout L))
      sweep-short =
          rw (number_is, last-is laid, same)
          (sixteen (length slice) (length (swept_sheet (sections_of b))))

      pub sweep-done : length (layout L) ≤ length slice
          → sweep_call limit b slice ≡ record { answer = done (length (layout L)); output = layout L ++ drop (length (layout L)) slice }
      unfolding sweep_call
      sweep-done l =
          rw same
          (answer-done (first_refusal (sweep_checks limit (length slice) b)) (swept_sheet (sections_of b)) slice
          (last-is laid ∙ ap (λ (t : Bool). cond t 16 0) (le-ltb (length slice) (length (swept_sheet (sections_of b))) (rw same at l))))

    -- the sheet itself is as long or longer
    pub sweep-fits : length b ≤ length slice → number_told (sweep_call limit b slice).answer ≡ 0
    sweep-fits l =
        number_is ∙ (last-is laid ∙ ap (λ (t : Bool). cond t 16 0) (le-ltb (length slice) (length (swept_sheet (sections_of b)))
        (omega (arith, swept-fits (sections_of b) complex.dimensions complex.sized, ap length (layout-laid limit small b bytes laid)))))

  -- ---- where the call is done
  module _ (small : limit ≤ library_limit) (bytes : Bytes b) (z : number_told (sweep_call limit b slice).answer ≡ 0) where
    pub sweep-laid : complex_refusal limit b ≡ 0
    unfolding complex_refusal
    sweep-laid = ((first-append-zero (complex_checks limit b) ((16, short) ∷ []) refl).0 (sym number_is ∙ z)).0

    abbrev K : Sections
    K = sections_of b

    abbrev sheet : List ℕ
    sheet = swept_sheet (sections_of b)

    whole : Complex top limit K
    whole = laid-complex limit b bytes sweep-laid

    called : sweep_call limit b slice ≡ record { answer = done (length sheet); output = sheet ++ drop (length sheet) slice }
    called =
        sweep-done small bytes sweep-laid (swept K) (swept-complex whole) (swept-is whole)
        (fits (length slice) (length sheet) (sym (last-is sweep-laid) ∙ (sym number_is ∙ z)))

    written : SweptSheet limit b slice (sheet ++ drop (length sheet) slice) (length sheet)
    written = record {
      sheet = written-layout small (swept-complex whole) (drop (length sheet) slice) (swept-used whole) slice refl;
      cells = rw (front-sections small (swept-complex whole) (drop (length sheet) slice)) (swept-is whole);
    }

    left : SweptSheet limit b slice (sweep_call limit b slice).output (length sheet)
    left = subst (λ (out : List ℕ). SweptSheet limit b slice out (length sheet)) (sym (ap (λ c. c.output) called)) written

    -- .. told by the number alone, with the length that the header gives
    pub sweep-number : SweptSheet limit b slice (sweep_call limit b slice).output (header_gives (sweep_call limit b slice).output)
    sweep-number = subst (SweptSheet limit b slice (sweep_call limit b slice).output) (sym left.sheet.in-header) left

  pub sweep-sheet : limit ≤ library_limit → Bytes b → (n : ℕ) → (sweep_call limit b slice).answer ≡ done n
      → SweptSheet limit b slice (sweep_call limit b slice).output n
  sweep-sheet small bytes n e =
      let z : number_told (sweep_call limit b slice).answer ≡ 0 = ap number_told e in
      subst (SweptSheet limit b slice (sweep_call limit b slice).output)
      (done-length (sym (ap (λ c. c.answer) (called small bytes z)) ∙ e)) (left small bytes z)

-- ---- sheets that are written unchanged

pub sweep-same : (limit : ℕ) → limit ≤ library_limit → (b slice : List ℕ) → Bytes b → refusal limit b ≡ 0 → length b ≤ length slice
    → sweep_call limit b slice ≡ record { answer = done (length b); output = b ++ drop (length b) slice }
sweep-same limit small b slice bytes accepted l =
    subst (λ (s : List ℕ). sweep_call limit b slice ≡ record { answer = done (length s); output = s ++ drop (length s) slice }) whole
    (sweep-done limit b slice small bytes laid K complex (subst (IsSwept K) unswept (swept-is complex)) (rw whole l))
  where
    K : Sections
    K = sections_of b

    laid : complex_refusal limit b ≡ 0
    laid = ((refusal-zero limit b).0 accepted).0

    complex : Complex top limit (sections_of b)
    complex = laid-complex limit b bytes laid

    unswept : swept (sections_of b) ≡ sections_of b
    unswept = swept_same complex (accepted-used limit b bytes accepted)

    whole : layout (sections_of b) ≡ b
    whole = layout-laid limit small b bytes laid

-- what the sweep wrote is swept to itself
pub sweep-twice : (limit : ℕ) → limit ≤ library_limit → (b slice slice' : List ℕ) → Bytes b → (n : ℕ) → (sweep_call limit b slice).answer ≡ done n
    → n ≤ length slice'
    → sweep_call limit (take n (sweep_call limit b slice).output) slice'
    ≡ record { answer = done n; output = take n (sweep_call limit b slice).output ++ drop n slice' }
sweep-twice limit small b slice slice' bytes n e l =
    subst (λ (k : ℕ). sweep_call limit first slice' ≡ record { answer = done k; output = first ++ drop k slice' }) size
    (sweep-same limit small first slice' w.sheet.bytes w.sheet.accepted (rw size l))
  where
    first : List ℕ
    first = take n (sweep_call limit b slice).output

    w : SweptSheet limit b slice (sweep_call limit b slice).output n
    w = sweep-sheet limit b slice small bytes n e

    size : length first ≡ n
    size = length-take-le n (sweep_call limit b slice).output w.sheet.within
