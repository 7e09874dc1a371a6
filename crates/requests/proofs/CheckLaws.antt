-- The checks before the reductions.
--     call_checks-zero                what the checks 1 to 9 ask
--     sheet-told, sheet-passed       the sheet's checks decide, or those after them
--     call-told, call-passed,
--     call-later-zero                the checks 1 to 9 decide, or those of the request
use mathlib.Core.Path.{◌≡◌, refl, ◌∙◌}
use mathlib.Core.Logic.{◌↔◌, ◌≢◌}
use mathlib.Core.Bool.{Bool, true, false, ◌||◌, true≢false}
use mathlib.Core.List.{List, [], ◌∷◌, ◌++◌}
use Prim.Native.Nat.{ℕ, ◌≤◌}
use borrow.Author.Tests.{ltb-false, le-ltb}
use lib.Dec.{ltb}
use Rattle.trials.specs.Trial.{first_refusal}
use Rattle.trials.proofs.FirstLaws.{first-zero, first-append-told, first-append-passed, first-append-zero}
use Rattle.sheet_format.specs.Layout.{top}
use Rattle.sheet_format.specs.Check.{sheet_checks, refusal}
use Rattle.requests.specs.Question.{Question}
use Rattle.requests.specs.Call.{call_checks}

or-false : (s t : Bool) → s || t ≡ false → (s ≡ false) × (t ≡ false)
or-false true t e = (e, absurd (true≢false e))
or-false false t e = (refl, e)

-- what the checks 1 to 7, 18, 8 and 9 ask
pub record Passed (limit : ℕ) (q : Question) (slots space output work : ℕ) : Type 0 where
  pub accepted : refusal limit q.sheet ≡ 0
  pub dimension : q.dimension ≤ top
  pub output-slots : slots ≤ output
  pub work-slots : space ≤ work

module _ (limit : ℕ) (q : Question) (slots space output work : ℕ) where
  -- the checks after the sheet's
  abbrev pub later_checks : List (ℕ × Bool)
  later_checks = (8, ltb top q.dimension) ∷ (9, ltb output slots || ltb work space) ∷ []

  abbrev checks : List (ℕ × Bool)
  checks = call_checks limit q slots space output work

  pub sheet-told : refusal limit q.sheet ≢ 0 → first_refusal checks ≡ refusal limit q.sheet
  unfolding call_checks refusal
  sheet-told d = first-append-told (sheet_checks limit q.sheet) later_checks refl d

  sheet-zero : (first_refusal checks ≡ 0) ↔ ((refusal limit q.sheet ≡ 0) × (first_refusal later_checks ≡ 0))
  unfolding call_checks refusal
  sheet-zero = first-append-zero (sheet_checks limit q.sheet) later_checks refl

  pub sheet-passed : refusal limit q.sheet ≡ 0 → first_refusal checks ≡ first_refusal later_checks
  unfolding call_checks refusal
  sheet-passed e = first-append-passed (sheet_checks limit q.sheet) later_checks refl e

  pub call_checks-zero : (first_refusal checks ≡ 0) ↔ Passed limit q slots space output work
  call_checks-zero = (forward, backward)
    where
      forward : first_refusal checks ≡ 0 → Passed limit q slots space output work
      forward e =
          let k = sheet-zero.0 e in
          let (dimension, (long, _)) = (first-zero later_checks refl).0 k.1 in
          let l = or-false (ltb output slots) (ltb work space) long in
          record {
            accepted = k.0;
            dimension = ltb-false top q.dimension dimension;
            output-slots = ltb-false output slots l.0;
            work-slots = ltb-false work space l.1;
          }

      backward : Passed limit q slots space output work → first_refusal checks ≡ 0
      backward h =
          sheet-passed h.accepted
          ∙ rw (le-ltb top q.dimension h.dimension, le-ltb output slots h.output-slots, le-ltb work space h.work-slots)

  -- and the checks of a request after them
  module _ (later : List (ℕ × Bool)) where
    pub call-told : first_refusal checks ≢ 0 → first_refusal (checks ++ later) ≡ first_refusal checks
    unfolding call_checks
    call-told d = first-append-told checks later refl d

    pub call-passed : first_refusal checks ≡ 0 → first_refusal (checks ++ later) ≡ first_refusal later
    unfolding call_checks
    call-passed e = first-append-passed checks later refl e

    pub call-later-zero : (first_refusal (checks ++ later) ≡ 0) ↔ ((first_refusal checks ≡ 0) × (first_refusal later ≡ 0))
    unfolding call_checks
    call-later-zero = first-append-zero checks later refl
