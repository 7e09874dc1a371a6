-- From the number that reading answers to all that its contract says: reads-sheet.
--     refused-before                    one of the checks 1 to 7 tells a fault
--     refused-loose, accepted-last      none of them does, and check 18 tells one, or none
use mathlib.Core.Path.{◌≡◌, refl, sym, ◌∙◌, ap}
use mathlib.Core.Logic.{◌↔◌, ◌≢◌}
use mathlib.Core.Bool.{Bool, true, false}
use mathlib.Core.List.{List, [], ◌∷◌}
use Prim.Native.Nat.{ℕ, ◌≤◌}
use native.Mathlib.Omega.{arith}
use Rattle.std.specs.Prelude.{Ok, Err}
use Rattle.limits.specs.Limits.{library_limit}
use Rattle.trials.specs.Trial.{first_refusal}
use Rattle.trials.proofs.FirstLaws.{first-append-told, first-append-passed}
use Rattle.sheet_format.specs.Check.{sections_of, loose_node, complex_checks, complex_refusal, refusal}
use Rattle.sheet_format.specs.Sheet.{Bytes, IsSheet}
use Rattle.sheet_format.proofs.Accept.{accepted-iff}
use Rattle.refusal.specs.declared.Refusal.{Refusal}
use Rattle.refusal.specs.declared.Refusal.TheVariants.{LooseNode}
use Rattle.refusal.specs.Told.{told}
use Rattle.refusal.specs.NumberLaws.{number-positive}
use Rattle.sheet.specs.Number.{Reading, ReadsComplex, ReadsSheet}

reading-zero : (r : Reading) → told r ≡ 0 → r ≡ Ok tt
reading-zero (Ok tt) e = refl
reading-zero (Err x) e = absurd (omega (arith, number-positive x))

pub reads-sheet : {limit : ℕ} {b : List ℕ} {r : Reading} → Bytes b → told r ≡ refusal limit b → ReadsSheet limit b r
reads-sheet {limit} {b} {r} bytes e = record { number = e; accepted = accepted; bytes = bytes }
  where
    accepted : limit ≤ library_limit → (r ≡ Ok tt) ↔ IsSheet limit b
    accepted small = (
      λ h. (accepted-iff limit small b bytes).0 (sym e ∙ ap told h),
      λ h. reading-zero r (e ∙ (accepted-iff limit small b bytes).1 h),
    )

-- the check after the first seven
abbrev last : List ℕ → List (ℕ × Bool)
last b = (18, loose_node (sections_of b)) ∷ []

module _ {limit : ℕ} {b : List ℕ} where
  pub refused-before : {x : Refusal} → ReadsComplex limit b (Err x) → ReadsSheet limit b (Err x)
  unfolding refusal complex_refusal
  refused-before {x} h = reads-sheet h.bytes (h.number ∙ sym (first-append-told (complex_checks limit b) (last b) refl refuses))
    where
      refuses : first_refusal (complex_checks limit b) ≢ 0
      refuses z = omega (arith, number-positive x, h.number ∙ z)

  module _ (h : ReadsComplex limit b (Ok tt)) where
    all-passed : refusal limit b ≡ first_refusal (last b)
    unfolding refusal complex_refusal
    all-passed = first-append-passed (complex_checks limit b) (last b) refl (sym h.number)

    pub refused-loose : loose_node (sections_of b) ≡ true → ReadsSheet limit b (Err LooseNode)
    refused-loose t = reads-sheet h.bytes (sym (all-passed ∙ ap (λ (fault : Bool). first_refusal ((18, fault) ∷ [])) t))

    pub accepted-last : loose_node (sections_of b) ≡ false → ReadsSheet limit b (Ok tt)
    accepted-last f = reads-sheet h.bytes (sym (all-passed ∙ ap (λ (fault : Bool). first_refusal ((18, fault) ∷ [])) f))
