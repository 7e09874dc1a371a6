-- Which of the checks 1 to 9 is told: sheet-refused, dimension-refused, output-short, work-short.
use mathlib.Core.Path.{◌≡◌, refl, ◌∙◌}
use mathlib.Core.Bool.{Bool, true, false, ◌||◌}
use mathlib.Core.List.{[], ◌∷◌}
use Prim.Native.Nat.{ℕ, ◌<◌, ◌≤◌}
use native.Mathlib.Omega.{arith}
use borrow.Author.Tests.{lt-ltb, le-ltb}
use lib.Dec.{ltb}
use Rattle.trials.specs.Trial.{first_refusal}
use Rattle.sheet_format.specs.Layout.{top}
use Rattle.sheet_format.specs.Check.{refusal}
use Rattle.requests.specs.Question.{Question}
use Rattle.requests.specs.Call.{call_checks}
use Rattle.requests.proofs.CheckLaws.{sheet-told, sheet-passed}
use Rattle.refusal.specs.Number.{number_of}
use Rattle.refusal.specs.NumberLaws.{number-positive}
use Rattle.refusal.specs.declared.Refusal.{Refusal}

module _ (limit : ℕ) (q : Question) (slots space output work : ℕ) where
  abbrev before : ℕ
  before = first_refusal (call_checks limit q slots space output work)

  pub sheet-refused : (x : Refusal) → refusal limit q.sheet ≡ number_of x → before ≡ number_of x
  sheet-refused x e = sheet-told limit q slots space output work (λ z. absurd (omega (arith, number-positive x))) ∙ e

  module _ (accepted : refusal limit q.sheet ≡ 0) where
    pub dimension-refused : top < q.dimension → before ≡ 8
    dimension-refused h = sheet-passed limit q slots space output work accepted ∙ rw (lt-ltb top q.dimension h)

    pub output-short : q.dimension ≤ top → output < slots → before ≡ 9
    output-short h k = sheet-passed limit q slots space output work accepted ∙ rw (le-ltb top q.dimension h, lt-ltb output slots k)

    pub work-short : q.dimension ≤ top → work < space → before ≡ 9
    work-short h k =
        sheet-passed limit q slots space output work accepted ∙ rw (le-ltb top q.dimension h, lt-ltb work space k) (either (ltb output slots))
      where
        either : (t : Bool) → first_refusal ((9, t || true) ∷ []) ≡ 9
        either true = refl
        either false = refl
