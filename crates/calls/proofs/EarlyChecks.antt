-- The early checks of a call are the checks 1 to 9 and those of its request: early-told, where 1 to 9 tell one; early-next, where those of the request
-- decide.
use mathlib.Core.Path.{◌≡◌, ◌∙◌}
use mathlib.Core.Bool.{Bool}
use mathlib.Core.List.{List, ◌++◌}
use Prim.Native.Nat.{ℕ}
use native.Mathlib.Omega.{arith}
use Rattle.trials.specs.Trial.{first_refusal}
use Rattle.requests.specs.Call.{call_checks}
use Rattle.requests.proofs.CheckLaws.{call_checks-zero, call-told, call-passed}
use Rattle.refusal.specs.Number.{number_of}
use Rattle.refusal.specs.NumberLaws.{number-positive}
use Rattle.refusal.specs.declared.Refusal.{Refusal}
use Rattle.calls.specs.Admission.{admission}
use Rattle.two_reductions.specs.declared.cell_counts.CellCounts.{CellCounts}
use Rattle.calls.specs.declared.admission.Request.{Request}
use Rattle.calls.proofs.Admitting.{Lengths, slots_asked, space_asked, Granted}

module _ (l : Lengths) (request : Request) (later : List (ℕ × Bool)) {early : ℕ}
    (is : early ≡ first_refusal (call_checks l.limit l.question (slots_asked l request) (space_asked l request) l.slots l.work ++ later)) where
  pub early-told : (x : Refusal) → admission l.limit l.question request l.slots l.work ≡ number_of x → early ≡ number_of x
  early-told x e =
      is
      ∙ call-told l.limit l.question (slots_asked l request) (space_asked l request) l.slots l.work later (λ z. absurd (omega (arith, number-positive x)))
      ∙ e

  pub early-next : {n : CellCounts} → Granted l request n → early ≡ first_refusal later
  early-next g =
      is
      ∙ call-passed l.limit l.question (slots_asked l request) (space_asked l request) l.slots l.work later
      ((call_checks-zero l.limit l.question (slots_asked l request) (space_asked l request) l.slots l.work).1 g.passed)
