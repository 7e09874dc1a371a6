-- What a host call answers: refuses, for a refusal before the reductions; goes-wide, for 13; is-done.
use mathlib.Core.Path.{◌≡◌, sym, ◌∙◌, ap}
use mathlib.Core.List.{List}
use Prim.Native.Nat.{ℕ}
use native.Mathlib.Omega.{arith}
use Rattle.reports.specs.Reductions.{too_wide, reduced}
use Rattle.reduction_steps.specs.State.{State}
use Rattle.requests.specs.Question.{Question, two}
use Rattle.trials.specs.Trial.{first_refusal}
use Rattle.requests.specs.Call.{Request, transforms_of, end_checks}
use Rattle.host_calls.specs.Host.{host_early, bytes_left, host_call}
use Rattle.host_calls.proofs.HostCallLaws.{host-early, host-wide, host-done}
use Rattle.refusal.specs.Number.{number_of}
use Rattle.refusal.specs.NumberLaws.{number-positive}
use Rattle.refusal.specs.declared.Refusal.{Refusal}
use Rattle.fildwuk.specs.HostAnswers.{HostAnswers}

module _ (q : Question) (request : Request) (output : List ℕ) where
  pub refuses : (x : Refusal) → host_early q request output ≡ number_of x → HostAnswers (host_call q request output) (number_of x) output
  refuses x e = record {
    is = host-early q request output (λ z. absurd (omega (arith, number-positive x))) ∙ ap (λ (k : ℕ). record { number = k; output = output }) e;
  }

  module _ (passes : host_early q request output ≡ 0) where
    pub goes-wide : two q (transforms_of request) ≡ too_wide → HostAnswers (host_call q request output) 13 output
    goes-wide e = record { is = host-wide q request output passes e }

    pub is-done : {s r : ℕ} {x : State} {output' : List ℕ} → two q (transforms_of request) ≡ reduced s r x → first_refusal (end_checks q request s r x) ≡ 0
        → output' ≡ bytes_left q request output s r x → HostAnswers (host_call q request output) 0 output'
    is-done {s} {r} {x} e ends o = record { is = host-done q request output passes s r x e ends ∙ ap (λ (l : List ℕ). record { number = 0; output = l }) (sym o) }
