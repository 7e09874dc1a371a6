-- What a call answers: refuses, for a refusal before the reductions; goes-wide, for 13; bounds-nothing, for 17; is-done.
use mathlib.Core.Path.{◌≡◌, sym, ◌∙◌, ap, ap₂}
use mathlib.Core.List.{List}
use Prim.Native.Nat.{ℕ}
use Rattle.std.specs.Prelude.{Ok, Err}
use native.Mathlib.Omega.{arith}
use lib.IntN.{ℤ, pos}
use lib.ListN.{length, replicate}
use Rattle.trials.specs.Trial.{first_refusal, done, refused}
use Rattle.reduction_steps.specs.State.{State}
use Rattle.reports.specs.Reductions.{Reductions, too_wide, reduced}
use Rattle.reports.specs.Report.{counts_of}
use Rattle.requests.specs.Call.{call_with}
use Rattle.requests.proofs.CallLaws.{Ending, with-early, with-wide, with-end, with-done}
use Rattle.refusal.specs.Number.{number_of}
use Rattle.refusal.specs.NumberLaws.{number-positive}
use Rattle.refusal.specs.declared.Refusal.{Refusal}
use Rattle.refusal.specs.declared.Refusal.TheVariants as refusal
use Rattle.passes.specs.PassAnswers.{Cleared}
use Rattle.writers.specs.Written.{counts_in}
use Rattle.writers.specs.declared.counts.Counts.{Counts}
use Rattle.calls.specs.CallAnswers.{CallAnswers}

module _ (early : ℕ) (ending : Ending) (R : Reductions) (left : ℕ → ℕ → State → List ℤ) (output work : List ℤ) where
  pub refuses : {x : Refusal} → early ≡ number_of x → CallAnswers (call_with early ending R left output work) (Err x) output work
  refuses {x} e = record {
    is =
        with-early early ending R left output work (λ z. absurd (omega (arith, number-positive x)))
        ∙ ap (λ (k : ℕ). record { answer = refused k; output = output; work = work }) e;
  }

  module _ (passes : early ≡ 0) where
    pub goes-wide : {x : Refusal} {work' : List ℤ} → R ≡ too_wide → Cleared (length work) x work'
        → CallAnswers (call_with early ending R left output work) (Err x) output work'
    goes-wide {x} e f = record {
      is =
          with-wide early ending R left output work passes e
          ∙ ap₂ (λ (k : ℕ) (w : List ℤ). record { answer = refused k; output = output; work = w }) (sym f.number) (sym f.zeros);
    }

    -- the one check at the end of the reductions applies
    pub bounds-nothing : {s r : ℕ} {x : State} {work' : List ℤ} → R ≡ reduced s r x → first_refusal (ending s r x) ≡ 17
        → work' ≡ replicate (length work) (pos 0) → CallAnswers (call_with early ending R left output work) (Err refusal.BoundsNothing) output work'
    bounds-nothing {s} {r} {x} e told f = record {
      is = with-end early ending R left output work passes s r x e 16 told ∙ ap (λ (w : List ℤ). record { answer = refused 17; output = output; work = w }) (sym f);
    }

    pub is-done : {s r : ℕ} {x : State} {counts : Counts} {output' work' : List ℤ} → R ≡ reduced s r x → first_refusal (ending s r x) ≡ 0
        → counts_in counts ≡ counts_of s r x → output' ≡ left s r x → work' ≡ replicate (length work) (pos 0)
        → CallAnswers (call_with early ending R left output work) (Ok counts) output' work'
    is-done {s} {r} {x} e ends c o w = record {
      is = with-done early ending R left output work passes s r x e ends ∙ (λ i. record { answer = done (sym c i); output = sym o i; work = sym w i });
    }
