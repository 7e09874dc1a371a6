-- From what a call of the library answers to what its export ensures: called-told, and with the headroom told-done and told-refused.
use mathlib.Core.Path.{◌≡◌, refl, sym, subst, ◌∙◌, ap}
use mathlib.Core.List.{List}
use Prim.Native.Nat.{ℕ}
use lib.IntN.{ℤ}
use Rattle.std.specs.Prelude.{Result, Ok, Err}
use Rattle.trials.specs.Trial.{number_told, Called}
use Rattle.reports.specs.Report as reports
use Rattle.refusal.specs.Told as refusal
use Rattle.refusal.specs.declared.Refusal.{Refusal}
use Rattle.writers.specs.declared.counts.Counts.{Counts}
use Rattle.calls.specs.CallAnswers.{CallAnswers, answered}
use Rattle.library_host.specs.LibraryAnswers.{told, LibraryAnswers, HeadroomLeft, HeadroomAnswers}

told-answered : (x : Result Counts Refusal) → refusal.told x ≡ number_told (answered x)
told-answered (Ok counts) = refl
told-answered (Err x) = refl

pub called-told : {called : Called reports.Counts ℤ} {x : Result Counts Refusal} {output work : List ℤ} {r : ℕ} → CallAnswers called x output work → r ≡ refusal.told x
    → LibraryAnswers called r output work
called-told {x = x} {output = output} {work = work} a e = record { is = ap told a.is ∙ (λ i. (sym (e ∙ told-answered x) i, output, work)) }

module _ {called : Called reports.Counts ℤ} {x : Result Counts Refusal} {output work : List ℤ} {r : ℕ} (peak bits : ℕ) (a : CallAnswers called x output work) (n : r ≡ refusal.told x) where
  answer-is : {y : Result Counts Refusal} → x ≡ y → answered y ≡ called.answer
  answer-is e = sym (ap (λ (c : Called reports.Counts ℤ). c.answer) a.is ∙ ap answered e)

  pub told-done : {counts : Counts} → x ≡ Ok counts → HeadroomAnswers called r output work peak counts.peak bits counts.bits
  told-done {counts} e = record {
    answers = called-told a n;
    headroom = subst (λ y. HeadroomLeft y peak counts.peak bits counts.bits) (answer-is e) (refl, refl);
  }

  pub told-refused : {y : Refusal} → x ≡ Err y → HeadroomAnswers called r output work peak peak bits bits
  told-refused e = record {
    answers = called-told a n;
    headroom = subst (λ y. HeadroomLeft y peak peak bits bits) (answer-is e) (refl, refl);
  }
