-- What the report call answers: report-refuses, report-wide, report-done.
use mathlib.Core.Path.{◌≡◌, refl, sym, ◌∙◌, ap}
use mathlib.Core.Bool.{false}
use mathlib.Core.List.{List, append-nil}
use Prim.Native.Nat.{ℕ, ◌*◌}
use Rattle.std.specs.Prelude.{Ok, Err}
use native.Mathlib.Nat.{one-mul}
use lib.IntN.{ℤ, pos}
use lib.ListN.{length, replicate}
use Rattle.lists.specs.Splice.{written, splices}
use Rattle.lists.proofs.SplicesLaws.{splices-single}
use Rattle.trials.specs.Trial.{first_refusal, Called}
use Rattle.reduction_steps.specs.State.{State}
use Rattle.reduction_steps.proofs.PivotLaws.{pivot_rule-is-rule}
use Rattle.reports.specs.Report as reports
use Rattle.reports.specs.Report.{report_list}
use Rattle.reports.specs.Reductions.{no_transforms, too_wide}
use Rattle.requests.proofs.CallLaws.{no_ending}
use Rattle.requests.specs.Question.{cells, rule, two}
use Rattle.requests.specs.Call.{report, list_slots, numbers_of, call_checks, early_checks, call}
use Rattle.requests.proofs.CheckLaws.{call_checks-zero}
use Rattle.refusal.specs.Number.{number_of}
use Rattle.refusal.specs.declared.Refusal.{Refusal}
use Rattle.two_reductions.specs.Slices.{state_in}
use Rattle.writers.specs.Written.{WroteReport}
use Rattle.writers.specs.declared.counts.Counts.{Counts}
use Rattle.two_reductions.specs.declared.reduced.Reduced.{Reduced}
use Rattle.passes.specs.PassAnswers.{Cleared}
use Rattle.calls.specs.Admission.{admission}
use Rattle.calls.specs.CallAnswers.{CallAnswers}
use Rattle.two_reductions.specs.declared.cell_counts.CellCounts.{CellCounts}
use Rattle.calls.specs.declared.admission.Request.TheVariants.{Report}
use Rattle.calls.proofs.Admitting.{Lent, lengths, slots_asked, space_asked, Granted, twice, Reduces}
use Rattle.calls.proofs.Answering.{refuses, goes-wide, is-done}
use Rattle.calls.proofs.Writing.{inverse-width}

module _ (l : Lent) where
  -- the first of the early checks
  abbrev early : ℕ
  early = first_refusal (early_checks l.limit l.question report (length l.output) (length l.work))

  -- it is the first of the checks 1 to 9
  early-is : early ≡ admission l.limit l.question Report (length l.output) (length l.work)
  unfolding early_checks cells
  early-is =
      ap first_refusal (append-nil (call_checks l.limit l.question (1 * slots) space (length l.output) (length l.work)))
      ∙ ap (λ (n : ℕ). first_refusal (call_checks l.limit l.question n space (length l.output) (length l.work))) (one-mul slots)
    where
      slots : ℕ
      slots = slots_asked (lengths l) Report

      space : ℕ
      space = space_asked (lengths l) Report

  -- what the report leaves
  abbrev left : ℕ → ℕ → State → List ℤ
  left s r x = splices (list_slots l.question report) (numbers_of l.question report s r x) 1 l.output

  abbrev called : Called reports.Counts ℤ
  called = call l.limit l.question report l.output l.work

  pub report-refuses : {x : Refusal} → admission l.limit l.question Report (length l.output) (length l.work) ≡ number_of x
      → CallAnswers called (Err x) l.output l.work
  unfolding call
  report-refuses e = refuses early no_ending (two l.question no_transforms) left l.output l.work (early-is ∙ e)

  module _ {n : CellCounts} (g : Granted (lengths l) Report n) where
    passes : early ≡ 0
    passes =
        early-is
        ∙ (call_checks-zero l.limit l.question (slots_asked (lengths l) Report) (space_asked (lengths l) Report) (length l.output) (length l.work)).1 g.passed

    pub report-wide : {x : Refusal} {work' : List ℤ} → (twice (lengths l) false ≡ too_wide) × Cleared (length l.work) x work'
        → CallAnswers called (Err x) l.output work'
    unfolding call two rule cells
    report-wide h = goes-wide early no_ending (two l.question no_transforms) left l.output l.work passes h.0 h.1

    pub report-done : {x : Reduced} {w : List ℤ} → Reduces (lengths l) false x w → {counts : Counts} {report' work' : List ℤ} → WroteReport x w l.output counts report'
        → work' ≡ replicate (length w) (pos 0) → CallAnswers called (Ok counts) report' work'
    unfolding call two rule cells
    report-done {x} {w} h k e =
        is-done early no_ending (two l.question no_transforms) left l.output l.work passes h.is refl k.counts
        (k.is
        ∙ ap (λ (width : ℕ). written (report_list width x.workspace.matrix.lines x.rank (state_in x w)) l.output)
        (inverse-width pivot_rule-is-rule g.complex g.passed.work-slots h)
        ∙ sym (splices-single (list_slots l.question report) (numbers_of l.question report x.workspace.matrix.lines x.rank (state_in x w)) l.output))
        (e ∙ ap (λ (m : ℕ). replicate m (pos 0)) h.kept.same_length)
