-- What the call on many chains answers: lists-refuse, for the checks 1 to 9; length-refuses, for 10; cycles-refuse, for 11 and 12; lists-wide,
-- lists-done.
use mathlib.Core.Path.{◌≡◌, refl, ◌∙◌, ap}
use mathlib.Core.Bool.{false}
use mathlib.Core.Logic.{◌≢◌}
use mathlib.Core.List.{List}
use Prim.Native.Nat.{ℕ, ◌*◌}
use Rattle.std.specs.Prelude.{Ok, Err}
use native.Mathlib.Omega.{arith}
use lib.IntN.{ℤ, pos}
use lib.ListN.{length, replicate}
use Rattle.limits.specs.Limits.{coefficient_limit}
use Rattle.lists.specs.Splice.{splices}
use Rattle.trials.specs.Trial.{first_refusal, Called}
use Rattle.complexes.specs.Complex.{Sections}
use Rattle.sheet_format.specs.Check.{sections_of}
use Rattle.reduction_steps.specs.State.{State}
use Rattle.reduction_steps.proofs.PivotLaws.{pivot_rule-is-rule}
use Rattle.reports.specs.Report as reports
use Rattle.reports.specs.Report.{coordinate_list}
use Rattle.reports.specs.Reductions.{no_transforms, too_wide}
use Rattle.requests.proofs.CallLaws.{no_ending}
use Rattle.requests.specs.Question.{cells, rule, two}
use Rattle.requests.specs.Chains.{chain_at, cycles_checks}
use Rattle.requests.proofs.ChainsLaws.{chain-inside, length-chain_at}
use Rattle.requests.specs.Call.{lists, list_slots, numbers_of, call}
use Rattle.refusal.specs.Number.{number_of}
use Rattle.refusal.specs.declared.Refusal.{Refusal}
use Rattle.refusal.specs.declared.Refusal.TheVariants as refusal
use Rattle.two_reductions.specs.Slices.{state_in}
use Rattle.writers.specs.Written.{Counted, CanList, coordinates_of}
use Rattle.writers.specs.declared.counts.Counts.{Counts}
use Rattle.two_reductions.specs.declared.reduced.Reduced.{Reduced}
use Rattle.passes.specs.PassAnswers.{Cleared}
use Rattle.calls.specs.Admission.{admission}
use Rattle.calls.specs.CallAnswers.{CallAnswers}
use Rattle.two_reductions.specs.declared.cell_counts.CellCounts.{CellCounts}
use Rattle.calls.specs.declared.admission.Request.TheVariants.{Coordinates}
use Rattle.calls.proofs.Admitting.{Lent, lengths, cells_of, Granted, twice, Reduces}
use Rattle.calls.proofs.Answering.{refuses, goes-wide, is-done}
use Rattle.calls.proofs.ListChecks.{lists_early, admission-told, length-told, cycles-next, small-coefficients}
use Rattle.calls.proofs.Writing.{follower-width, can-coordinate}

module _ (l : Lent) (many : ℕ) (chains : List ℤ) where
  abbrev K : Sections
  K = sections_of l.question.sheet

  abbrev p : ℕ
  p = l.question.dimension

  -- n_p
  abbrev each : ℕ
  each = cells_of l.question

  abbrev early : ℕ
  early = lists_early (lengths l) many chains

  -- what the coordinates leave
  abbrev left : ℕ → ℕ → State → List ℤ
  left s r x = splices (list_slots l.question (lists many chains)) (numbers_of l.question (lists many chains) s r x) many l.output

  abbrev pub lists_called : Called reports.Counts ℤ
  lists_called = call l.limit l.question (lists many chains) l.output l.work

  told : (x : Refusal) → early ≡ number_of x → CallAnswers lists_called (Err x) l.output l.work
  unfolding call
  told x e = refuses early no_ending (two l.question no_transforms) left l.output l.work e

  pub lists-refuse : (x : Refusal) → admission l.limit l.question (Coordinates many) (length l.output) (length l.work) ≡ number_of x
      → CallAnswers lists_called (Err x) l.output l.work
  lists-refuse x e = told x (admission-told (lengths l) many chains x e)

  module _ {n : CellCounts} (g : Granted (lengths l) (Coordinates many) n) where
    pub length-refuses : length chains ≢ many * each → CallAnswers lists_called (Err refusal.ChainLengthDiffers) l.output l.work
    length-refuses d = told refusal.ChainLengthDiffers (length-told (lengths l) many chains g d)

    module _ (size : length chains ≡ many * each) where
      pub cycles-refuse : (x : Refusal) → first_refusal (cycles_checks coefficient_limit K p many chains) ≡ number_of x → CallAnswers lists_called (Err x) l.output l.work
      cycles-refuse x e = told x (cycles-next (lengths l) many chains g size ∙ e)

      module _ (passed : first_refusal (cycles_checks coefficient_limit K p many chains) ≡ 0) where
        passes : early ≡ 0
        passes = cycles-next (lengths l) many chains g size ∙ passed

        pub lists-wide : {x : Refusal} {work' : List ℤ} → (twice (lengths l) false ≡ too_wide) × Cleared (length l.work) x work'
            → CallAnswers lists_called (Err x) l.output work'
        unfolding call two rule cells
        lists-wide h = goes-wide early no_ending (two l.question no_transforms) left l.output l.work passes h.0 h.1

        module _ {x : Reduced} {w : List ℤ} (h : Reduces (lengths l) false x w) where
          -- the lists can be written
          pub can-list : CanList x w each many chains (length l.output)
          can-list = record {
            size = size;
            room = g.passed.output-slots;
            each = λ i m.
                can-coordinate pivot_rule-is-rule g.complex g.passed.work-slots h
                (omega (arith, chain-inside each many chains size i m, size, g.passed.output-slots))
                (length-chain_at each many chains size i m) (small-coefficients (lengths l) many chains passed i m);
          }

          pub lists-done : {counts : Counts} {coordinates' work' : List ℤ} → Counted x w counts
              → coordinates' ≡ splices each (λ i. coordinates_of x w (chain_at each chains i)) many l.output → work' ≡ replicate (length w) (pos 0)
              → CallAnswers lists_called (Ok counts) coordinates' work'
          unfolding call two rule cells
          lists-done k o e =
              is-done early no_ending (two l.question no_transforms) left l.output l.work passes h.is refl k
              (o
              ∙ ap (λ (width : ℕ). splices each (λ i. coordinate_list width x.workspace.matrix.lines (state_in x w) (chain_at each chains i)) many l.output)
              (follower-width pivot_rule-is-rule g.complex g.passed.work-slots h))
              (e ∙ ap (λ (m : ℕ). replicate m (pos 0)) h.kept.same_length)
