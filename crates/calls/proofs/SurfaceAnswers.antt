-- What the surface call answers: surface-refuses, for the checks 1 to 9; length-refuses, for 10; cycle-refuses, for 11 and 12; surface-wide,
-- surface-bounds-nothing, for 17; surface-done.
use mathlib.Core.Path.{◌≡◌, refl, sym, ◌∙◌, ap}
use mathlib.Core.Bool.{Bool, true, false}
use mathlib.Core.Logic.{◌≢◌}
use mathlib.Core.List.{List, [], ◌∷◌, ◌++◌}
use Prim.Native.Nat.{ℕ, suc, ◌≤◌}
use Rattle.std.specs.Prelude.{Ok, Err}
use native.Mathlib.Nat.{one-mul}
use borrow.Author.Tests.{ne_eqb, eq-eqb}
use lib.IntN.{ℤ, pos, nat_abs}
use lib.ListN.{length, replicate}
use Rattle.integers.specs.Slot.{slot}
use Rattle.limits.specs.Limits.{surface_coefficient_limit}
use Rattle.lists.specs.Splice.{written, splices}
use Rattle.lists.proofs.SplicesLaws.{splices-single}
use Rattle.trials.specs.Trial.{first_refusal, Called}
use Rattle.trials.proofs.FirstLaws.{first-zero}
use Rattle.complexes.specs.Complex.{Sections, count}
use Rattle.sheet_format.specs.Check.{sections_of}
use Rattle.reduction_steps.specs.State.{State}
use Rattle.reduction_steps.proofs.PivotLaws.{pivot_rule-is-rule}
use Rattle.reports.specs.Report as reports
use Rattle.reports.specs.Surface.{bounds_nothing, surface_list}
use Rattle.reports.specs.Reductions.{second_columns_only, too_wide}
use Rattle.requests.specs.Question.{cells, rule, two}
use Rattle.requests.specs.Chains.{cycle_checks, chain_checks}
use Rattle.requests.proofs.ChainsLaws.{coefficients-iff}
use Rattle.requests.specs.Call.{surface, list_slots, numbers_of, end_checks, call_checks, early_checks, call}
use Rattle.refusal.specs.Number.{number_of}
use Rattle.refusal.specs.declared.Refusal.{Refusal}
use Rattle.refusal.specs.declared.Refusal.TheVariants as refusal
use Rattle.two_reductions.specs.Slices.{state_in}
use Rattle.writers.specs.Written.{Counted, CanSurface}
use Rattle.writers.specs.declared.counts.Counts.{Counts}
use Rattle.two_reductions.specs.declared.reduced.Reduced.{Reduced}
use Rattle.passes.specs.PassAnswers.{Cleared}
use Rattle.calls.specs.Admission.{admission}
use Rattle.calls.specs.CallAnswers.{CallAnswers}
use Rattle.two_reductions.specs.declared.cell_counts.CellCounts.{CellCounts}
use Rattle.calls.specs.declared.admission.Request.TheVariants.{Surface}
use Rattle.calls.proofs.Admitting.{Lent, lengths, slots_asked, space_asked, Granted, twice, Reduces}
use Rattle.calls.proofs.Answering.{refuses, goes-wide, bounds-nothing, is-done}
use Rattle.calls.proofs.EarlyChecks.{early-told, early-next}
use Rattle.calls.proofs.Writing.{follower-width, transform-width, can-surface}

module _ (l : Lent) (z : List ℤ) where
  abbrev K : Sections
  K = sections_of l.question.sheet

  abbrev p : ℕ
  p = l.question.dimension

  -- n_p and n_(p+1)
  abbrev n : ℕ
  n = count K p

  abbrev next : ℕ
  next = count K (suc p)

  abbrev early : ℕ
  early = first_refusal (early_checks l.limit l.question (surface z) (length l.output) (length l.work))

  -- 10 to 12
  abbrev chain_checked : List (ℕ × Bool)
  chain_checked = chain_checks surface_coefficient_limit K p z

  early-is : early
      ≡ first_refusal (call_checks l.limit l.question (slots_asked (lengths l) Surface) (space_asked (lengths l) Surface) (length l.output) (length l.work) ++ chain_checked)
  unfolding early_checks cells
  early-is = ap
      (λ (slots : ℕ). first_refusal (call_checks l.limit l.question slots (space_asked (lengths l) Surface) (length l.output) (length l.work) ++ chain_checked))
      (one-mul next)

  -- what the surface leaves
  abbrev left : ℕ → ℕ → State → List ℤ
  left s r x = splices (list_slots l.question (surface z)) (numbers_of l.question (surface z) s r x) 1 l.output

  abbrev pub surface_called : Called reports.Counts ℤ
  surface_called = call l.limit l.question (surface z) l.output l.work

  told : (x : Refusal) → early ≡ number_of x → CallAnswers surface_called (Err x) l.output l.work
  unfolding call
  told x e = refuses early (end_checks l.question (surface z)) (two l.question (second_columns_only true)) left l.output l.work e

  pub surface-refuses : (x : Refusal) → admission l.limit l.question Surface (length l.output) (length l.work) ≡ number_of x
      → CallAnswers surface_called (Err x) l.output l.work
  surface-refuses x e = told x (early-told (lengths l) Surface chain_checked early-is x e)

  module _ {cell-counts : CellCounts} (g : Granted (lengths l) Surface cell-counts) where
    chain_next : early ≡ first_refusal chain_checked
    chain_next = early-next (lengths l) Surface chain_checked early-is g

    pub length-refuses : length z ≢ n → CallAnswers surface_called (Err refusal.ChainLengthDiffers) l.output l.work
    unfolding chain_checks
    length-refuses d = told refusal.ChainLengthDiffers (chain_next ∙ rw (ne_eqb (length z) n d))

    module _ (size : length z ≡ n) where
      cycle-next : early ≡ first_refusal (cycle_checks surface_coefficient_limit K p z)
      unfolding chain_checks
      cycle-next = chain_next ∙ rw (eq-eqb (length z) n size)

      pub cycle-refuses : (x : Refusal) → first_refusal (cycle_checks surface_coefficient_limit K p z) ≡ number_of x → CallAnswers surface_called (Err x) l.output l.work
      cycle-refuses x e = told x (cycle-next ∙ e)

      module _ (passed : first_refusal (cycle_checks surface_coefficient_limit K p z) ≡ 0) where
        passes : early ≡ 0
        passes = cycle-next ∙ passed

        small : (i : ℕ) → nat_abs (slot z i) ≤ surface_coefficient_limit
        small = (coefficients-iff surface_coefficient_limit z).0 ((first-zero (cycle_checks surface_coefficient_limit K p z) refl).0 passed).0

        pub surface-wide : {x : Refusal} {work' : List ℤ} → (twice (lengths l) true ≡ too_wide) × Cleared (length l.work) x work'
            → CallAnswers surface_called (Err x) l.output work'
        unfolding call two rule cells
        surface-wide h =
            goes-wide early (end_checks l.question (surface z)) (two l.question (second_columns_only true)) left l.output l.work passes h.0 h.1

        module _ {x : Reduced} {w : List ℤ} (h : Reduces (lengths l) true x w) where
          -- the surface can be written
          pub can_write : CanSurface x w z
          can_write = can-surface pivot_rule-is-rule g.complex g.passed.work-slots h size small

          pub has_room : x.workspace.column_follower.width ≤ length l.output
          has_room = rw (transform-width pivot_rule-is-rule g.complex g.passed.work-slots h) g.passed.output-slots

          -- the check at the end, by what the code tells
          abbrev tells : Bool
          tells = bounds_nothing x.workspace.row_follower.width x.workspace.matrix.lines (state_in x w) z

          ending : (b : Bool) → tells ≡ b → first_refusal ((17, bounds_nothing n x.workspace.matrix.lines (state_in x w) z) ∷ []) ≡ first_refusal ((17, b) ∷ [])
          ending b e =
              ap (λ (t : Bool). first_refusal ((17, t) ∷ []))
              (ap (λ (width : ℕ). bounds_nothing width x.workspace.matrix.lines (state_in x w) z) (sym (follower-width pivot_rule-is-rule g.complex g.passed.work-slots h)) ∙ e)

          cleared : {work' : List ℤ} → work' ≡ replicate (length w) (pos 0) → work' ≡ replicate (length l.work) (pos 0)
          cleared e = e ∙ ap (λ (m : ℕ). replicate m (pos 0)) h.kept.same_length

          pub surface-bounds-nothing : {work' : List ℤ} → tells ≡ true → work' ≡ replicate (length w) (pos 0)
              → CallAnswers surface_called (Err refusal.BoundsNothing) l.output work'
          unfolding call two rule cells
          surface-bounds-nothing b e =
              bounds-nothing early (end_checks l.question (surface z)) (two l.question (second_columns_only true)) left l.output l.work passes h.is (ending true b) (cleared e)

          pub surface-done : {counts : Counts} {surface' work' : List ℤ} → tells ≡ false → Counted x w counts
              → surface' ≡ written (surface_list x.workspace.row_follower.width x.workspace.column_follower.width x.rank (state_in x w) z) l.output
              → work' ≡ replicate (length w) (pos 0) → CallAnswers surface_called (Ok counts) surface' work'
          unfolding call two rule cells
          surface-done b k o e =
              is-done early (end_checks l.question (surface z)) (two l.question (second_columns_only true)) left l.output l.work passes h.is (ending false b) k
              (o
              ∙ ap (λ (width : ℕ). written (surface_list width x.workspace.column_follower.width x.rank (state_in x w) z) l.output)
              (follower-width pivot_rule-is-rule g.complex g.passed.work-slots h)
              ∙ ap (λ (width : ℕ). written (surface_list n width x.rank (state_in x w) z) l.output) (transform-width pivot_rule-is-rule g.complex g.passed.work-slots h)
              ∙ sym (splices-single (list_slots l.question (surface z)) (numbers_of l.question (surface z) x.workspace.matrix.lines x.rank (state_in x w)) l.output))
              (cleared e)
