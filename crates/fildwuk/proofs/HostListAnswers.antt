-- What the host call on many chains answers: lists-refuse, for the checks 1 to 9; length-refuses, for 10; cycles-refuse, for 11 and 12; lists-wide,
-- lists-done. `can-list`: its lists can be written.
use mathlib.Core.Path.{◌≡◌, refl, sym, ◌∙◌, ap}
use mathlib.Core.Bool.{false}
use mathlib.Core.Logic.{◌≢◌}
use mathlib.Core.List.{List}
use Prim.Native.Nat.{ℕ, ◌*◌, ◌≤◌}
use native.Mathlib.Omega.{arith}
use lib.IntN.{ℤ}
use lib.ListN.{length}
use Rattle.limits.specs.Limits.{host_limit, coefficient_limit}
use Rattle.lists.specs.Splice.{splices}
use Rattle.trials.specs.Trial.{first_refusal}
use Rattle.complexes.specs.Complex.{Sections}
use Rattle.sheet_format.specs.Check.{sections_of}
use Rattle.reduction_steps.proofs.PivotLaws.{pivot_rule-is-rule}
use Rattle.reports.specs.Report.{coordinate_list}
use Rattle.reports.specs.Reductions.{too_wide}
use Rattle.requests.specs.Question.{Question, cells, rule, two}
use Rattle.requests.specs.Chains.{chain_at, cycles_checks}
use Rattle.requests.proofs.ChainsLaws.{length-chain_at}
use Rattle.requests.specs.Call.{lists}
use Rattle.requests.proofs.CheckLaws.{Passed}
use Rattle.host_calls.specs.Bytes.{numbers_bytes, chain_from}
use Rattle.host_calls.specs.Host.{HostCalled, slots_in, host_early, host_call, lists_in}
use Rattle.host_calls.proofs.HostChainsLaws.{length-chain_from, chain_from-other}
use Rattle.host_calls.specs.Host.{work_room}
use Rattle.host_calls.proofs.HostCallLaws.{counts-within, early-room}
use Rattle.refusal.specs.Number.{number_of}
use Rattle.refusal.specs.declared.Refusal.{Refusal}
use Rattle.refusal.specs.declared.Refusal.TheVariants as refusal
use Rattle.two_reductions.specs.declared.reduced.Reduced.{Reduced}
use Rattle.two_reductions.specs.Slices.{state_in}
use Rattle.calls.specs.Admission.{admission}
use Rattle.two_reductions.specs.declared.cell_counts.CellCounts.{CellCounts}
use Rattle.calls.specs.declared.admission.Request.TheVariants.{Coordinates}
use Rattle.calls.proofs.Admitting.{Lengths, cells_of, Granted, twice, Reduces}
use Rattle.calls.proofs.ListChecks.{lists_early, admission-told, length-told, cycles-next, small-coefficients}
use Rattle.calls.proofs.Writing.{rows-within, follower-width, can-coordinate}
use Rattle.fildwuk.specs.HostAnswers.{HostAnswers}
use Rattle.fildwuk.specs.Lists.{CanListBytes, list_bytes}
use Rattle.fildwuk.proofs.HostAnswering.{refuses, goes-wide, is-done}

-- what a host call was given
abbrev pub host_lengths : Question → List ℕ → ℕ → Lengths
host_lengths q output work = record { limit = host_limit; question = q; slots = slots_in output; work = work }

-- the number of cells, by the sections
pub few-cells : (q : Question) {slots space output work : ℕ} → Passed host_limit q slots space output work → cells_of q ≤ host_limit
unfolding cells
few-cells q h = counts-within q h.accepted q.dimension

module _ (q : Question) (many : ℕ) (chains output : List ℕ) {work : ℕ} (space : work ≡ work_room) where
  abbrev K : Sections
  K = sections_of q.sheet

  abbrev p : ℕ
  p = q.dimension

  -- n_p
  abbrev each : ℕ
  each = cells_of q

  abbrev coefficients : List ℤ
  coefficients = chain_from (many * each) chains

  abbrev l : Lengths
  l = host_lengths q output work

  abbrev called : HostCalled
  called = host_call q (lists_in q many chains) output

  -- the work array has room enough
  early-is : host_early q (lists_in q many chains) output ≡ lists_early l many coefficients
  unfolding cells
  early-is = sym (early-room q (lists many coefficients) output (slots_in output) work refl space)

  told : (x : Refusal) → lists_early l many coefficients ≡ number_of x → HostAnswers called (number_of x) output
  told x e = refuses q (lists_in q many chains) output x (early-is ∙ e)

  pub lists-refuse : (x : Refusal) → admission host_limit q (Coordinates many) (slots_in output) work ≡ number_of x → HostAnswers called (number_of x) output
  lists-refuse x e = told x (admission-told l many coefficients x e)

  module _ {n : CellCounts} (g : Granted l (Coordinates many) n) where
    pub length-refuses : length chains ≢ 4 * (many * each) → HostAnswers called 10 output
    length-refuses d = told refusal.ChainLengthDiffers (length-told l many coefficients g (chain_from-other (many * each) chains d))

    module _ (size : length chains ≡ 4 * (many * each)) where
      sized : length coefficients ≡ many * each
      sized = length-chain_from (many * each) chains size

      pub cycles-refuse : (x : Refusal) → first_refusal (cycles_checks coefficient_limit K p many coefficients) ≡ number_of x → HostAnswers called (number_of x) output
      cycles-refuse x e = told x (cycles-next l many coefficients g sized ∙ e)

      module _ (passed : first_refusal (cycles_checks coefficient_limit K p many coefficients) ≡ 0) where
        passes : host_early q (lists_in q many chains) output ≡ 0
        passes = early-is ∙ cycles-next l many coefficients g sized ∙ passed

        pub lists-wide : twice l false ≡ too_wide → HostAnswers called 13 output
        unfolding two rule cells
        lists-wide e = goes-wide q (lists_in q many chains) output passes e

        module _ {x : Reduced} {w : List ℤ} (h : Reduces l false x w) where
          -- the lists can be written
          pub can-list : CanListBytes x w each many chains (length output)
          can-list = record {
            few = few-cells q g.passed;
            size = size;
            room = omega (arith, g.passed.output-slots);
            short = rows-within pivot_rule-is-rule g.complex g.passed.work-slots h;
            each = λ i m.
                can-coordinate pivot_rule-is-rule g.complex g.passed.work-slots h (omega (arith, few-cells q g.passed)) (length-chain_at each many coefficients sized i m)
                (small-coefficients l many coefficients passed i m);
          }

          pub lists-done : {output' : List ℕ} → output' ≡ splices (8 * each) (list_bytes x w each many chains) many output → HostAnswers called 0 output'
          unfolding two rule cells
          lists-done o =
              is-done q (lists_in q many chains) output passes h.is refl
              (o
              ∙ ap (λ (width : ℕ). splices (8 * each) (λ i. numbers_bytes (coordinate_list width x.workspace.matrix.lines (state_in x w) (chain_at each coefficients i))) many output)
              (follower-width pivot_rule-is-rule g.complex g.passed.work-slots h))
