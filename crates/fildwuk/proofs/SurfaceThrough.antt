-- From the library's surface call to the host's: what is answered and written where the library's call refused (surface-refuses) and where it is done
-- (surface-writes), and that the numbers have room (surface-room).
use mathlib.Core.Path.{◌≡◌, refl, sym, ◌∙◌, ap}
use mathlib.Core.Bool.{true}
use mathlib.Core.Logic.{◌≢◌, ◌⊎◌, inl, inr}
use mathlib.Core.List.{List}
use Prim.Native.Nat.{ℕ, suc, ◌+◌, ◌*◌, ◌≤◌}
use native.Mathlib.Numerals.{add-one}
use native.Mathlib.Omega.{arith}
use lib.ListN.{length, take, drop}
use lib.Seq.{take-append-le}
use lib.IntN.{ℤ}
use Rattle.std.specs.Prelude.{Result, Ok, Err}
use Rattle.lists.specs.Splice.{splice}
use Rattle.lists.proofs.TabulateLaws.{length-tabulate}
use Rattle.sheet_format.specs.Check.{count_field, refusal}
use Rattle.sheet_format.specs.SheetLaws.{count-sections_of}
use Rattle.refusal.specs.declared.Refusal.{Refusal}
use Rattle.refusal.specs.Number.{number_of}
use Rattle.trials.specs.Trial.{Called, number_told}
use Rattle.reduction_steps.specs.State.{State}
use Rattle.reports.specs.Report as reports
use Rattle.reports.specs.Surface.{surface_at, surface_list}
use Rattle.reports.specs.Reductions.{second_columns_only}
use Rattle.requests.specs.Question as question
use Rattle.requests.specs.Question.{cell_count, next_count}
use Rattle.requests.specs.Call.{surface, call}
use Rattle.limits.specs.Limits.{host_limit}
use Rattle.host_calls.specs.Bytes.{numbers_bytes, chain_from}
use Rattle.host_calls.specs.Host.{HostCalled, host_call, surface_in, work_room_for}
use Rattle.host_calls.proofs.HostChainsLaws.{chain_from-other}
use Rattle.host_calls.proofs.HostCallLaws.{counts-within, refused-same, done-same, surface-early, host-stands}
use Rattle.answers.proofs.CallRight.{answered}
use Rattle.writers.specs.declared.counts.Counts.{Counts}
use Rattle.calls.specs.CallAnswers as calls
use Rattle.calls.specs.CallAnswers.{CallAnswers}
use Rattle.fildwuk.specs.HostAnswers.{HostAnswers}
use Rattle.fildwuk.proofs.Through.{Lent, slots, left, size}

module _ (l : Lent host_limit (work_room_for (second_columns_only true))) (chain : List ℕ) (z : List ℤ)
    (given : (n : ℕ) → n ≤ host_limit → (z ≡ chain_from n chain) ⊎ ((length z ≢ n) × (length chain ≢ 4 * n)))
    {r : Result Counts Refusal} {after work' : List ℤ} (a : CallAnswers (call l.limit l.question (surface z) (slots l) l.work) r after work') where
  abbrev called : Called reports.Counts ℤ
  called = call host_limit l.question (surface z) (slots l) l.work

  -- what the library's call comes to at the host's limit
  called_is : called ≡ record { answer = calls.answered r; output = after; work = work' }
  called_is = ap (λ (n : ℕ). call n l.question (surface z) (slots l) l.work) (sym l.host) ∙ a.is

  told : {x : Result Counts Refusal} → r ≡ x → called.answer ≡ calls.answered x
  told e = ap (λ (c : Called reports.Counts ℤ). c.answer) called_is ∙ ap calls.answered e

  -- on an accepted sheet what is given stands for the chain
  stands : refusal host_limit l.question.sheet ≡ 0
      → (z ≡ chain_from (cell_count l.question) chain) ⊎ ((length z ≢ cell_count l.question) × (length (chain_from (cell_count l.question) chain) ≢ cell_count l.question))
  stands accepted = go (given (cell_count l.question) (counts-within l.question accepted l.question.dimension))
    where
      go : (z ≡ chain_from (cell_count l.question) chain) ⊎ ((length z ≢ cell_count l.question) × (length chain ≢ 4 * cell_count l.question))
          → (z ≡ chain_from (cell_count l.question) chain) ⊎ ((length z ≢ cell_count l.question) × (length (chain_from (cell_count l.question) chain) ≢ cell_count l.question))
      go (inl e) = inl e
      go (inr d) = inr (d.0, chain_from-other (cell_count l.question) chain d.1)

  -- the host's call on the chain is that on what is given
  host-is : {host : HostCalled} → host_call l.question (surface z) l.output ≡ host → host_call l.question (surface_in l.question chain) l.output ≡ host
  host-is e = sym (host-stands l.question z (chain_from (cell_count l.question) chain) stands l.output) ∙ e

  pub surface-refuses : {x : Refusal} → r ≡ Err x → HostAnswers (host_call l.question (surface_in l.question chain) l.output) (number_of x) l.output
  surface-refuses {x} e = record {
    is =
        host-is (refused-same l.question (surface z) l.output (slots l) l.work (surface-early l.question z l.output (slots l) l.work (size l) l.space) (number_of x) (told e));
  }

  module _ {x : Counts} (e : r ≡ Ok x) {next : ℕ} (is : next ≡ count_field l.question.sheet (l.question.dimension + 1)) where
    next-is : next ≡ next_count l.question
    unfolding question.cells
    next-is = is ∙ ap (count_field l.question.sheet) (add-one l.question.dimension) ∙ sym (count-sections_of l.question.sheet (suc l.question.dimension))

    pub surface-room : next ≤ length (slots l)
    surface-room = omega (arith, next-is, (answered host_limit l.question (surface z) (slots l) l.work l.bytes (ap number_told (told e))).passed.output-slots)

    -- the surface has a number for each cell of the next dimension
    long : (s r : ℕ) (y : State) → length (surface_list (cell_count l.question) (next_count l.question) r y z) ≡ next
    unfolding surface_list
    long s r y = length-tabulate (next_count l.question) (surface_at (cell_count l.question) r y z) ∙ sym next-is

    pub surface-writes : {output' : List ℕ} → length after ≡ length (slots l) → output' ≡ splice 0 (numbers_bytes (take next (left l after))) l.output
        → HostAnswers (host_call l.question (surface_in l.question chain) l.output) 0 output'
    surface-writes same e' = record {
      is =
          host-is (done-same l.question (surface z) l.output (slots l) l.work (surface-early l.question z l.output (slots l) l.work (size l) l.space) refl next
          (ap number_told (told e)) (λ s r y d. long s r y))
          ∙ ap (λ (numbers : List ℤ). record { number = 0; output = splice 0 (numbers_bytes (take next numbers)) l.output })
          (ap (λ (c : Called reports.Counts ℤ). c.output) called_is)
          ∙ ap (λ (numbers : List ℤ). record { number = 0; output = splice 0 (numbers_bytes numbers) l.output })
          (sym (take-append-le next after (drop l.many l.numbers) (omega (arith, surface-room, same))))
          ∙ ap (λ (o : List ℕ). record { number = 0; output = o }) (sym e');
    }
