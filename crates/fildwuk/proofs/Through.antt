-- From the library's report call to the host's: what is answered and written where the library's call refused (report-refuses) and where it is done
-- (report-writes), and that the numbers have room (report-room, writable).
use mathlib.Core.Path.{◌≡◌, refl, sym, ◌∙◌, ap}
use mathlib.Core.List.{List, ◌++◌}
use Prim.Native.Nat.{ℕ, ◌+◌, ◌*◌, ◌≤◌, ◌<◌, min}
use native.Mathlib.Omega.{arith}
use lib.ListN.{length, get_or, take, drop, length-append}
use lib.Seq.{take-append-le, length-take-le}
use lib.IntN.{ℤ}
use Rattle.std.specs.Prelude.{Result, Ok, Err}
use Rattle.lists.specs.Splice.{splice}
use Rattle.sheet_format.specs.Check.{count_field}
use Rattle.sheet_format.specs.Sheet.{Bytes}
use Rattle.sheet_format.specs.SheetLaws.{count-sections_of}
use Rattle.refusal.specs.declared.Refusal.{Refusal}
use Rattle.refusal.specs.Number.{number_of}
use Rattle.trials.specs.Trial.{Called, number_told}
use Rattle.reduction_steps.specs.State.{State}
use Rattle.reports.specs.Report as reports
use Rattle.reports.specs.Report.{report_list}
use Rattle.reports.specs.Reductions.{Reductions, no_transforms, reduced}
use Rattle.requests.specs.Question as question
use Rattle.requests.specs.Question.{Question, cell_count, two}
use Rattle.requests.specs.Call.{report, of_reduced, call}
use Rattle.limits.specs.Limits.{host_limit}
use Rattle.host_calls.specs.Bytes.{numbers_bytes}
use Rattle.host_calls.specs.Host.{slots_in, host_call}
use Rattle.host_calls.specs.Host.{report_room, work_room}
use Rattle.host_calls.proofs.HostCallLaws.{refused-same, done-same, report-early}
use Rattle.answers.proofs.HostSizes.{ReportSized, report-sized}
use Rattle.writers.specs.declared.counts.Counts.{Counts}
use Rattle.calls.specs.CallAnswers.{counts_in, answered, CallAnswers}
use Rattle.fildwuk.specs.HostAnswers.{HostAnswers}

-- ---- the slots that are lent

-- a library's call at the host's limit, with the first `many` slots of the numbers lent for what the host's output is to hold
pub record Lent (room space-room : ℕ) : Type 0 where
  pub limit : ℕ
  pub question : Question
  pub output : List ℕ
  pub numbers : List ℤ
  pub work : List ℤ
  pub many : ℕ
  pub host : limit ≡ host_limit
  pub bytes : Bytes (question).sheet
  pub lent : many ≡ min (slots_in output) room
  pub full : length numbers ≡ room
  pub space : length work ≡ space-room

abbrev pub lend : (room space-room : ℕ) {limit many : ℕ} (q : Question) (output : List ℕ) (numbers work : List ℤ) → limit ≡ host_limit
    → ((i : ℕ) → get_or q.sheet i 0 < 256) → many ≡ min (slots_in output) room → length numbers ≡ room → length work ≡ space-room → Lent room space-room
lend room space-room {limit} {many} q output numbers work host small lent full space = record {
  limit = limit;
  question = q;
  output = output;
  numbers = numbers;
  work = work;
  many = many;
  host = host;
  bytes = record { small = small };
  lent = lent;
  full = full;
  space = space;
}

pub lent_length : {room many : ℕ} (output : List ℕ) (numbers : List ℤ) → many ≡ min (slots_in output) room → length numbers ≡ room
    → length (take many numbers) ≡ many
lent_length {many = many} output numbers lent full = length-take-le many numbers (omega (arith, lent, full))

abbrev pub slots : {room space-room : ℕ} → Lent room space-room → List ℤ
slots l = take l.many l.numbers

-- the numbers after the call: what it left in the slots, before what follows them
abbrev pub left : {room space-room : ℕ} → Lent room space-room → List ℤ → List ℤ
left l after = after ++ drop l.many l.numbers

pub size : {room space-room : ℕ} (l : Lent room space-room) → length (slots l) ≡ min (slots_in l.output) room
size l = lent_length l.output l.numbers l.lent l.full ∙ l.lent

-- so many numbers of the slots can be written
pub writable : {room space-room : ℕ} (l : Lent room space-room) (after : List ℤ) {n : ℕ} → n ≤ length (slots l) → length after ≡ length (slots l)
    → (n ≤ length (left l after)) × (8 * n ≤ length l.output)
writable l after fits same = (omega (arith, fits, same, length-append after (drop l.many l.numbers)), omega (arith, fits, size l))

-- the length of a report that the reductions give
abbrev length_in : Question → Reductions → ℕ
length_in q R = of_reduced 0 (λ s r x. length (report_list (cell_count q) s r x)) R

-- ---- the report

module _ (l : Lent report_room work_room) {r : Result Counts Refusal} {after work' : List ℤ} (a : CallAnswers (call l.limit l.question report (slots l) l.work) r after work') where
  abbrev called : Called reports.Counts ℤ
  called = call host_limit l.question report (slots l) l.work

  -- what the library's call comes to at the host's limit
  called_is : called ≡ record { answer = answered r; output = after; work = work' }
  called_is = ap (λ (n : ℕ). call n l.question report (slots l) l.work) (sym l.host) ∙ a.is

  told : {x : Result Counts Refusal} → r ≡ x → called.answer ≡ answered x
  told e = ap (λ (c : Called reports.Counts ℤ). c.answer) called_is ∙ ap answered e

  pub report-refuses : {x : Refusal} → r ≡ Err x → HostAnswers (host_call l.question report l.output) (number_of x) l.output
  report-refuses {x} e = record {
    is =
        refused-same l.question report l.output (slots l) l.work (report-early l.question l.output (slots l) l.work (size l) l.space) (number_of x) (told e);
  }

  module _ {x : Counts} (e : r ≡ Ok x) where
    pub report-sizes : ReportSized l.question (length (slots l)) (counts_in x)
    report-sizes = report-sized l.question l.bytes (slots l) l.work (counts_in x) (told e)

    module _ {cells : ℕ} (is : cells ≡ count_field l.question.sheet l.question.dimension) where
      abbrev numbers_of : ℕ
      numbers_of = 2 + x.torsion + (x.torsion + x.free) * cells

      cells_are : cells ≡ cell_count l.question
      unfolding question.cells
      cells_are = is ∙ sym (count-sections_of l.question.sheet l.question.dimension)

      pub report-room : 2 + x.torsion + (x.torsion + x.free) * cells ≤ length (slots l)
      report-room = rw cells_are report-sizes.fits

      -- the report has so many numbers
      long : (s r : ℕ) (y : State) → two l.question no_transforms ≡ reduced s r y → length (report_list (cell_count l.question) s r y) ≡ numbers_of
      long s r y d =
          let k = report-sizes.is-sized.reductions-behind in
          let same : reduced s r y ≡ reduced k.rows k.rank k.state = sym d ∙ k.reductions-are in
          rw cells_are (ap (length_in l.question) same ∙ report-sizes.is-sized.report-size)

      pub report-writes : {output' : List ℕ} → length after ≡ length (slots l)
          → output' ≡ splice 0 (numbers_bytes (take numbers_of (left l after))) l.output → HostAnswers (host_call l.question report l.output) 0 output'
      report-writes same e' = record {
        is =
            done-same l.question report l.output (slots l) l.work (report-early l.question l.output (slots l) l.work (size l) l.space) refl numbers_of (ap number_told (told e)) long
            ∙ ap (λ (numbers : List ℤ). record { number = 0; output = splice 0 (numbers_bytes (take numbers_of numbers)) l.output })
            (ap (λ (c : Called reports.Counts ℤ). c.output) called_is)
            ∙ ap (λ (numbers : List ℤ). record { number = 0; output = splice 0 (numbers_bytes numbers) l.output })
            (sym (take-append-le numbers_of after (drop l.many l.numbers) (omega (arith, report-room, same))))
            ∙ ap (λ (o : List ℕ). record { number = 0; output = o }) (sym e');
      }
