-- The text of a dimension from what `report_at` leaves: `refused-text` where it refused, `done-text` where it is done, and `done-room`, that the numbers
-- of the report have room.
use mathlib.Core.Path.{◌≡◌, refl, sym, ◌∙◌, ap, subst}
use mathlib.Core.List.{List, ◌++◌}
use Prim.Native.Nat.{ℕ, ◌+◌, ◌*◌, ◌≤◌}
use native.Mathlib.Omega.{arith}
use lib.ListN.{length, drop}
use lib.IntN.{ℤ}
use Rattle.std.specs.Prelude.{Result, Ok, Err}
use Rattle.sheet_format.specs.Layout.{top}
use Rattle.sheet_format.specs.Check.{count_field, refusal}
use Rattle.sheet_format.specs.Sheet.{Bytes}
use Rattle.sheet_format.specs.SheetLaws.{count-sections_of}
use Rattle.refusal.specs.declared.Refusal.{Refusal}
use Rattle.refusal.specs.Number.{number_of}
use Rattle.lists.specs.Splice.{splices}
use Rattle.lists.proofs.SplicesLaws.{splices-single}
use Rattle.trials.specs.Trial.{first_refusal, Called}
use Rattle.reports.specs.Report as reports
use Rattle.reports.specs.Report.{kind, reported, torsion_count, report_list}
use Rattle.reports.proofs.ReportLaws.{length-coordinate_list}
use Rattle.requests.specs.Question as question
use Rattle.requests.specs.Question.{Question, asked, cell_count, two}
use Rattle.requests.specs.Call as requests
use Rattle.requests.specs.Call.{list_slots, numbers_of, early_checks, call}
use Rattle.requests.proofs.CallLaws.{no_ending, with-done}
use Rattle.limits.specs.Limits.{host_limit}
use Rattle.host_calls.specs.Host.{report_room, work_room}
use Rattle.program_text.specs.Text.{refusal_line, dimension_text, report_text}
use Rattle.program_text.proofs.TextLaws.{report_text-report_list}
use Rattle.reports.specs.Reductions.{no_transforms}
use Rattle.answers.proofs.Behind.{Behind}
use Rattle.answers.proofs.HostSizes.{ReportSized, WentWide, report-sized, accepted-passes, accepted-refused}
use Rattle.text.specs.Put.{PutsWithin}
use Rattle.text.specs.Room.{line_room, dimension_room}
use Rattle.text.specs.PutLaws.{within_more}
use Rattle.writers.specs.declared.counts.Counts.{Counts}
use Rattle.calls.specs.CallAnswers.{answered, counts_in, CallAnswers}

-- the text of dimension p of the sheet b
abbrev pub text_of : List ℕ → ℕ → List ℕ
text_of b p = dimension_text p (cell_count (asked b p)) (two (asked b p) no_transforms)

-- what `put_report` asks for
pub record ReportRoom (cells t f : ℕ) (report : List ℤ) : Type 0 where
  pub cells-within : cells ≤ host_limit
  pub torsion-within : t ≤ cells
  pub generators-within : t + f ≤ cells
  pub report-within : 2 + t + (t + f) * cells ≤ length report

-- the report of dimension p of the sheet b is asked for at the host's limit, with slots enough
pub record Asks (limit : ℕ) (b : List ℕ) (p : ℕ) (report work : List ℤ) : Type 0 where
  pub host : limit ≡ host_limit
  pub bytes : Bytes b
  pub accepted : refusal host_limit b ≡ 0
  pub dimension : p ≤ top
  pub report-size : length report ≡ report_room
  pub work-size : length work ≡ work_room

module _ {limit : ℕ} {b : List ℕ} {p : ℕ} {report work : List ℤ} (asks : Asks limit b p report work) where
  abbrev q : Question
  q = asked b p

  -- what the call comes to at the host's limit
  at-host : {r : Result Counts Refusal} {after work' : List ℤ} → CallAnswers (call limit q requests.report report work) r after work'
      → call host_limit q requests.report report work ≡ record { answer = answered r; output = after; work = work' }
  at-host a = rw asks.host at a.is

  pub refused-text : {x : Refusal} {after work' : List ℤ} {at r : ℕ} {out out' : List ℕ} → CallAnswers (call limit q requests.report report work) (Err x) after work'
      → PutsWithin (line_room 1) (refusal_line (number_of x)) at out r out' → PutsWithin dimension_room (text_of b p) at out r out'
  unfolding dimension_text
  refused-text {x} {after} {work'} {at} {r} {out} {out'} a puts =
      subst (λ (text : List ℕ). PutsWithin dimension_room text at out r out') same (within_more (omega arith) puts)
    where
      w : WentWide q (number_of x)
      w = accepted-refused q asks.accepted asks.dimension report work asks.report-size asks.work-size (number_of x) (ap (λ (c : Called reports.Counts ℤ). c.answer) (at-host a))

      same : refusal_line (number_of x) ≡ text_of b p
      same = ap refusal_line w.number_is ∙ ap (dimension_text p (cell_count q)) (sym w.is_wide)

  module _ {x : Counts} {after work' : List ℤ} (a : CallAnswers (call limit q requests.report report work) (Ok x) after work') where
    sizes : ReportSized q (length report) (counts_in x)
    sizes = report-sized q asks.bytes report work (counts_in x) (ap (λ (c : Called reports.Counts ℤ). c.answer) (at-host a))

    cells_are : {cells : ℕ} → cells ≡ count_field b p → cells ≡ cell_count q
    unfolding question.cells
    cells_are is = is ∙ sym (count-sections_of b p)

    -- what the reductions leave
    abbrev k : Behind q no_transforms
    k = sizes.is-sized.reductions-behind

    abbrev list : List ℤ
    list = report_list (cell_count q) k.rows k.rank k.state

    abbrev rest : List ℤ
    rest = drop (length list) report

    left : after ≡ list ++ rest
    unfolding call
    left =
        ap (λ (c : Called reports.Counts ℤ). c.output)
        (sym (at-host a)
        ∙ with-done (first_refusal (early_checks host_limit q requests.report (length report) (length work))) no_ending (two q no_transforms)
        (λ s r y. splices (list_slots q requests.report) (numbers_of q requests.report s r y) 1 report) report work
        (accepted-passes q asks.accepted asks.dimension report work asks.report-size asks.work-size) k.rows k.rank k.state k.reductions-are refl)
        ∙ splices-single (list_slots q requests.report) (numbers_of q requests.report k.rows k.rank k.state) report

    pub total-within : x.torsion + x.free ≤ host_limit
    total-within = omega (arith, sizes.is-sized.total-within, sizes.is-sized.cells-within)

    pub done-room : {cells : ℕ} → cells ≡ count_field b p → ReportRoom cells x.torsion x.free report
    done-room is =
        rw (cells_are is) (record {
          cells-within = sizes.is-sized.cells-within;
          torsion-within = omega (arith, sizes.is-sized.total-within);
          generators-within = sizes.is-sized.total-within;
          report-within = sizes.fits;
        })

    pub done-text : {cells at r : ℕ} {out out' : List ℕ} → cells ≡ count_field b p
        → PutsWithin dimension_room (report_text p cells x.torsion (x.torsion + x.free) after) at out r out' → PutsWithin dimension_room (text_of b p) at out r out'
    done-text {cells} {at} {r} {out} {out'} is puts = subst (λ (text : List ℕ). PutsWithin dimension_room text at out r out') same puts
      where
        n : ℕ
        n = cell_count q

        total : x.torsion + x.free ≡ length (reported (kind k.state) k.rows)
        total = sym (sizes.is-sized.coordinates-size report) ∙ length-coordinate_list n k.rows k.state report

        same : report_text p cells x.torsion (x.torsion + x.free) after ≡ text_of b p
        same =
            ap (λ (m : ℕ). report_text p m x.torsion (x.torsion + x.free) after) (cells_are is)
            ∙ ap (λ (t : ℕ). report_text p n t (x.torsion + x.free) after) (ap (λ (c : reports.Counts). c.torsion) sizes.is-sized.counts-are)
            ∙ ap (λ (g : ℕ). report_text p n (torsion_count k.rank k.state) g after) total
            ∙ ap (λ (l : List ℤ). report_text p n (torsion_count k.rank k.state) (length (reported (kind k.state) k.rows)) l) left
            ∙ report_text-report_list p n k.rows k.rank k.state rest
            ∙ ap (dimension_text p n) (sym k.reductions-are)
