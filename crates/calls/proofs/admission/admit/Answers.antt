-- `admission::admit` meets its contract: each refusal is the first of the checks 1 to 9 that applies (`Refusals`).
use mathlib.Core.Path.{◌≡◌, sym, ◌∙◌, ap}
use Prim.Native.Nat.{ℕ}
use Rattle.std.proofs.lemmas.Result.{err_from_is_err_and}
use borrow.Author.Tests.{ltb-true, ltb-false}
use lib.Dec.{ltb}
use Rattle.sheet_format.specs.Check.{refusal}
use Rattle.requests.specs.Question.{asked}
use Rattle.requests.proofs.CheckLaws.{call_checks-zero}
use Rattle.calls.specs.Admission.{slots_for, space_for}
use Rattle.two_reductions.specs.CellCounts.{DimensionCounts}
use Rattle.calls.proofs.Refusals.{sheet-refused, dimension-refused, output-short, work-short}
use Rattle.calls.proofs.Admitting.{Lengths, slots_asked, space_asked}
use Rattle.calls.proofs.admission.admit.Goals as goal
use Rattle.calls.proofs.admission.admit.Goals.{Start, In_ok-read, After-lacks_slots, After-work_slots}

abbrev given : Start → Lengths
given s =
    let a = s.args in
    record { limit = a.sheet.limit; question = asked a.s.now a.dimension; slots = a.output; work = a.work }

-- the slots that are asked for
abbrev slots : Start → ℕ
slots s = slots_asked (given s) s.args.request

abbrev space : Start → ℕ
space s = space_asked (given s) s.args.request

pub returns-in_err-read : goal.returns-in_err-read
returns-in_err-read c =
    let s = (goal.at.returns-in_err-read c).Start in
    let a = s.args in
    let e = err_from_is_err_and c.from_residual.result c.from_residual.ensures.1 in
    rw (e.1, e.2)
    (sheet-refused a.sheet.limit (given s).question (slots s) (space s) a.output a.work _ (sym c.in_err-read.ensures.number))

module _ (c : In_ok-read) where
  abbrev start : Start
  start = (goal.at.In_ok-read c).Start

  accepted : refusal start.args.sheet.limit start.args.s.now ≡ 0
  accepted = sym c.in_ok-read.ensures.number

-- ---- the dimension

pub returns-then-p-gt-TOP : goal.returns-then-p-gt-TOP
returns-then-p-gt-TOP c =
    let s = start (goal.at.returns-then-p-gt-TOP c).In_ok-read in
    let a = s.args in
    dimension-refused a.sheet.limit (given s).question (slots s) (space s) a.output a.work (accepted (goal.at.returns-then-p-gt-TOP c).In_ok-read) c.if-p-gt-TOP.true

-- ---- the slices

module _ (c : After-lacks_slots) where
  abbrev told : In_ok-read
  told = (goal.at.After-lacks_slots c).In_ok-read

  output-is : ltb (start told).args.output (slots (start told)) ≡ c.lacks_slots.result
  output-is =
      ap (λ (n : DimensionCounts). ltb (start told).args.output (slots_for (start told).args.request n)) (sym c.of-n.ensures.is)
      ∙ sym c.lacks_slots.ensures

pub returns-then-lacks_slots : goal.returns-then-lacks_slots
returns-then-lacks_slots c =
    let t = told (goal.at.returns-then-lacks_slots c).After-lacks_slots in
    let a = (start t).args in
    output-short a.sheet.limit (given (start t)).question (slots (start t)) (space (start t)) a.output a.work (accepted t) c.if-p-gt-TOP.false
    (ltb-true a.output (slots (start t)) (output-is (goal.at.returns-then-lacks_slots c).After-lacks_slots ∙ c.if-lacks_slots.true))

module _ (c : After-work_slots) where
  abbrev tried : After-lacks_slots
  tried = (goal.at.After-work_slots c).After-lacks_slots

  work-is : c.work_slots.result ≡ space (start (told tried))
  work-is = c.work_slots.ensures ∙ ap (space_for (start (told tried)).args.request) tried.of-n.ensures.is

pub returns-then-work-work_slots : goal.returns-then-work-work_slots
returns-then-work-work_slots c =
    let t = told (tried (goal.at.returns-then-work-work_slots c).After-work_slots) in
    let a = (start t).args in
    work-short a.sheet.limit (given (start t)).question (slots (start t)) (space (start t)) a.output a.work (accepted t)
    (tried (goal.at.returns-then-work-work_slots c).After-work_slots).if-p-gt-TOP.false (rw (← work-is (goal.at.returns-then-work-work_slots c).After-work_slots) c.if-work-work_slots.true)

pub returns : goal.returns
returns c =
    let o = tried (goal.at.returns c).After-work_slots in
    let t = told o in
    let a = (start t).args in (
      (call_checks-zero a.sheet.limit (given (start t)).question (slots (start t)) (space (start t)) a.output a.work).1 (record {
        accepted = accepted t;
        dimension = o.if-p-gt-TOP.false;
        output-slots = ltb-false a.output (slots (start t)) (output-is o ∙ c.if-lacks_slots.false);
        work-slots = rw (← work-is (goal.at.returns c).After-work_slots) c.if-work-work_slots.false;
      }),
      o.of-n.ensures,
    )
