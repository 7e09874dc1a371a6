-- `report::report_at` meets its contract: each return is one case of the definition of the report call (`Admitting`, `ReportAnswers`).
use Rattle.std.proofs.lemmas.Result.{err_from_is_err_and}
use Rattle.reduction_steps.proofs.PivotLaws.{pivot_rule-is-rule}
use Rattle.requests.specs.Question.{asked}
use Rattle.calls.specs.declared.admission.Request.TheVariants.{Report}
use Rattle.calls.proofs.Admitting.{Lent, lengths, Granted, admit-granted}
use Rattle.calls.proofs.Writing.{can-report}
use Rattle.calls.proofs.ReportAnswers.{report-refuses, report-wide, report-done}
use Rattle.calls.proofs.report.report_at.Goals as goal
use Rattle.calls.proofs.report.report_at.Goals.{Start, In_ok-n, In_ok-reduced, After-write_report-counts}

abbrev lent : Start → Lent
lent s =
    let a = s.args in
    record { limit = a.sheet.limit; question = asked a.s.now a.dimension; output = a.report.now; work = a.work.now }

pub returns-in_err-n : goal.returns-in_err-n
returns-in_err-n c =
    let l = lent (goal.at.returns-in_err-n c).Start in
    let e = err_from_is_err_and c.from_residual.result c.from_residual.ensures.1 in
    rw (e.1, e.2) (report-refuses l c.in_err-n.ensures)

module _ (c : In_ok-n) where
  abbrev start : Start
  start = (goal.at.In_ok-n c).Start

  abbrev given : Lent
  given = lent start

  granted : Granted (lengths given) Report c.in_ok-n.n
  granted = admit-granted (lengths given) Report c.in_ok-n.ensures start.requires (record { small = λ i. (c.type_inv.s i).fits })

-- ---- the reductions

pub reduce_twice-requires : goal.reduce_twice-requires
reduce_twice-requires c =
    let g = granted (goal.at.reduce_twice-requires c).In_ok-n in
    record { accepted = (g.library, g.passed.dimension); p_in_bounds = g.passed.work-slots; cell_counts_read = g.cell-counts }

pub returns-in_err-reduced : goal.returns-in_err-reduced
returns-in_err-reduced c =
    let s = (goal.at.returns-in_err-reduced c).In_ok-n in
    let e = err_from_is_err_and c.from_residual-in_err-reduced.result c.from_residual-in_err-reduced.ensures.1 in
    rw (e.1, e.2) (report-wide (given s) (granted s) c.in_err-reduced.ensures)

-- ---- the report

pub write_report-counts-requires : goal.write_report-counts-requires
write_report-counts-requires c =
    let s = (goal.at.write_report-counts-requires c).In_ok-n in
    let g = granted s in
    can-report pivot_rule-is-rule g.complex g.passed.work-slots c.in_ok-reduced.ensures g.passed.output-slots

pub returns : goal.returns
returns c =
    let s = (goal.at.returns c).In_ok-n in
    report-done (given s) (granted s) c.in_ok-reduced.ensures c.write_report-counts.ensures c.clear.ensures
