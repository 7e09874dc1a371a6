-- `put_dimension` meets its contract: the text is `Dimension`'s to say, from what `report_at` ensures.
use native.Mathlib.Omega.{arith}
use Rattle.printer.proofs.Dimension.{Asks, ReportRoom, refused-text, total-within, done-room, done-text}
use Rattle.printer.proofs.put_dimension.Goals as goal
use Rattle.printer.proofs.put_dimension.Goals.{After-report_at, In-Err, In-Ok, After-count}

asks : (c : After-report_at) → Asks c.host.result.limit c.args.s.now c.args.p c.args.slots.now.report c.args.slots.now.work
asks c = record {
  host = c.host.ensures;
  bytes = record { small = λ i. (c.type_inv.s i).fits };
  accepted = c.requires.0;
  dimension = c.requires.1;
  report-size = omega arith;
  work-size = omega arith;
}

room : (c : After-count) → ReportRoom c.count.result c.in-Ok.counts.torsion c.in-Ok.counts.free c.args.slots.now.report
room c = let d = (goal.at.After-count c).In-Ok in done-room (asks (goal.at.In-Ok d).After-report_at) d.in-Ok.ensures c.count.ensures.is

pub overflow_add-generators : goal.overflow_add-generators
overflow_add-generators c =
    let d = (goal.at.overflow_add-generators c).In-Ok in
    omega (arith, total-within (asks (goal.at.In-Ok d).After-report_at) d.in-Ok.ensures)

pub put_report-requires : goal.put_report-requires
put_report-requires c =
    let h = room (goal.at.put_report-requires c).After-count in
    record { p_le_top = (c.requires.1, h.cells-within, h.torsion-within, h.generators-within); cells_in_bounds = (omega (arith, h.report-within, c.report_at.auto.report), c.requires.2) }

pub returns-in-Err : goal.returns-in-Err
returns-in-Err c =
    let d = (goal.at.returns-in-Err c).In-Err in
    let line = c.put_refusal.ensures in
    record { same_reference = line.same_reference; puts = refused-text (asks (goal.at.In-Err d).After-report_at) d.in-Err.ensures line.puts }

pub returns-in-Ok : goal.returns-in-Ok
returns-in-Ok c =
    let d = (goal.at.returns-in-Ok c).After-count in
    let i = (goal.at.After-count d).In-Ok in
    let report = c.put_report.ensures in
    record {
      same_reference = report.same_reference;
      puts = done-text (asks (goal.at.In-Ok i).After-report_at) i.in-Ok.ensures d.count.ensures.is report.puts;
    }
