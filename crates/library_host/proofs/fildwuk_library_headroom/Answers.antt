-- `fildwuk_library_headroom` meets its contract: it answers the number of what the report call answers, and writes the headroom of its counts.
use Rattle.std.proofs.Common.{◌∙◌, sym, ap}
use Rattle.refusal.specs.Told.{told}
use Rattle.library_host.proofs.Told.{told-done, told-refused}
use Rattle.library_host.proofs.fildwuk_library_headroom.Goals as goal
use Rattle.library_host.proofs.fildwuk_library_headroom.Goals.{in-Ok, in_default}

pub returns : goal.returns
returns c =
    let a = c.args in
    elim c.match-answer.branch [
      | in-Ok w ↦ rw (w.peak-is, w.bits-is)
          (told-done a.peak.now a.bits.now c.report-answer.ensures (c.number_told.ensures ∙ ap told (w.answer-is ∙ sym w.in-Ok.is)) w.in-Ok.is)
      | in_default w ↦ rw (w.peak-is, w.bits-is)
          (told-refused a.peak.now a.bits.now c.report-answer.ensures (c.number_told.ensures ∙ ap told w.answer-is) w.in_default.is)
    ]
