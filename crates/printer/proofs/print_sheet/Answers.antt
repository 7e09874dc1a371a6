-- `print_sheet` meets its contract: the text follows the number that reading the sheet gives.
use mathlib.Core.Path.{sym, ◌∙◌, ap}
use Prim.Native.Nat.{ℕ}
use Rattle.sheet_format.specs.Check.{refusal}
use Rattle.printer.proofs.Program.{accepted-text, refused-text}
use Rattle.printer.proofs.print_sheet.Goals as goal
use Rattle.printer.proofs.print_sheet.Goals.{in-Err, in-Ok}

pub returns : goal.returns
returns c =
    let b = c.args.s.now in
    let number = ap (λ (limit : ℕ). refusal limit b) (sym c.host.ensures) in
    let start = c.new-writer.ensures in
    rw c.written.ensures (elim c.match-read.branch [
      | in-Err w ↦ rw w.writer-is (refused-text b w.in-Err.refusal (number ∙ sym w.in-Err.ensures.number) (rw (start.at, start.out) at w.put_refusal.ensures.puts))
      | in-Ok w ↦ rw w.writer-is (accepted-text b (number ∙ sym w.in-Ok.ensures.number) (rw (start.at, start.out) at w.put_dimensions.ensures.puts))
    ])
