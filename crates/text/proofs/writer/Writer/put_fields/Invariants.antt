-- `put_fields` meets its contract. The loop's invariant: the numbers passed are put, each after a space.
use mathlib.Core.Path.{◌≡◌}
use Rattle.text.proofs.Fields.{Fields}
use Rattle.text.proofs.writer.Writer.put_fields.Given as goal

abbrev pub invariant-loop-number : goal.invariant-loop-number
invariant-loop-number l =
    (l.self.out.ghost_name ≡ l.initial.self.out.ghost_name)
    × Fields l.numbers l.initial.self.out.now l.initial.self.at l.self.at l.number-index l.self.out.now
