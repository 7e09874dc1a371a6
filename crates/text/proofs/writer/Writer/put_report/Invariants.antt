-- `put_report` meets its contract. The loop's invariant: the lines of the generators passed are put behind the first line.
use mathlib.Core.Path.{◌≡◌}
use Rattle.text.proofs.Generators.{Generators}
use Rattle.text.proofs.writer.Writer.put_report.Given as goal

abbrev pub invariant-loop-i : goal.invariant-loop-i
invariant-loop-i l =
    (l.self.out.ghost_name ≡ l.initial.self.out.ghost_name)
    × Generators l.cells l.torsion l.report l.initial.self.out.now l.initial.self.at l.self.at l.i l.self.out.now
