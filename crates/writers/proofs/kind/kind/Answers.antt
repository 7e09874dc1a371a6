-- `kind::kind` meets its contract.
use mathlib.Core.Path.{sym, ◌∙◌}
use mir.Syntax.{w64}
use mir.Facts.{to_z-of_z}
use Rattle.writers.proofs.Entries.{entry-lines, entry-lines-past}
use Rattle.writers.proofs.kind.kind.Goals as goal

pub returns-then-i-m : goal.returns-then-i-m
returns-then-i-m c =
    let args = c.args in
    to_z-of_z {w = w64} {z = c.entry.result} (record { sfits = c.entry.type_inv }) ∙ c.entry.ensures
    ∙ sym (entry-lines args.m args.w.now args.i args.i c.requires.1 c.if-i-m.true)

pub returns-else-i-m : goal.returns-else-i-m
returns-else-i-m c =
    let args = c.args in
    sym (entry-lines-past args.m args.w.now args.i args.i c.if-i-m.false)
