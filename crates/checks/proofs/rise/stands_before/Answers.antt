-- `stands_before` meets its contract: of two cells with as many vertices, the one that stands first has the lesser word.
use native.Mathlib.Numerals.{add-one}
use Rattle.cells.proofs.Words.{words-precede}
use Rattle.checks.proofs.rise.stands_before.Goals as goal

pub returns : goal.returns
returns c = words-precede c.word.ensures (rw (add-one c.args.i) at c.word-2.ensures)
