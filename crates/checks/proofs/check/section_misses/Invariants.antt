-- `section_misses` meets its contract: the loop scans the cells, and the invariant is that no cell before number i misses a face.
use Rattle.checks.proofs.Scan.{Passed}
use Rattle.checks.proofs.Sections.{Misses}
use Rattle.checks.proofs.check.section_misses.Given as goal

abbrev pub invariant-loop-i : goal.invariant-loop-i
invariant-loop-i l = Passed l.cells.many (Misses l.s l.cells l.faces) l.i
