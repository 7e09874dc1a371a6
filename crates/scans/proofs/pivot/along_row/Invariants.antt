-- `scans::pivot::along_row` meets its contract. The loop's invariant: the row up to place j has been scanned.
use Rattle.matrix_lines.specs.Matrices.{contents}
use Rattle.scans.specs.Scan.{choice_of}
use Rattle.scans.proofs.Scanning.{Along}
use Rattle.scans.proofs.pivot.along_row.Given as goal

abbrev pub invariant-loop-j : goal.invariant-loop-j
invariant-loop-j l = Along (contents l.m l.w) l.i l.k l.m.width (choice_of l.initial.chosen) l.j l.chosen
