-- `scans::pivot::down_rows` meets its contract. The loop's invariant: the rows up to row i have been scanned.
use Prim.Native.Nat.{◌-◌}
use Rattle.matrix_lines.specs.Matrices.{contents}
use Rattle.scans.proofs.Scanning.{Down}
use Rattle.scans.proofs.pivot.down_rows.Given as goal

abbrev pub invariant-loop-i : goal.invariant-loop-i
invariant-loop-i l = Down (contents l.m l.w) l.k (l.m.width - l.k) l.m.lines l.i l.best
