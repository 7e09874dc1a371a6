-- `fill::fill_boundary` meets its contract. The invariant: the columns passed are those of the boundary matrix.
use Prim.Native.Nat.{suc, ◌≤◌}
use Rattle.complexes.specs.Boundary.{boundary}
use Rattle.sheet_format.specs.Check.{sections_of}
use Rattle.matrix_lines.specs.Matrices.{contents}
use Rattle.boundaries.specs.Filled.{MatrixFilled}
use Rattle.boundaries.proofs.Columns.{left_of}
use Rattle.boundaries.proofs.fill.fill_boundary.Given as goal

abbrev pub invariant-loop-j : goal.invariant-loop-j
invariant-loop-j l = (l.j ≤ l.m.width) × MatrixFilled l.m l.initial.w (left_of l.j (boundary (sections_of l.s) (suc l.p)) (contents l.m l.initial.w)) l.w
