use mathlib.Core.Path.{refl}
use Prim.Native.Nat.{suc}
use native.Mathlib.Omega.{arith}
use Rattle.matrices.specs.Matrix as theory
use Rattle.complexes.specs.Boundary.{boundary}
use Rattle.sheet_format.specs.Check.{sections_of}
use Rattle.matrix_lines.specs.Matrices.{contents}
use Rattle.boundaries.proofs.Columns.{columns-more, columns-all}
use Rattle.boundaries.proofs.fill.fill_boundary.Goals as goal
use Rattle.boundaries.proofs.fill.fill_boundary.Goals.{Start, In-loop-j, After-fill_column}

-- the boundary matrix, and what the slice held at first
abbrev whole : Start → theory.Matrix
whole c = boundary (sections_of c.args.s.now) (suc c.args.p)

abbrev old : Start → theory.Matrix
old c = contents c.args.m c.args.w.now

pub loop-j-preserved : goal.loop-j-preserved
loop-j-preserved c =
    let called = (goal.at.loop-j-preserved c).After-fill_column in let turn = (goal.at.After-fill_column called).In-loop-j in let head = turn.loop-j in let start = (goal.at.In-loop-j turn).Start in (
      omega (arith, turn.loop-j-test.true),
      columns-more (whole start) (old start) head.j head.invariant.1 called.fill_column.ensures (λ i l. refl),
    )

pub returns : goal.returns
returns c =
    let start = (goal.at.returns c).Start in columns-all (whole start) (old start) c.loop-j.j c.loop-j.invariant.1 c.loop-j-test.false
