-- `report::write_generators` meets its contract. The invariant: the columns of G for the rows passed whose kind is not 1 stand in the report.
use mathlib.Core.List.{List}
use Prim.Native.Nat.{ℕ}
use lib.IntN.{ℤ}
use Rattle.lists.specs.Tabulate.{tabulate}
use Rattle.reduction_steps.specs.Table.{entry}
use Rattle.matrix_lines.specs.declared.matrix.Matrix.{Matrix}
use Rattle.operations.specs.Laid.{lines_of}
use Rattle.writers.specs.Written.{kind_in}
use Rattle.writers.proofs.Writing.{Progress}
use Rattle.writers.proofs.report.write_generators.Given as goal

-- column i of G
abbrev pub column : Matrix → List ℤ → ℕ → List ℤ
column g w i = tabulate g.width (λ j. entry (lines_of g w) i j)

abbrev pub invariant-loop-i : goal.invariant-loop-i
invariant-loop-i l = Progress (kind_in l.m l.w) (column l.g l.w) l.m.lines l.from l.initial.report l.i l.next l.report
