-- `coordinates::write_coordinates` meets its contract. The invariant: the coordinates at the rows passed whose kind is not 1 stand in the slice.
use mathlib.Core.List.{List, [], ◌∷◌}
use Prim.Native.Nat.{ℕ}
use lib.IntN.{ℤ}
use Rattle.integers.specs.Division.{residue}
use Rattle.matrices.specs.Vector.{apply}
use Rattle.reduction_steps.specs.Table.{entry}
use Rattle.integers.specs.Slot.{slot}
use Rattle.matrix_lines.specs.declared.matrix.Matrix.{Matrix}
use Rattle.operations.specs.Laid.{lines_of}
use Rattle.writers.specs.Written.{kind_in}
use Rattle.writers.proofs.Writing.{Progress}
use Rattle.writers.proofs.coordinates.write_coordinates.Given as goal

-- the coordinate at row i
abbrev pub coordinate : Matrix → Matrix → List ℤ → List ℤ → ℕ → ℤ
coordinate m q w z i = residue (apply q.width (entry (lines_of q w)) (slot z) i) (kind_in m w i)

abbrev pub invariant-loop-i : goal.invariant-loop-i
invariant-loop-i l = Progress (kind_in l.m l.w) (λ k. coordinate l.m l.q l.w l.chain k ∷ []) l.m.lines l.from l.initial.coordinates l.i l.next l.coordinates
