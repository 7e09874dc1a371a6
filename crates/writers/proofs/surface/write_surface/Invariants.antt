-- `surface::write_surface` meets its contract. The invariant: the slots hold the sums over the pivots passed.
use mathlib.Core.Path.{◌≡◌}
use mathlib.Core.List.{List}
use Prim.Native.Nat.{ℕ, ◌<◌}
use lib.IntN.{ℤ}
use Rattle.matrices.specs.Sum.{sum}
use Rattle.integers.specs.Slot.{slot}
use Rattle.matrix_lines.specs.declared.matrix.Matrix.{Matrix}
use Rattle.writers.proofs.Terms.{term}
use Rattle.writers.proofs.surface.write_surface.Given as goal

pub record SumsOver (m q columns : Matrix) (w z : List ℤ) (i : ℕ) (sums : List ℤ) : Type 0 where
  pub at : (j : ℕ) → j < columns.width → slot sums j ≡ sum i (term m q columns w z j)

abbrev pub invariant-loop-i : goal.invariant-loop-i
invariant-loop-i l = SumsOver l.m l.q l.columns l.w l.chain l.i l.sums
