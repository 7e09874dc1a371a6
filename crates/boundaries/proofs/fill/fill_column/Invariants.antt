-- `fill::fill_column` meets its contract. The invariant: the column holds what the first t faces give it.
use mathlib.Core.List.{List}
use Prim.Native.Nat.{ℕ, ◌+◌, ◌≤◌}
use lib.IntN.{ℤ}
use Rattle.matrix_lines.specs.declared.matrix.Matrix.{Matrix}
use Rattle.boundaries.specs.Filled.{ColumnFilled}
use Rattle.faces.proofs.Column.{entry}
use Rattle.boundaries.proofs.fill.fill_column.Given as goal

pub record Invariant (b : List ℕ) (p : ℕ) (M : Matrix) (w₀ : List ℤ) (j : ℕ) (w : List ℤ) (t : ℕ) : Type 0 where
  pub within : t ≤ p + 2
  pub so_far : ColumnFilled M w₀ (λ i k. entry b p k t i) j w

abbrev pub invariant-loop-t : goal.invariant-loop-t
invariant-loop-t l = Invariant l.s l.p l.m l.initial.w l.j l.w l.t
