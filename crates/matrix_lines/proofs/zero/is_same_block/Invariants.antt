-- `zero::is_same_block` meets its contract. The invariant: unless a difference was noted, the entries passed are equal.
use mathlib.Core.Path.{◌≡◌}
use mathlib.Core.Bool.{Bool, false}
use mathlib.Core.List.{List}
use Prim.Native.Nat.{ℕ, ◌+◌, ◌<◌, ◌≤◌}
use lib.IntN.{ℤ}
use Rattle.integers.specs.Slot.{slot}
use Rattle.matrix_lines.specs.Slice.{block}
use Rattle.matrix_lines.proofs.zero.is_same_block.Given as goal

pub record Invariant (w : List ℤ) (a b : ℕ) (differ : Bool) (t : ℕ) : Type 0 where
  pub below : t ≤ block
  pub same : differ ≡ false → (s : ℕ) → s < t → slot w (a + s) ≡ slot w (b + s)

abbrev pub invariant-loop-t : goal.invariant-loop-t
invariant-loop-t l = Invariant l.w l.first l.second l.differ l.t
