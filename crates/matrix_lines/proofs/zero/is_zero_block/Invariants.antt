-- `zero::is_zero_block` meets its contract. The invariant: unless one was noted, no entry passed differs from 0.
use mathlib.Core.Path.{◌≡◌}
use mathlib.Core.Bool.{false}
use Prim.Native.Nat.{ℕ, ◌+◌, ◌<◌}
use lib.IntN.{pos}
use Rattle.integers.specs.Slot.{slot}
use Rattle.matrix_lines.proofs.zero.is_zero_block.Given as goal

abbrev pub invariant-loop-x : goal.invariant-loop-x
invariant-loop-x l = l.nonzero ≡ false → (s : ℕ) → s < l.x-index → slot l.w (l.at + s) ≡ pos 0
