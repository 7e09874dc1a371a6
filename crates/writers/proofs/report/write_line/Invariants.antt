-- `report::write_line` meets its contract. The invariant: the slots passed hold the entries of the line.
use Prim.Native.Nat.{ℕ, ◌+◌, ◌<◌}
use mathlib.Core.Path.{◌≡◌}
use Rattle.integers.specs.Slot.{slot}
use Rattle.writers.proofs.report.write_line.Given as goal

abbrev pub invariant-loop-j : goal.invariant-loop-j
invariant-loop-j l = (k : ℕ) → k < l.j → slot l.slots k ≡ slot l.w (l.at + k)
