-- `number_at` meets its contract. The loop's invariant: the first bytes are digits, at most nine, and make the value.
use mathlib.Core.Path.{◌≡◌}
use Prim.Native.Nat.{◌+◌}
use lib.ListN.{drop}
use Rattle.mesh_words.proofs.Digits.{Digits}
use Rattle.mesh_words.proofs.number.number_at.Given as goal

abbrev pub invariant-loop-byte : goal.invariant-loop-byte
invariant-loop-byte l = Digits (drop l.from l.text) l.byte-index l.value × (l.at ≡ l.from + l.byte-index)
