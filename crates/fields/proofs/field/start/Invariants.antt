-- `start` meets its contract. The loop's invariant: `at` is where section q starts, and each section passed took at most 2 * most bytes.
use mathlib.Core.Path.{◌≡◌}
use Prim.Native.Nat.{◌+◌, ◌*◌, ◌≤◌}
use Rattle.sheet_format.specs.Check.{start_at}
use Rattle.sheet_format.specs.Layout.{header_length}
use Rattle.fields.proofs.Offset.{most}
use Rattle.fields.proofs.field.start.Given as goal

abbrev pub invariant-loop-q : goal.invariant-loop-q
invariant-loop-q l = (l.q ≤ l.p) × (l.at ≡ start_at l.s l.q) × (l.at ≤ header_length + 2 * most * l.q)
