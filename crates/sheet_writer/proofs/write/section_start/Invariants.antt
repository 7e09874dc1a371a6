-- `section_start` meets its contract. The loop's invariant: section q starts at `at`.
use mathlib.Core.Path.{◌≡◌}
use Prim.Native.Nat.{◌≤◌}
use Rattle.sheet_format.specs.Layout.{start}
use Rattle.sheet_writer.specs.Write.{count_of}
use Rattle.sheet_writer.proofs.write.section_start.Given as goal

abbrev pub invariant-loop-q : goal.invariant-loop-q
invariant-loop-q l = (l.q ≤ l.p) × (l.at ≡ start (count_of l.counts) l.q)
