-- `write_sections` meets its contract. The loop's invariant: the first p sections are written.
use mathlib.Core.Path.{◌≡◌}
use mathlib.Core.List.{List}
use Prim.Native.Nat.{ℕ}
use lib.ListN.{length, take}
use Rattle.lists.specs.Splice.{splice}
use Rattle.complexes.specs.Complex.{Sections}
use Rattle.sheet_format.specs.Layout.{header_length, sections_bytes}
use Rattle.cell_sets.specs.Set.{Holds}
use Rattle.cell_sets.specs.declared.set.CellSet.{CellSet}
use Rattle.sheet_writer.proofs.write.write_sections.Given as goal

pub record Invariant (s : CellSet) (sheet₀ sheet : List ℕ) (p : ℕ) : Type 0 where
  pub long : length sheet ≡ length sheet₀
  pub is : (K : Sections) → Holds s K → sheet ≡ splice header_length (sections_bytes (take p K)) sheet₀

abbrev pub invariant-loop-p : goal.invariant-loop-p
invariant-loop-p l = Invariant l.cells l.initial.sheet l.sheet l.p
