-- `write_cell` meets its contract. The loop's invariant: the first j vertices are written.
use mathlib.Core.Path.{◌≡◌}
use mathlib.Core.List.{List}
use Prim.Native.Nat.{ℕ}
use lib.ListN.{length, take}
use Rattle.lists.specs.Splice.{splice}
use Rattle.complexes.specs.Cell.{Cell}
use Rattle.sheet_format.specs.Layout.{cell_bytes}
use Rattle.cells.specs.Word.{Packs}
use Rattle.sheet_writer.proofs.write.write_cell.Given as goal

pub record Invariant (word n : ℕ) (sheet₀ : List ℕ) (at : ℕ) (sheet : List ℕ) (j : ℕ) : Type 0 where
  pub long : length sheet ≡ length sheet₀
  pub is : (c : Cell) → Packs n c word → sheet ≡ splice at (cell_bytes (take j c)) sheet₀

abbrev pub invariant-loop-j : goal.invariant-loop-j
invariant-loop-j l = Invariant l.word l.n l.initial.sheet l.at l.sheet l.j
