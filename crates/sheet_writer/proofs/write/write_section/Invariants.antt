-- `write_section` meets its contract. The loop's invariant: the first i cells are written.
use mathlib.Core.Path.{◌≡◌}
use mathlib.Core.List.{List, [], map}
use Prim.Native.Nat.{ℕ}
use lib.ListN.{length, take}
use Rattle.lists.specs.Splice.{splice}
use Rattle.complexes.specs.Cell.{Cell}
use Rattle.complexes.specs.Packed.{packed}
use Rattle.sheet_format.specs.Layout.{section_bytes}
use Rattle.closures.specs.Rising.{All, HasVertices}
use Rattle.sheet_writer.proofs.write.write_section.Given as goal

-- the first i cells with the words ws are written
pub record Invariant (ws : List ℕ) (n : ℕ) (sheet₀ : List ℕ) (at : ℕ) (sheet : List ℕ) (i : ℕ) : Type 0 where
  pub long : length sheet ≡ length sheet₀
  pub is : (l : List Cell) → All (HasVertices n) [] l → ws ≡ map packed l → sheet ≡ splice at (section_bytes (take i l)) sheet₀

abbrev pub invariant-loop-i : goal.invariant-loop-i
invariant-loop-i l = Invariant l.words l.n l.initial.sheet l.at l.sheet l.i
