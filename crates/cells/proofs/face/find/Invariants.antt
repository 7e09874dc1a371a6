-- `find` meets its contract. The loop's invariant: the cells before lo stand before the one with the word, those from hi on stand after it, and mid is
-- one of the cells between. The measure is how many are between.
use mathlib.Core.List.{List}
use Prim.Native.Nat.{ℕ, ◌-◌, ◌≤◌, ◌<◌}
use Rattle.complexes.specs.Cell.{Cell}
use Rattle.sheet_format.specs.Check.{cells_of}
use Rattle.cells.specs.Word.{Packs}
use Rattle.cells.proofs.Bracket.{Bracket}
use Rattle.cells.proofs.face.find.Given as goal

pub record Invariant (s : List ℕ) (word at n many lo hi mid step : ℕ) : Type 0 where
  pub ordered : lo ≤ hi
  pub within : hi ≤ many
  pub between : lo < hi → (lo ≤ mid) × (mid < hi)
  pub small : step ≤ many
  pub brackets : (d : Cell) → Packs n d word → Bracket d (cells_of s n many at) many lo hi

abbrev pub invariant-loop-lo : goal.invariant-loop-lo
invariant-loop-lo l = Invariant l.s l.word l.section.at l.section.vertices l.section.many l.lo l.hi l.mid l.step

abbrev pub decreases-loop-lo : goal.decreases-loop-lo
decreases-loop-lo l = l.hi - l.lo
