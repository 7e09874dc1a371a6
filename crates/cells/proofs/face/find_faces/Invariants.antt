-- `find_faces` meets its contract. The loop's invariant: the places before number j are those of the first j faces.
use mathlib.Core.Path.{◌≡◌}
use mathlib.Core.List.{List}
use Prim.Native.Nat.{ℕ, suc, ◌<◌}
use lib.ListN.{length, get_or}
use Rattle.complexes.specs.Cell.{Cell, without}
use Rattle.sheet_format.specs.Layout.{top}
use Rattle.sheet_format.specs.Check.{cell_of, cells_of}
use Rattle.cells.specs.Find.{Finds}
use Rattle.std.specs.Prelude.{Some}
use Rattle.cells.proofs.face.find_faces.Given as goal

pub record Invariant (c : Cell) (l : List Cell) (j : ℕ) (places : List ℕ) : Type 0 where
  pub sized : length places ≡ suc top
  pub placed : (k : ℕ) → k < j → Finds (without k c) l (Some (get_or places k 0))

abbrev pub invariant-loop-j : goal.invariant-loop-j
invariant-loop-j l = Invariant (cell_of l.s (suc l.section.vertices) l.a) (cells_of l.s l.section.vertices l.section.many l.section.at) l.j l.places
