-- `close_section` meets its contract. The loop's invariant: the faces of the first i cells are added.
use mathlib.Core.Path.{◌≡◌}
use mathlib.Core.List.{List}
use Prim.Native.Nat.{ℕ, suc}
use lib.ListN.{take}
use Rattle.complexes.specs.Cell.{Cell}
use Rattle.complexes.specs.Complex.{Sections, section}
use Rattle.closures.specs.Closure.{faces_of}
use Rattle.cell_sets.specs.Set.{Holds, adding}
use Rattle.cell_sets.specs.declared.set.CellSet.{CellSet}
use Rattle.cell_sets.proofs.set.CellSet.close_section.Given as goal

-- the cells of dimension p + 1, and the faces of some of them
abbrev pub upper : ℕ → Sections → List Cell
upper p K = section K (suc p)

abbrev pub faces : ℕ → List Cell → List Cell
faces p l = faces_of (suc (suc p)) l

pub record Invariant (p : ℕ) (s₀ s : CellSet) (i : ℕ) : Type 0 where
  pub limit : s.limit ≡ s₀.limit
  pub holds : (K : Sections) → Holds s₀ K → Holds s (adding K p (faces p (take i (upper p K))))

abbrev pub invariant-loop-i : goal.invariant-loop-i
invariant-loop-i l = Invariant l.p l.initial.self l.self l.i
