-- `add_faces` meets its contract. The loop's invariant: the faces are added but for the last `left`, so the first p + 2 - left.
use mathlib.Core.Path.{◌≡◌}
use mathlib.Core.List.{List}
use Prim.Native.Nat.{ℕ, suc, ◌+◌, ◌-◌, ◌≤◌}
use lib.ListN.{take}
use Rattle.std.specs.Prelude.{Result, Ok}
use Rattle.lists.specs.Tabulate.{tabulate}
use Rattle.complexes.specs.Cell.{Cell, without}
use Rattle.complexes.specs.Complex.{Sections}
use Rattle.cells.specs.Word.{Packs}
use Rattle.cell_sets.specs.Set.{Holds, Adds}
use Rattle.cell_sets.specs.declared.insert.Full.{Full}
use Rattle.cell_sets.specs.declared.set.CellSet.{CellSet}
use Rattle.cell_sets.proofs.set.CellSet.add_faces.Given as goal

-- the faces of a cell of dimension p + 1
abbrev pub faces : ℕ → Cell → List Cell
faces p c = tabulate (suc (suc p)) (λ j. without j c)

-- what adding the first j faces tells and leaves
abbrev pub AddsFirst : ℕ → ℕ → CellSet → ℕ → Result (Unit {0}) Full → CellSet → Type 0
AddsFirst p word s₀ j r s =
    (K : Sections) (c : Cell) → Holds s₀ K → Packs (suc (suc p)) c word → Adds s₀.limit K p (take j (faces p c)) r s

pub record Invariant (p word : ℕ) (s₀ s : CellSet) (left : ℕ) : Type 0 where
  pub limit : s.limit ≡ s₀.limit
  pub few : left ≤ p + 2
  pub holds : AddsFirst p word s₀ (p + 2 - left) (Ok tt) s

abbrev pub invariant-loop-behind : goal.invariant-loop-behind
invariant-loop-behind l = Invariant l.p l.word l.initial.self l.self l.behind
