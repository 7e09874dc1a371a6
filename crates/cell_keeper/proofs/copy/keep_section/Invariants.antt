-- `keep_section` meets its contract. The loop's invariant: of the first i cells those that stay are copied, and the next one goes to byte `next`.
use mathlib.Core.Path.{◌≡◌}
use mathlib.Core.Bool.{Bool}
use mathlib.Core.List.{List}
use Prim.Native.Nat.{ℕ, suc}
use lib.ListN.{length}
use Rattle.complexes.specs.Cell.{Cell}
use Rattle.sheet_format.specs.Layout.{section_bytes}
use Rattle.sheet_format.specs.Check.{cells_of}
use Rattle.closures.specs.Keep.{kept}
use Rattle.cell_keeper.specs.Unmarked.{stays_at, Puts}
use Rattle.cell_keeper.proofs.copy.keep_section.Given as goal

-- of the first i of the cells l those that the choice keeps are copied
pub record Invariant (keeps : ℕ → Bool) (l : List Cell) (sheet₀ : List ℕ) (to : ℕ) (sheet : List ℕ) (next i : ℕ) : Type 0 where
  pub long : length sheet ≡ length sheet₀
  pub puts : Puts to (section_bytes (kept keeps l i)) sheet₀ next sheet

abbrev pub invariant-loop-i : goal.invariant-loop-i
invariant-loop-i l = Invariant (stays_at l.marks l.from) (cells_of l.s (suc l.p) l.many l.at) l.initial.sheet l.to l.sheet l.next l.i
