-- `count_cells` meets its contract. The loop's invariant: the cells that stay of the first p dimensions are counted, and their marks passed.
use mathlib.Core.Path.{◌≡◌}
use mathlib.Core.List.{List}
use Prim.Native.Nat.{ℕ, suc, ◌≤◌, ◌<◌}
use lib.ListN.{length, get_or}
use Rattle.complexes.specs.Complex.{count}
use Rattle.sheet_format.specs.Layout.{top}
use Rattle.sheet_format.specs.Check.{count_field}
use Rattle.closures.specs.Keep.{cells_below}
use Rattle.cell_keeper.specs.Unmarked.{unmarked_cells}
use Rattle.cell_keeper.proofs.count.count_cells.Given as goal

pub record Invariant (b marks counts : List ℕ) (from p : ℕ) : Type 0 where
  pub within : p ≤ suc top
  pub sized : length counts ≡ suc top
  pub passed : from ≡ cells_below (count_field b) p
  pub counted : (q : ℕ) → q < p → get_or counts q 0 ≡ count (unmarked_cells b marks) q

abbrev pub invariant-loop-p : goal.invariant-loop-p
invariant-loop-p l = Invariant l.s l.marks l.counts l.from l.p
