-- `keep_sections` meets its contract. The loop's invariant: the cells that stay of the first p dimensions are copied, and their marks passed.
use mathlib.Core.Path.{◌≡◌}
use mathlib.Core.List.{List}
use Prim.Native.Nat.{ℕ, suc, ◌≤◌}
use lib.ListN.{length, take}
use Rattle.sheet_format.specs.Layout.{top, header_length, sections_bytes}
use Rattle.sheet_format.specs.Check.{count_field}
use Rattle.closures.specs.Keep.{cells_below}
use Rattle.cell_keeper.specs.Unmarked.{unmarked_cells, Puts}
use Rattle.cell_keeper.proofs.copy.keep_sections.Given as goal

pub record Invariant (b marks sheet₀ sheet : List ℕ) (to from p : ℕ) : Type 0 where
  pub within : p ≤ suc top
  pub long : length sheet ≡ length sheet₀
  pub passed : from ≡ cells_below (count_field b) p
  pub puts : Puts header_length (sections_bytes (take p (unmarked_cells b marks))) sheet₀ to sheet

abbrev pub invariant-loop-p : goal.invariant-loop-p
invariant-loop-p l = Invariant l.s l.marks l.initial.sheet l.sheet l.to l.from l.p
