-- `copy_cell` meets its contract. The loop's invariant: the first j vertices are copied.
use mathlib.Core.Path.{◌≡◌}
use mathlib.Core.List.{List}
use Prim.Native.Nat.{ℕ, ◌≤◌}
use lib.ListN.{length, take}
use Rattle.lists.specs.Splice.{splice}
use Rattle.sheet_format.specs.Layout.{cell_bytes}
use Rattle.sheet_format.specs.Check.{cell_of}
use Rattle.cell_keeper.proofs.copy.copy_cell.Given as goal

pub record Invariant (s : List ℕ) (at n : ℕ) (sheet₀ : List ℕ) (to : ℕ) (sheet : List ℕ) (j : ℕ) : Type 0 where
  pub within : j ≤ n
  pub long : length sheet ≡ length sheet₀
  pub is : sheet ≡ splice to (cell_bytes (take j (cell_of s n at))) sheet₀

abbrev pub invariant-loop-j : goal.invariant-loop-j
invariant-loop-j l = Invariant l.s l.at l.n l.initial.sheet l.to l.sheet l.j
