-- `chain::add_faces` meets its contract. The invariant: x times the column after t faces has been added.
use mathlib.Core.Path.{◌≡◌}
use mathlib.Core.List.{List}
use Prim.Native.Nat.{ℕ, ◌+◌, ◌<◌, ◌≤◌}
use lib.ListN.{length, get_or}
use lib.IntN.{ℤ, pos, ◌+ℤ◌, ◌*ℤ◌}
use Rattle.complexes.specs.Complex.{count}
use Rattle.sheet_format.specs.Check.{sections_of}
use Rattle.faces.proofs.Column.{entry}
use Rattle.chain_checks.proofs.chain.add_faces.Given as goal

pub record Invariant (b : List ℕ) (p j : ℕ) (x : ℤ) (sums₀ : List ℤ) (t : ℕ) (sums : List ℤ) : Type 0 where
  pub within : t ≤ p + 2
  pub same_length : length sums ≡ length sums₀
  pub so_far : (i : ℕ) → i < count (sections_of b) p → get_or sums i (pos 0) ≡ get_or sums₀ i (pos 0) +ℤ x *ℤ entry b p j t i

abbrev pub invariant-loop-t : goal.invariant-loop-t
invariant-loop-t l = Invariant l.s l.p l.j l.x l.initial.sums l.t l.sums
