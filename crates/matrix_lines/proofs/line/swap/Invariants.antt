-- `line::swap` meets its contract. The invariant: the blocks passed have been exchanged.
use mathlib.Core.Path.{◌≡◌}
use mathlib.Core.Logic.{◌⊎◌}
use mathlib.Core.List.{List}
use Prim.Native.Nat.{ℕ, ◌+◌, ◌*◌, ◌≤◌}
use lib.ListN.{length}
use lib.IntN.{ℤ}
use Rattle.matrix_lines.specs.Slice.{block, Apart, LinesSwapped}
use Rattle.matrix_lines.proofs.line.swap.Given as goal

pub record Invariant (w₀ : List ℤ) (first second width before largest t : ℕ) (w : List ℤ) : Type 0 where
  pub below : t ≤ width
  pub first-inside : first + width ≤ length w₀
  pub second-inside : second + width ≤ length w₀
  pub apart : (first ≡ second) ⊎ Apart first second width
  pub swapped : LinesSwapped w₀ first second t before largest w

abbrev pub invariant-loop-b : goal.invariant-loop-b
invariant-loop-b l = Invariant l.initial.w l.first l.second l.width l.before l.largest (l.b * block) l.w
