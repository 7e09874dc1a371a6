-- `line::swap_places` meets its contract. The invariant: the places passed have been exchanged.
use mathlib.Core.Path.{◌≡◌}
use mathlib.Core.Logic.{◌⊎◌}
use mathlib.Core.List.{List}
use Prim.Native.Nat.{ℕ, ◌+◌, ◌≤◌}
use lib.ListN.{length}
use lib.IntN.{ℤ}
use Rattle.matrix_lines.specs.Slice.{Apart, LinesSwapped}
use Rattle.matrix_lines.proofs.line.swap_places.Given as goal

pub record Invariant (w₀ : List ℤ) (first second width before largest t : ℕ) (w : List ℤ) : Type 0 where
  pub below : t ≤ width
  pub first-inside : first + width ≤ length w₀
  pub second-inside : second + width ≤ length w₀
  pub apart : (first ≡ second) ⊎ Apart first second width
  pub swapped : LinesSwapped w₀ first second t before largest w

abbrev pub invariant-loop-t : goal.invariant-loop-t
invariant-loop-t l = Invariant l.initial.w l.first l.second l.width l.before l.largest l.t l.w
