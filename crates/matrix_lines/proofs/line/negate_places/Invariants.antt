-- `line::negate_places` meets its contract. The invariant: the places passed hold the negated entries.
use mathlib.Core.List.{List}
use Prim.Native.Nat.{ℕ, ◌+◌, ◌≤◌}
use lib.ListN.{length}
use lib.IntN.{ℤ, neg_ℤ}
use Rattle.integers.specs.Slot.{slot}
use Rattle.matrix_lines.specs.Slice.{LineSet}
use Rattle.matrix_lines.proofs.line.negate_places.Given as goal

abbrev pub negated : List ℤ → ℕ → ℕ → ℤ
negated w start t = neg_ℤ (slot w (start + t))

pub record Invariant (w₀ : List ℤ) (start width before largest t : ℕ) (w : List ℤ) : Type 0 where
  pub below : t ≤ width
  pub inside : start + width ≤ length w₀
  pub so_far : LineSet w₀ start t (negated w₀ start) before largest w

abbrev pub invariant-loop-t : goal.invariant-loop-t
invariant-loop-t l = Invariant l.initial.w l.at l.width l.before l.largest l.t l.w
