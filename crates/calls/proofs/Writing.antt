-- What the two reductions leave can be counted and written: rows-within, can-count, can-report, can-coordinate, can-surface.
use mathlib.Core.Path.{◌≡◌, refl, sym, ◌∙◌}
use mathlib.Core.Bool.{Bool}
use mathlib.Core.List.{List}
use mathlib.Core.Logic.{◌≢◌}
use Prim.Native.Nat.{ℕ, zero, suc, ◌+◌, ◌*◌, ◌≤◌, ◌<◌}
use native.Mathlib.Nat.{mul-le-mul, le_refl}
use native.Mathlib.Omega.{arith}
use lib.IntN.{ℤ, pos, negsuc, nat_abs}
use lib.Signed.{◌≤ℤ◌, ◌<ℤ◌}
use lib.ListN.{length}
use Rattle.complexes.specs.Complex.{Sections, count}
use Rattle.complexes.proofs.ChainComplex.{ChainComplex}
use Rattle.complexes.specs.Boundary.{count_below}
use Rattle.reduction_steps.specs.Pivot.{Rule, IsRule}
use Rattle.requests.specs.Call.{work_slots_for}
use Rattle.reports.specs.Reductions.{second_columns_only, width, reductions_of}
use Rattle.limits.specs.Limits.{entry_limit, coefficient_limit, surface_coefficient_limit, library_limit}
use Rattle.answers.proofs.TwoReductions.{Right, reductions-right}
use Rattle.integers.specs.Slot.{slot}
use Rattle.integers.proofs.Order.{lt-pos}
use Rattle.matrix_lines.proofs.Peaks.{under-small}
use Rattle.operations.specs.Laid.{Laid}
use Rattle.writers.specs.Written.{kind_in, Kinds, CanReport, CanCount, CanCoordinate, CanSurface}
use Rattle.two_reductions.specs.declared.reduced.Reduced.{Reduced}
use Rattle.two_reductions.specs.Workspaces.{second_workspace}
use Rattle.two_reductions.specs.Slices.{state_in, ReducedTwice}
use Rattle.two_reductions.proofs.Places.{second-laid, room-kept}

module _ {rule : Rule} (is : IsRule rule) {K : Sections} {p n : ℕ} {kept : Bool} {x : Reduced} {w : List ℤ} (complex : ChainComplex library_limit K)
    (slots : work_slots_for (second_columns_only kept) K p ≤ n) (h : ReducedTwice K p kept (reductions_of (second_columns_only kept) rule K p) n x w) where
  laid : Laid (length w) x.workspace
  laid =
      rw (h.kept.same_length, h.workspace-is)
      (second-laid (count K p) (count_below K p) (count K (suc p)) (width kept (count K (suc p))) (omega (arith, room-kept K p kept, slots)) h.first-rank h.rank-within)

  right : Right K p x.workspace.matrix.lines x.rank (state_in x w)
  right =
      reductions-right complex (second_columns_only kept) rule is entry_limit p (omega arith) x.workspace.matrix.lines x.rank (state_in x w) h.is

  kinds : Kinds x.workspace.matrix w
  kinds = record { nonneg = right.reduced.second.nonneg }

  pub inverse-width : x.workspace.row_inverse.width ≡ count K p
  unfolding second_workspace
  inverse-width = rw h.workspace-is refl

  pub follower-width : x.workspace.row_follower.width ≡ count K p
  unfolding second_workspace
  follower-width = rw h.workspace-is refl

  pub can-report : {m : ℕ} → 2 + count K p + count K p * count K p ≤ m → CanReport x w m
  can-report {m} room = record {
    laid = laid;
    kinds = kinds;
    rank_below = h.rank_below;
    lines-below = rw inverse-width right.rows_bound;
    room = rw inverse-width (omega (arith, room, h.rank_below, right.rows_bound, mul-le-mul right.rows_bound (le_refl (count K p))));
  }

  -- Q has no more rows than there are cells
  pub rows-within : x.workspace.matrix.lines ≤ count K p
  rows-within = right.rows_bound

  pub can-count : CanCount x w
  can-count = record { laid = laid; kinds = kinds; rank_below = h.rank_below }

  -- a kind of a pivot is above 0
  pivot-positive : (i : ℕ) → i < x.rank → pos 0 <ℤ kind_in x.workspace.matrix w i
  pivot-positive i below = above (kind_in x.workspace.matrix w i) (right.reduced.second.nonneg i) (right.rank.nonzero i below)
    where
      above : (d : ℤ) → pos 0 ≤ℤ d → d ≢ pos 0 → pos 0 <ℤ d
      above (pos zero) h k = absurd (k refl)
      above (pos (suc d)) h k = lt-pos (omega arith)
      above (negsuc d) h k = absurd h.le

  pub can-surface : {z : List ℤ} → length z ≡ count K p → ((j : ℕ) → nat_abs (slot z j) ≤ surface_coefficient_limit) → CanSurface x w z
  can-surface {z} size small = record {
    laid = laid;
    small = under-small h.kept.under;
    kinds = kinds;
    rank_below = h.rank_below;
    pivots = pivot-positive;
    width = follower-width ∙ sym size;
    width-within = rw size (complex.within p);
    rank-within = omega (arith, h.rank_below, right.rows_bound, complex.within p);
    coefficients = small;
  }

  -- the transform has a line for each column, of the length that is kept
  pub transform-width : x.workspace.column_follower.width ≡ width kept (count K (suc p))
  unfolding second_workspace
  transform-width = rw h.workspace-is refl

  pub can-coordinate : {z : List ℤ} {from m : ℕ} → from + count K p ≤ m → length z ≡ count K p
      → ((j : ℕ) → nat_abs (slot z j) ≤ coefficient_limit) → CanCoordinate x w z from m
  can-coordinate {z} {from} {m} room size small = record {
    laid = laid;
    small = under-small h.kept.under;
    kinds = kinds;
    room = omega (arith, right.rows_bound, room);
    width = follower-width ∙ sym size;
    width-within = rw size (complex.within p);
    coefficients = small;
  }
