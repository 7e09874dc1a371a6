-- Uses of the claims on coordinates, on the projective plane: which loops differ by a boundary, and which coordinates there are.
use mathlib.Core.Path.{◌≡◌, sym, ◌∙◌, ap, subst}
use Prim.Native.Nat.{ℕ, zero, suc, ◌+◌, ◌<◌}
use native.Mathlib.Omega.{arith}
use lib.IntN.{ℤ, pos, neg_ℤ, nat_abs, ◌-ℤ◌, ◌*ℤ◌}
use lib.Signed.{◌≤ℤ◌, ◌<ℤ◌}
use Rattle.homology_groups.specs.Chain.{Chain, combination}
use Rattle.requests.specs.Question.{cells, cell_count}
use Rattle.answers.specs.Homology.{IsBoundary}
use Rattle.integers.specs.Slot.{slot}
use Rattle.answers.specs.Right.{generator_in}
use Rattle.projective_plane.specs.Plane.{loop, twice, backwards}
use Rattle.projective_plane.specs.Examples.{loops, plane-calls}
use Rattle.demands.specs.Answers.{CoordinatesOf, Counted, CoordinatesDecide, CoordinatesCombine, CoordinatesNearestZero}
use Rattle.demands.proofs.Plane.{plane-bytes, numbers, read, number-at, plane-report, plane-order, loop-coordinates, twice-coordinates, backwards-coordinates}

module _ (counted : Counted loops 0 1) where
  module _ (decide : CoordinatesDecide) where
    -- the loop and the loop run backwards have coordinate 1 both
    same_class : IsBoundary (cells loops) 1 (λ i. slot loop i -ℤ slot backwards i)
    same_class = (decide loops plane-bytes (slot loop) (slot backwards) (read loop) (read backwards) loop-coordinates backwards-coordinates 0 1 counted).0 same
      where
        same : (j : ℕ) → j < 1 + 0 → read loop j ≡ read backwards j
        same zero l = ap (number-at 0) plane-calls.coordinate-loop ∙ sym (ap (number-at 0) plane-calls.coordinate-backwards)
        same (suc j) l = absurd (omega (arith, l))

    -- twice the loop has 0
    other-class : IsBoundary (cells loops) 1 (λ i. slot loop i -ℤ slot twice i) → ⊥
    other-class h =
        let same = (decide loops plane-bytes (slot loop) (slot twice) (read loop) (read twice) loop-coordinates twice-coordinates 0 1 counted).1 h 0 (omega arith) in
        let e : ◌≡◌ {A = ℕ} 1 0 = ap nat_abs (sym (ap (number-at 0) plane-calls.coordinate-loop) ∙ same ∙ ap (number-at 0) plane-calls.coordinate-twice) in
        omega (arith, e)

  -- the loop run backwards, less its coordinate times the generator
  combines : CoordinatesCombine → IsBoundary (cells loops) 1 (λ i. slot backwards i -ℤ combination 1 (read backwards) (generator_in numbers 1 (cell_count loops)) i)
  combines combine = combine loops plane-bytes (slot backwards) (read backwards) numbers backwards-coordinates plane-report 0 1 counted

  module _ (nearest_zero : CoordinatesNearestZero) (z : Chain) (c : ℕ → ℤ) (of : CoordinatesOf loops z c) where
    -- twice a coordinate lies above -2 and up to 2
    above : neg_ℤ (pos 2) <ℤ (pos 2 *ℤ c 0)
    above = subst (λ (d : ℤ). neg_ℤ d <ℤ (pos 2 *ℤ c 0)) plane-order (nearest_zero loops plane-bytes z c numbers of plane-report 0 1 counted 0 (omega arith)).0

    up_to : (pos 2 *ℤ c 0) ≤ℤ pos 2
    up_to = subst (λ (d : ℤ). (pos 2 *ℤ c 0) ≤ℤ d) plane-order (nearest_zero loops plane-bytes z c numbers of plane-report 0 1 counted 0 (omega arith)).1
