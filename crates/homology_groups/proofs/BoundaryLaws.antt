-- Boundaries are closed under sums and multiples: `boundary-zero`, `boundary-add`, `boundary-scale`, `boundary-sub`, `boundary-combination`.
use Prim.Native.Nat.{ℕ, zero, suc, ◌<◌}
use native.Mathlib.Omega.{arith}
use lib.IntN.{ℤ, pos, ◌+ℤ◌, ◌-ℤ◌, ◌*ℤ◌}
use Rattle.matrices.specs.Sum.{sum}
use Rattle.matrices.specs.Matrix.{Matrix}
use Rattle.matrices.proofs.VectorLaws.{apply-zero, apply-add, apply-sub, apply-scale}
use Rattle.homology_groups.specs.Chain.{Chain, Boundary, combination}

module _ {n l : ℕ} {B : Matrix} where
  pub boundary-zero : Boundary n l B (λ i. pos 0)
  boundary-zero = record { filling = λ i. pos 0; fills = record { at = λ i _. apply-zero l B i } }

  pub boundary-add : {x y : Chain} → Boundary n l B x → Boundary n l B y → Boundary n l B (λ i. x i +ℤ y i)
  boundary-add a b = record {
    filling = λ i. a.filling i +ℤ b.filling i;
    fills = record { at = λ i h. cc (apply-add l B a.filling b.filling i, a.fills.at i h, b.fills.at i h) };
  }

  pub boundary-sub : {x y : Chain} → Boundary n l B x → Boundary n l B y → Boundary n l B (λ i. x i -ℤ y i)
  boundary-sub a b = record {
    filling = λ i. a.filling i -ℤ b.filling i;
    fills = record { at = λ i h. cc (apply-sub l B a.filling b.filling i, a.fills.at i h, b.fills.at i h) };
  }

  pub boundary-scale : {x : Chain} (c : ℤ) → Boundary n l B x → Boundary n l B (λ i. c *ℤ x i)
  boundary-scale c a = record {
    filling = λ i. c *ℤ a.filling i;
    fills = record { at = λ i h. cc (apply-scale l c B a.filling i, a.fills.at i h) };
  }

  pub boundary-combination : (k : ℕ) (c : ℕ → ℤ) (h : ℕ → Chain) → ((j : ℕ) → j < k → Boundary n l B (h j)) → Boundary n l B (combination k c h)
  unfolding combination sum
  boundary-combination zero c h f = boundary-zero
  boundary-combination (suc k) c h f =
      boundary-add (boundary-combination k c h (λ j a. f j (omega arith))) (boundary-scale (c k) (f k (omega arith)))
