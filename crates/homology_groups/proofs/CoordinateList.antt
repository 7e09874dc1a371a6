-- Document 01, "The report and the coordinates", document 02, Note 5, and demand 3, for all sizes. `coordinate`: rows of kind 1 are dropped, a row of
-- order d gives its residue nearest zero, and a free row is kept (an order of 0 keeps the number: `residue-zero`).
-- `coordinates-equal-iff`: two cycles have equal lists exactly when their difference is a boundary.
-- `coordinates-remainder`: a cycle less its coordinates times the generators is a boundary.
use Prim.Native.Nat.{ℕ, ◌+◌, ◌-◌, ◌<◌}
use native.Mathlib.Omega.{arith}
use mathlib.Core.Path.{◌≡◌}
use mathlib.Core.Logic.{◌↔◌}
use lib.IntN.{ℤ, ◌-ℤ◌}
use Rattle.integers.specs.Division.{◌∣ℤ◌, residue}
use Rattle.integers.proofs.Residue.{residue-dvd, residue-eq-iff}
use Rattle.matrices.specs.Matrix.{Matrix}
use Rattle.matrices.specs.Vector.{apply}
use Rattle.smith.proofs.Rank.{IsOnes}
use Rattle.homology_groups.specs.Chain.{Chain, Cycle, Boundary, combination}
use Rattle.homology_groups.proofs.Reduced.{Reduced}
use Rattle.homology_groups.proofs.Coordinates.{coordinates-decide}
use Rattle.homology_groups.proofs.Presents.{generator, divides-from, remainder-boundary}

-- coordinate j of z, with u rows of kind 1 before it
unfoldable pub coordinate : ℕ → ℕ → (ℕ → ℤ) → Matrix → Chain → ℕ → ℤ
coordinate n u e Q z j = residue (apply n Q z (u + j)) (e (u + j))

module _ {m n l : ℕ} {A B : Matrix} {s : ℕ} {e : ℕ → ℤ} {G Q : Matrix} (R : Reduced m n l A B s e G Q) {u : ℕ} (ones : IsOnes s e u) where
  pub coordinates-equal-iff : (x y : Chain) → Cycle m n A x → Cycle m n A y → ((j : ℕ) → j < s - u → coordinate n u e Q x j ≡ coordinate n u e Q y j) ↔ Boundary n l B (λ i. x i -ℤ y i)
  unfolding coordinate
  coordinates-equal-iff x y a b = (forward, backward)
    where
      iff : (i : ℕ) → (residue (apply n Q x i) (e i) ≡ residue (apply n Q y i) (e i)) ↔ e i ∣ℤ (apply n Q x i -ℤ apply n Q y i)
      iff i = residue-eq-iff (apply n Q x i) (apply n Q y i) (e i) (R.second.nonneg i)

      forward : ((j : ℕ) → j < s - u → coordinate n u e Q x j ≡ coordinate n u e Q y j) → Boundary n l B (λ i. x i -ℤ y i)
      forward f =
          (coordinates-decide R x y a b).1 (divides-from R ones (λ i. apply n Q x i -ℤ apply n Q y i) (λ j h. (iff (u + j)).0 (f j h)))

      backward : Boundary n l B (λ i. x i -ℤ y i) → (j : ℕ) → j < s - u → coordinate n u e Q x j ≡ coordinate n u e Q y j
      backward f j h = (iff (u + j)).1 ((coordinates-decide R x y a b).0 f (u + j) (omega arith))

  pub coordinates-remainder : (z : Chain) → Cycle m n A z → Boundary n l B (λ i. z i -ℤ combination (s - u) (coordinate n u e Q z) (generator u G) i)
  unfolding coordinate
  coordinates-remainder z a =
      remainder-boundary R ones z a (coordinate n u e Q z) (λ j h. residue-dvd (apply n Q z (u + j)) (e (u + j)))
