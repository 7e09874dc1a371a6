-- What the final G and Q of `Reduced` tell of cycles and boundaries, for all sizes. `left-inverse`: Q G is the identity.
-- `cycle-iff`: z is a cycle exactly when G (Q z) = z. `generators-cycle`, `column-cycle`: what G makes is a cycle.
-- `boundary-iff`: a cycle is a boundary exactly when e divides its coordinates, entry by entry.
-- `coordinates-decide`: two cycles differ by a boundary exactly when their coordinates are congruent modulo e.
use Prim.Native.Nat.{ℕ, ◌<◌}
use mathlib.Core.Path.{refl, sym, ◌∙◌, subst}
use mathlib.Core.Logic.{◌↔◌}
use lib.IntN.{ℤ, ◌-ℤ◌}
use Rattle.integers.specs.Division.{◌∣ℤ◌}
use Rattle.matrices.specs.Matrix.{Matrix, Eq, mul, identity}
use Rattle.matrices.proofs.Inverse.{InversePair, inverse-pair-sym}
use Rattle.matrices.specs.Vector.{apply}
use Rattle.matrices.proofs.VectorLaws.{apply-mul, apply-identity, apply-sub}
use Rattle.homology_groups.specs.Chain.{Chain, Same, Cycle, Boundary}
use Rattle.homology_groups.proofs.ChainLaws.{same-sym, same-trans, same-apply, apply-eq, apply-unit, eq-of-apply, inverse-apply, cycle-same, cycle-sub, boundary-cycle}
use Rattle.homology_groups.proofs.SmithChain.{smith-boundary-iff}
use Rattle.homology_groups.proofs.Kernel.{kernel-left-inverse, kernel-cycle-iff}
use Rattle.homology_groups.proofs.Reduced.{kernel_basis, kernel_rows, Reduced}

module _ {m n l : ℕ} {A B : Matrix} {s : ℕ} {e : ℕ → ℤ} {G Q : Matrix} (R : Reduced m n l A B s e G Q) where
  -- G and Q after the first reduction
  G₀ : Matrix
  G₀ = kernel_basis R.rank R.C

  unfoldable pub Q₀ : Matrix
  Q₀ = kernel_rows R.rank R.Ci

  generators-apply : (w : Chain) → Same n (apply s G w) (apply s G₀ (apply s R.Pi w))
  unfolding G₀
  generators-apply w = record { at = λ i h. (apply-eq R.is_generators w).at i h ∙ apply-mul s s G₀ R.Pi w i }

  pub coordinates-apply : (z : Chain) → Same s (apply n Q z) (apply s R.P (apply n Q₀ z))
  unfolding Q₀
  coordinates-apply z = record { at = λ i h. (apply-eq R.is_coordinates z).at i h ∙ apply-mul s n R.P Q₀ z i }

  pub left-inverse-apply : (w : Chain) → Same s (apply n Q (apply s G w)) w
  unfolding G₀ Q₀
  left-inverse-apply w =
      same-trans (coordinates-apply (apply s G w)) (same-trans (same-apply s R.P inner) (inverse-apply backward w))
    where
      backward : InversePair s R.Pi R.P
      backward = inverse-pair-sym R.second.row_pair

      kernel : Same s (apply n Q₀ (apply s G₀ (apply s R.Pi w))) (apply s R.Pi w)
      kernel = kernel-left-inverse R.first R.is_rank s R.size (apply s R.Pi w)

      inner : Same s (apply n Q₀ (apply s G w)) (apply s R.Pi w)
      inner = same-trans (same-apply s Q₀ (generators-apply w)) kernel

  pub left-inverse : Eq s s (mul n Q G) identity
  left-inverse =
      eq-of-apply (λ x. record { at = λ i h. apply-mul n s Q G x i ∙ (left-inverse-apply x).at i h ∙ sym (apply-identity s x i h) })

  -- the second reduction leaves G Q as it was
  round : (z : Chain) → Same n (apply s G (apply n Q z)) (apply s G₀ (apply n Q₀ z))
  round z = same-trans (generators-apply (apply n Q z)) (same-apply n G₀ inner)
    where
      inner : Same s (apply s R.Pi (apply n Q z)) (apply n Q₀ z)
      inner = same-trans (same-apply s R.Pi (coordinates-apply z)) (inverse-apply R.second.row_pair (apply n Q₀ z))

  pub cycle-iff : (z : Chain) → Cycle m n A z ↔ Same n (apply s G (apply n Q z)) z
  unfolding G₀ Q₀
  cycle-iff z = (λ c. same-trans (round z) (kernel.0 c), λ f. kernel.1 (same-trans (same-sym (round z)) f))
    where
      kernel : Cycle m n A z ↔ Same n (apply s G₀ (apply n Q₀ z)) z
      kernel = kernel-cycle-iff R.first R.is_rank s R.size z

  pub generators-cycle : (w : Chain) → Cycle m n A (apply s G w)
  generators-cycle w = (cycle-iff (apply s G w)).1 (same-apply n G (left-inverse-apply w))

  pub column-cycle : (j : ℕ) → j < s → Cycle m n A (λ i. G i j)
  column-cycle j h = cycle-same (record { at = λ i l. apply-unit s G j i h }) (generators-cycle (λ k. identity k j))

  -- a cycle is a boundary exactly when its kernel coordinates are one of the second reduction's matrix
  kernel-boundary-iff : (z : Chain) → Cycle m n A z → Boundary n l B z ↔ Boundary s l (mul n Q₀ B) (apply n Q₀ z)
  unfolding G₀ Q₀
  kernel-boundary-iff z c = (forward, backward)
    where
      product : (x : Chain) → Same s (apply l (mul n Q₀ B) x) (apply n Q₀ (apply l B x))
      product x = record { at = λ i h. apply-mul n l Q₀ B x i }

      forward : Boundary n l B z → Boundary s l (mul n Q₀ B) (apply n Q₀ z)
      forward b =
          record { filling = b.filling; fills = same-trans (product b.filling) (same-apply s Q₀ b.fills) }

      backward : Boundary s l (mul n Q₀ B) (apply n Q₀ z) → Boundary n l B z
      backward b =
          record { filling = b.filling; fills = same-trans (same-sym (keep made)) (same-trans (same-apply n G₀ inner) (keep c)) }
        where
          keep : {x : Chain} → Cycle m n A x → Same n (apply s G₀ (apply n Q₀ x)) x
          keep {x} f = (kernel-cycle-iff R.first R.is_rank s R.size x).0 f

          made : Cycle m n A (apply l B b.filling)
          made = boundary-cycle R.complex (record { filling = b.filling; fills = record { at = λ i h. refl } })

          inner : Same s (apply n Q₀ (apply l B b.filling)) (apply n Q₀ z)
          inner = same-trans (same-sym (product b.filling)) b.fills

  pub boundary-iff : (z : Chain) → Cycle m n A z → Boundary n l B z ↔ ((i : ℕ) → i < s → e i ∣ℤ apply n Q z i)
  unfolding Q₀
  boundary-iff z c = (forward, backward)
    where
      second : Boundary s l (mul n Q₀ B) (apply n Q₀ z) ↔ ((i : ℕ) → i < s → e i ∣ℤ apply s R.P (apply n Q₀ z) i)
      second = smith-boundary-iff R.second (apply n Q₀ z)

      forward : Boundary n l B z → (i : ℕ) → i < s → e i ∣ℤ apply n Q z i
      forward b i h = subst (λ (t : ℤ). e i ∣ℤ t) (sym ((coordinates-apply z).at i h)) (second.0 ((kernel-boundary-iff z c).0 b) i h)

      backward : ((i : ℕ) → i < s → e i ∣ℤ apply n Q z i) → Boundary n l B z
      backward f = (kernel-boundary-iff z c).1 (second.1 (λ i h. subst (λ (t : ℤ). e i ∣ℤ t) ((coordinates-apply z).at i h) (f i h)))

  pub coordinates-decide : (x y : Chain) → Cycle m n A x → Cycle m n A y → Boundary n l B (λ i. x i -ℤ y i) ↔ ((i : ℕ) → i < s → e i ∣ℤ (apply n Q x i -ℤ apply n Q y i))
  coordinates-decide x y a b =
      (λ f i h. rw (apply-sub n Q x y i) at (iff.0 f i h), λ f. iff.1 (λ i h. rw (apply-sub n Q x y i) (f i h)))
    where
      iff : Boundary n l B (λ i. x i -ℤ y i) ↔ ((i : ℕ) → i < s → e i ∣ℤ apply n Q (λ j. x j -ℤ y j) i)
      iff = boundary-iff (λ i. x i -ℤ y i) (cycle-sub a b)
