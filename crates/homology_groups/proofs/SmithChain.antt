-- What a Smith certificate of one matrix A of m rows and n columns says of chains. `smith-row`: U A z has the entries of d times those of Wi z.
-- `smith-cycle-iff`: z is a cycle of A exactly when the first entries of Wi z, as many as the rank, are 0.
-- `smith-boundary-iff`: v is A times a chain exactly when d divides U v, entry by entry.
use Prim.Native.Nat.{ℕ, ◌<◌}
use native.Mathlib.Omega.{arith}
use native.Mathlib.Decide.{dec_lt}
use mathlib.Core.Path.{◌≡◌, refl, sym, ◌∙◌, ap}
use mathlib.Core.Logic.{◌↔◌}
use lib.IntN.{ℤ, pos, ◌*ℤ◌}
use Rattle.integers.proofs.Ring.{zero-mul, mul-zero, mul_comm}
use Rattle.integers.proofs.Order.{mul-cancel}
use Rattle.integers.specs.Division.{◌∣ℤ◌}
use Rattle.matrices.specs.Matrix.{Matrix, mul}
use Rattle.matrices.proofs.Inverse.{inverse-pair-sym}
use Rattle.matrices.specs.Vector.{apply}
use Rattle.matrices.proofs.VectorLaws.{apply-mul}
use Rattle.smith.proofs.Certificate.{Smith, diagonal}
use Rattle.smith.proofs.Diagonal.{apply-diagonal, apply-diagonal-below}
use Rattle.smith.proofs.Rank.{IsRank, rank-bound}
use Rattle.homology_groups.specs.Chain.{Chain, Same, Cycle, Boundary}
use Rattle.homology_groups.proofs.ChainLaws.{same-sym, apply-same, same-apply, apply-eq, apply-zeros, inverse-apply, inverse-cancel}

module _ {m n : ℕ} {A : Matrix} {d : ℕ → ℤ} {U Ui W Wi : Matrix} (smith : Smith m n A d U Ui W Wi) where
  -- past the columns d is 0, so the product needs no bound
  diagonal-row : (y : Chain) (i : ℕ) → apply n (diagonal d) y i ≡ d i *ℤ y i
  diagonal-row y i = go (dec_lt i n)
    where
      go : Dec (i < n) → apply n (diagonal d) y i ≡ d i *ℤ y i
      go (yes h) = apply-diagonal n d y i h
      go (no h) =
          apply-diagonal-below n d y i (omega arith)
          ∙ sym (zero-mul (y i))
          ∙ sym (ap (λ (t : ℤ). t *ℤ y i) (smith.beyond i (omega arith)))

  pub column-row : (y : Chain) (i : ℕ) → i < m → apply m U (apply n A (apply n W y)) i ≡ d i *ℤ y i
  column-row y i h =
      sym (apply-mul m n U A (apply n W y) i)
      ∙ sym (apply-mul n n (mul m U A) W y i)
      ∙ (apply-eq smith.carries y).at i h
      ∙ diagonal-row y i

  pub smith-row : (z : Chain) (i : ℕ) → i < m → apply m U (apply n A z) i ≡ d i *ℤ apply n Wi z i
  smith-row z i h =
      apply-same U (same-apply m A (same-sym (inverse-apply (inverse-pair-sym smith.column_pair) z))) i
      ∙ column-row (apply n Wi z) i h

  pub smith-cycle-iff : {r : ℕ} → IsRank d r → (z : Chain) → Cycle m n A z ↔ ((i : ℕ) → i < r → apply n Wi z i ≡ pos 0)
  smith-cycle-iff {r} rank z = (forward, backward)
    where
      forward : Cycle m n A z → (i : ℕ) → i < r → apply n Wi z i ≡ pos 0
      forward c i h =
          mul-cancel (d i) (apply n Wi z i) (pos 0) (rank.nonzero i h) product
        where
          product : d i *ℤ apply n Wi z i ≡ d i *ℤ pos 0
          product =
              sym (smith-row z i (omega (arith, rank-bound smith rank)))
              ∙ apply-zeros m U (apply n A z) c.vanishes i
              ∙ sym (mul-zero (d i))

      product-zero : ((i : ℕ) → i < r → apply n Wi z i ≡ pos 0) → (i : ℕ) → d i *ℤ apply n Wi z i ≡ pos 0
      product-zero f i = go (dec_lt i r)
        where
          go : Dec (i < r) → d i *ℤ apply n Wi z i ≡ pos 0
          go (yes h) = ap (λ (t : ℤ). d i *ℤ t) (f i h) ∙ mul-zero (d i)
          go (no h) = ap (λ (t : ℤ). t *ℤ apply n Wi z i) (rank.zeros i (omega arith)) ∙ zero-mul (apply n Wi z i)

      zeros : Chain
      zeros i = pos 0

      backward : ((i : ℕ) → i < r → apply n Wi z i ≡ pos 0) → Cycle m n A z
      backward f = record { vanishes = (inverse-cancel {y = zeros} smith.row_pair same).at }
        where
          same : Same m (apply m U (apply n A z)) (apply m U zeros)
          same = record { at = λ i h. smith-row z i h ∙ product-zero f i ∙ sym (apply-zeros m U zeros (λ j l. refl) i) }

  pub smith-boundary-iff : (v : Chain) → Boundary m n A v ↔ ((i : ℕ) → i < m → d i ∣ℤ apply m U v i)
  smith-boundary-iff v = (forward, backward)
    where
      forward : Boundary m n A v → (i : ℕ) → i < m → d i ∣ℤ apply m U v i
      forward b i h =
          record {
            quotient = apply n Wi b.filling i;
            is = apply-same U (same-sym b.fills) i ∙ smith-row b.filling i h ∙ mul_comm (d i) (apply n Wi b.filling i);
          }

      backward : ((i : ℕ) → i < m → d i ∣ℤ apply m U v i) → Boundary m n A v
      backward f = record { filling = apply n W quotients; fills = inverse-cancel smith.row_pair (record { at = same }) }
        where
          pick : (i : ℕ) → Dec (i < m) → ℤ
          pick i (yes h) = (f i h).quotient
          pick i (no h) = pos 0

          quotients : Chain
          quotients i = pick i (dec_lt i m)

          quotient_is : (i : ℕ) → i < m → apply m U v i ≡ quotients i *ℤ d i
          quotient_is i h = go (dec_lt i m)
            where
              go : (c : Dec (i < m)) → apply m U v i ≡ pick i c *ℤ d i
              go (yes l) = (f i l).is
              go (no l) = absurd (l h)

          same : (i : ℕ) → i < m → apply m U (apply n A (apply n W quotients)) i ≡ apply m U v i
          same i h = column-row quotients i h ∙ mul_comm (d i) (quotients i) ∙ sym (quotient_is i h)
