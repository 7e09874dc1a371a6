-- The kernel of a matrix A from its Smith certificate: with rank r and s = n - r, the kernel rows are a left inverse of the kernel basis
-- (`kernel-left-inverse`), and z is a cycle exactly when kernel basis times kernel rows keeps it (`kernel-cycle-iff`).
use Prim.Native.Nat.{ℕ, ◌+◌, ◌<◌}
use native.Mathlib.Omega.{arith}
use mathlib.Core.Path.{◌≡◌, refl, sym, ◌∙◌}
use mathlib.Core.Logic.{◌↔◌}
use lib.IntN.{ℤ, pos}
use Rattle.matrices.specs.Matrix.{Matrix}
use Rattle.matrices.proofs.Inverse.{inverse-pair-sym}
use Rattle.matrices.specs.Vector.{apply}
use Rattle.smith.proofs.Certificate.{Smith}
use Rattle.smith.proofs.Rank.{IsRank}
use Rattle.homology_groups.specs.Chain.{Chain, Same, Cycle}
use Rattle.homology_groups.proofs.ChainLaws.{same-sym, same-trans, apply-same, same-apply, inverse-apply}
use Rattle.homology_groups.proofs.Shift.{shift, shift-below, shift-above, shift-tail, apply-shift}
use Rattle.homology_groups.proofs.SmithChain.{smith-cycle-iff}
use Rattle.homology_groups.proofs.Reduced.{kernel_basis, kernel_rows}

-- entry i of the kernel rows times z is entry r + i of Ci z
kernel_rows-apply : (r n : ℕ) (Ci : Matrix) (z : Chain) (i : ℕ) → apply n (kernel_rows r Ci) z i ≡ apply n Ci z (r + i)
unfolding apply kernel_rows
kernel_rows-apply r n Ci z i = refl

-- moved on by r places they are Ci z, where that starts with r zeros
kernel_rows-shift : (r n : ℕ) (Ci : Matrix) (z : Chain) → ((i : ℕ) → i < r → apply n Ci z i ≡ pos 0) → Same n (shift r (apply n (kernel_rows r Ci) z)) (apply n Ci z)
unfolding apply kernel_rows
kernel_rows-shift r n Ci z h = record { at = λ i l. shift-tail r (apply n Ci z) h i }

module _ {m n : ℕ} {A : Matrix} {d : ℕ → ℤ} {U Ui C Ci : Matrix} (smith : Smith m n A d U Ui C Ci) {r : ℕ} (rank : IsRank d r) (s : ℕ) (size : r + s ≡ n) where
  basis-shift : (w : Chain) → Same n (apply s (kernel_basis r C) w) (apply n C (shift r w))
  unfolding kernel_basis
  basis-shift w = record { at = λ i h. sym (apply-shift r s size C w i) }

  -- Ci times the kernel basis times w is w after r zeros
  inverse-basis : (w : Chain) → Same n (apply n Ci (apply s (kernel_basis r C) w)) (shift r w)
  inverse-basis w = same-trans (same-apply n Ci (basis-shift w)) (inverse-apply smith.column_pair (shift r w))

  pub kernel-left-inverse : (w : Chain) → Same s (apply n (kernel_rows r Ci) (apply s (kernel_basis r C) w)) w
  kernel-left-inverse w = record { at = entry }
    where
      entry : (i : ℕ) → i < s → apply n (kernel_rows r Ci) (apply s (kernel_basis r C) w) i ≡ w i
      entry i h =
          kernel_rows-apply r n Ci (apply s (kernel_basis r C) w) i
          ∙ (inverse-basis w).at (r + i) (omega arith)
          ∙ shift-above r w i

  pub kernel-cycle-iff : (z : Chain) → Cycle m n A z ↔ Same n (apply s (kernel_basis r C) (apply n (kernel_rows r Ci) z)) z
  kernel-cycle-iff z = (forward, backward)
    where
      w : Chain
      w = apply n (kernel_rows r Ci) z

      forward : Cycle m n A z → Same n (apply s (kernel_basis r C) w) z
      forward c =
          same-trans (basis-shift w) (same-trans (same-apply n C moved) (inverse-apply (inverse-pair-sym smith.column_pair) z))
        where
          moved : Same n (shift r w) (apply n Ci z)
          moved = kernel_rows-shift r n Ci z ((smith-cycle-iff smith rank z).0 c)

      backward : Same n (apply s (kernel_basis r C) w) z → Cycle m n A z
      backward e = (smith-cycle-iff smith rank z).1 zeros
        where
          zeros : (i : ℕ) → i < r → apply n Ci z i ≡ pos 0
          zeros i h = apply-same Ci (same-sym e) i ∙ (inverse-basis w).at i (omega arith) ∙ shift-below r w i h
