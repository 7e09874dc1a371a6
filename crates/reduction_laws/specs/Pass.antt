-- The row pass of step c on a matrix: `pass`. It leaves the rows before its start alone (pass-above), and each row that it meets keeps
-- its remainder in column k (pass-at, pass-remainder). The column pass of step d is the same on the transpose.
use Rattle.std.specs.Prelude.{◌≡◌, refl, ◌≢◌, ℕ, zero, suc, ◌+◌, ◌≤◌, ◌<◌, ◌-ℤ◌, ◌*ℤ◌}
use Rattle.std.proofs.Common.{sym, ◌∙◌, ap, arith}
use Rattle.std.proofs.Math.Decide.{ℕ_discrete}
use Rattle.integers.proofs.Floor.{modulo-is}
use Rattle.integers.specs.Division.{floor, modulo}
use Rattle.matrices.specs.Matrix.{Matrix}
use Rattle.matrices.specs.Operation.{Operation, subtract, on_rows}
use Rattle.matrices.proofs.OperationLaws.{on_rows-subtract-at, on_rows-subtract-other}

-- the operation that clears the entry of row i in column k
unfoldable pub clearing : ℕ → ℕ → Matrix → Operation
clearing k i A = subtract i k (floor (A i k) (A k k))

-- `more` rows from i on
unfoldable pub pass : ℕ → ℕ → ℕ → Matrix → Matrix
pass k zero i A = A
pass k (suc more) i A = pass k more (suc i) (on_rows (clearing k i A) A)

-- the next matrix of the pass
abbrev cleared : ℕ → ℕ → Matrix → Matrix
cleared k i A = on_rows (subtract i k (floor (A i k) (A k k))) A

pub pass-above : (k more i : ℕ) (A : Matrix) (a b : ℕ) → a < i → pass k more i A a b ≡ A a b
unfolding pass clearing
pass-above k zero i A a b l = refl
pass-above k (suc more) i A a b l =
    pass-above k more (suc i) (cleared k i A) a b (omega arith) ∙ on_rows-subtract-other i k (floor (A i k) (A k k)) A a b (omega arith)

pub pass-at : (k more i : ℕ) (A : Matrix) (a b : ℕ) → k < i → i ≤ a → a < i + more → pass k more i A a b ≡ A a b -ℤ floor (A a k) (A k k) *ℤ A k b
unfolding pass clearing
pass-at k zero i A a b l p q = absurd (omega arith)
pass-at k (suc more) i A a b l p q = go (ℕ_discrete a i) (λ r. pass-at k more (suc i) B a b (omega arith) r (omega arith))
  where
    B : Matrix
    B = cleared k i A

    stays : (c d : ℕ) → c ≢ i → B c d ≡ A c d
    stays c d h = on_rows-subtract-other i k (floor (A i k) (A k k)) A c d h

    go : Dec (a ≡ i) → (suc i ≤ a → pass k more (suc i) B a b ≡ B a b -ℤ floor (B a k) (B k k) *ℤ B k b) → pass k more (suc i) B a b ≡ A a b -ℤ floor (A a k) (A k k) *ℤ A k b
    go (yes e) r =
        pass-above k more (suc i) B a b (omega arith)
        ∙ ap (λ (c : ℕ). B c b) e
        ∙ on_rows-subtract-at i k (floor (A i k) (A k k)) A b
        ∙ ap (λ (c : ℕ). A c b -ℤ floor (A c k) (A k k) *ℤ A k b) (sym e)
    go (no d) r = r (omega arith) ∙ cc (stays a b d, stays a k d, stays k k (omega arith), stays k b (omega arith))

pub pass-remainder : (k more i : ℕ) (A : Matrix) (a : ℕ) → k < i → i ≤ a → a < i + more → pass k more i A a k ≡ modulo (A a k) (A k k)
pass-remainder k more i A a l p q = pass-at k more i A a k l p q ∙ sym (modulo-is (A a k) (A k k))
