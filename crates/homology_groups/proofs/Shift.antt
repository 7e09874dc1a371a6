-- A chain moved r places on, with zeros before it (`shift`). `shift-tail`: a chain that starts with r zeros is its own tail moved on.
-- `apply-shift`: a matrix times a chain moved on is its columns from r on times the chain.
-- `combination-shift`: a combination of columns from u on is the matrix times the coefficients moved on.
use Prim.Native.Nat.{ℕ, ◌+◌, ◌-◌, ◌<◌}
use native.Mathlib.Omega.{arith}
use native.Mathlib.Decide.{dec_lt}
use mathlib.Core.Path.{◌≡◌, sym, ◌∙◌, ap}
use mathlib.Core.Bool.{cond}
use borrow.Author.Tests.{lt-ltb, le-ltb}
use lib.Dec.{ltb}
use lib.IntN.{ℤ, pos, ◌+ℤ◌, ◌*ℤ◌}
use Rattle.integers.proofs.Ring.{zero-add, mul-zero, mul_comm}
use Rattle.matrices.specs.Sum.{sum}
use Rattle.matrices.proofs.SumLaws.{sum-ext, sum-zero, sum-split}
use Rattle.matrices.specs.Matrix.{Matrix}
use Rattle.matrices.specs.Vector.{apply}
use Rattle.homology_groups.specs.Chain.{Chain, combination}

pub shift : ℕ → Chain → Chain
shift r w i = cond (ltb i r) (pos 0) (w (i - r))

pub shift-below : (r : ℕ) (w : Chain) (i : ℕ) → i < r → shift r w i ≡ pos 0
unfolding shift
shift-below r w i h = rw (lt-ltb i r h)

pub shift-above : (r : ℕ) (w : Chain) (i : ℕ) → shift r w (r + i) ≡ w i
unfolding shift
shift-above r w i = rw (le-ltb (r + i) r (omega arith)) (ap w (omega arith))

pub shift-tail : (r : ℕ) (y : Chain) → ((i : ℕ) → i < r → y i ≡ pos 0) → (i : ℕ) → shift r (λ j. y (r + j)) i ≡ y i
unfolding shift
shift-tail r y h i = go (dec_lt i r)
  where
    go : Dec (i < r) → shift r (λ j. y (r + j)) i ≡ y i
    go (yes l) = shift-below r (λ j. y (r + j)) i l ∙ sym (h i l)
    go (no l) = rw (le-ltb i r (omega arith)) (ap y (omega arith))

pub apply-shift : (r s : ℕ) {n : ℕ} → r + s ≡ n → (A : Matrix) (w : Chain) (i : ℕ) → apply n A (shift r w) i ≡ apply s (λ a b. A a (r + b)) w i
unfolding apply
apply-shift r s size A w i =
    ap (λ (k : ℕ). sum k (λ j. A i j *ℤ shift r w j)) (sym size)
    ∙ sum-split r s (λ j. A i j *ℤ shift r w j)
    ∙ ap (λ (t : ℤ). t +ℤ sum s (λ j. A i (r + j) *ℤ shift r w (r + j))) (sum-zero r (λ j. A i j *ℤ shift r w j) before)
    ∙ zero-add (sum s (λ j. A i (r + j) *ℤ shift r w (r + j)))
    ∙ sum-ext s (λ j. A i (r + j) *ℤ shift r w (r + j)) (λ j. A i (r + j) *ℤ w j) after
  where
    before : (j : ℕ) → j < r → A i j *ℤ shift r w j ≡ pos 0
    before j h = ap (λ (t : ℤ). A i j *ℤ t) (shift-below r w j h) ∙ mul-zero (A i j)

    after : (j : ℕ) → j < s → A i (r + j) *ℤ shift r w (r + j) ≡ A i (r + j) *ℤ w j
    after j h = ap (λ (t : ℤ). A i (r + j) *ℤ t) (shift-above r w j)

pub combination-shift : (u k : ℕ) {s : ℕ} → u + k ≡ s → (c : Chain) (G : Matrix) (i : ℕ) → combination k c (λ j a. G a (u + j)) i ≡ apply s G (shift u c) i
unfolding combination apply
combination-shift u k size c G i =
    sum-ext k (λ j. c j *ℤ G i (u + j)) (λ j. G i (u + j) *ℤ c j) (λ j h. mul_comm (c j) (G i (u + j)))
    ∙ sym (apply-shift u k size G c i)
