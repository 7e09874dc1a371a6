-- The tests of the steps c, d and e read only the places that they look at: column_keeps-cong, row_keeps-cong, first_indivisible-cong.
use mathlib.Core.Path.{◌≡◌, refl, ◌∙◌, ap}
use mathlib.Core.Bool.{Bool, true, false}
use Prim.Native.Nat.{ℕ, zero, suc, ◌+◌, ◌≤◌, ◌<◌}
use native.Mathlib.Omega.{arith}
use lib.IntN.{ℤ}
use Rattle.matrices.specs.Matrix.{Matrix}
use Rattle.reduction_steps.specs.Step.{column_keeps, row_keeps, row_indivisible, first_indivisible, Row, row}

module _ (A B : Matrix) where
  pub column_keeps-cong : (k more i : ℕ) → ((a : ℕ) → i ≤ a → a < i + more → A a k ≡ B a k) → column_keeps A k more i ≡ column_keeps B k more i
  unfolding column_keeps
  column_keeps-cong k zero i h = refl
  column_keeps-cong k (suc more) i h =
      let here : A i k ≡ B i k = h i (omega arith) (omega arith) in
      let rest : column_keeps A k more (suc i) ≡ column_keeps B k more (suc i) = column_keeps-cong k more (suc i) (λ a p q. h a (omega arith) (omega arith)) in
      cc

  pub row_keeps-cong : (k more j : ℕ) → ((b : ℕ) → j ≤ b → b < j + more → A k b ≡ B k b) → row_keeps A k more j ≡ row_keeps B k more j
  unfolding row_keeps
  row_keeps-cong k zero j h = refl
  row_keeps-cong k (suc more) j h =
      let here : A k j ≡ B k j = h j (omega arith) (omega arith) in
      let rest : row_keeps A k more (suc j) ≡ row_keeps B k more (suc j) = row_keeps-cong k more (suc j) (λ b p q. h b (omega arith) (omega arith)) in
      cc

  row_indivisible-cong : (p : ℤ) (i more j : ℕ) → ((b : ℕ) → j ≤ b → b < j + more → A i b ≡ B i b) → row_indivisible A p i more j ≡ row_indivisible B p i more j
  unfolding row_indivisible
  row_indivisible-cong p i zero j h = refl
  row_indivisible-cong p i (suc more) j h =
      let here : A i j ≡ B i j = h j (omega arith) (omega arith) in
      let rest : row_indivisible A p i more (suc j) ≡ row_indivisible B p i more (suc j) = row_indivisible-cong p i more (suc j) (λ b u v. h b (omega arith) (omega arith)) in
      cc

  pub first_indivisible-cong :
      (p q : ℤ) (j across more i : ℕ) → p ≡ q → ((a b : ℕ) → i ≤ a → a < i + more → j ≤ b → b < j + across → A a b ≡ B a b)
      → first_indivisible A p j across more i ≡ first_indivisible B q j across more i
  unfolding first_indivisible
  first_indivisible-cong p q j across zero i e h = refl
  first_indivisible-cong p q j across (suc more) i e h =
      ap (λ (x : ℤ). first_indivisible A x j across (suc more) i) e
      ∙ ap (λ (t : Bool). elim t [ true ↦ row i | false ↦ first_indivisible A q j across more (suc i) ]) (row_indivisible-cong q i across j (λ b u v. h i b (omega arith) (omega arith) u v))
      ∙ ap (λ (r : Row). elim (row_indivisible B q i across j) [ true ↦ row i | false ↦ r ])
      (first_indivisible-cong q q j across more (suc i) refl (λ a b u v s t. h a b (omega arith) (omega arith) s t))
