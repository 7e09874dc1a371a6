-- What it means that generators and orders describe the homology group of A (m rows, n columns) and B (n rows, l columns).
use Rattle.std.specs.Prelude.{ℕ, suc, ◌<◌, ◌≡◌, ◌≢◌, ◌↔◌, ℤ, pos, ◌-ℤ◌, ◌≤ℤ◌}
use Rattle.integers.specs.Division.{◌∣ℤ◌}
use Rattle.matrices.specs.Matrix.{Matrix}
use Rattle.homology_groups.specs.Chain.{Chain, Cycle, Boundary, combination}

-- z is the combination of the k generators g with some coefficients, plus a boundary
pub record Spanned (n l : ℕ) (B : Matrix) (k : ℕ) (g : ℕ → Chain) (z : Chain) : Type 0 where
  pub coefficients : ℕ → ℤ
  pub remainder : Boundary n l B (λ i. z i -ℤ combination k coefficients g i)

-- The k generators g, generator j of order o j (0: free), present the group: each is a cycle, every cycle is a combination of them plus a
-- boundary, and a combination is a boundary exactly when each order divides its coefficient. The orders are at least 0, none is 1,
-- and each divides the next; 0 divides only 0, so the free generators come last.
pub record Presentation (m n l : ℕ) (A B : Matrix) (k : ℕ) (g : ℕ → Chain) (o : ℕ → ℤ) : Type 0 where
  pub cycles : (j : ℕ) → j < k → Cycle m n A (g j)
  pub spans : (z : Chain) → Cycle m n A z → Spanned n l B k g z
  pub relations : (c : ℕ → ℤ) → Boundary n l B (combination k c g) ↔ ((j : ℕ) → j < k → o j ∣ℤ c j)
  pub nonneg : (j : ℕ) → j < k → pos 0 ≤ℤ o j
  pub proper : (j : ℕ) → j < k → o j ≢ pos 1
  pub divides-next : (j : ℕ) → suc j < k → o j ∣ℤ o (suc j)

-- two lists of orders of k and k' generators that say the same
pub record SameOrders (k : ℕ) (o : ℕ → ℤ) (k' : ℕ) (o' : ℕ → ℤ) : Type 0 where
  pub count : k ≡ k'
  pub orders : (j : ℕ) → j < k → o j ≡ o' j
