-- A chain of which the call does not know yet how many coefficients it must have, read from its bytes.
use Rattle.std.specs.Prelude.{◌≡◌, ◌≢◌, ◌⊎◌, List, ℕ, suc, ◌*◌, ◌≤◌, length, take, ℤ}
use Rattle.limits.specs.Limits.{host_limit}
use Rattle.host_calls.specs.Bytes.{chain_from}

-- the slots for its coefficients: one more than a dimension may have cells
abbrev pub chain_room : ℕ
chain_room = suc host_limit

-- The first r slots stand for the chain: for each n that a dimension may have they are the chain of n coefficients, or neither they nor the bytes are
-- n coefficients.
pub record Given (chain : List ℕ) (r : ℕ) (coefficients : List ℤ) : Type 0 where
  pub fits : r ≤ length coefficients
  pub stands : (n : ℕ) → n ≤ host_limit → (take r coefficients ≡ chain_from n chain) ⊎ ((r ≢ n) × (length chain ≢ 4 * n))
