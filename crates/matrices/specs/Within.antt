-- When an operation fits a matrix with n rows (or n columns, where it acts on columns): its indices are below n, and `subtract`
-- takes one row from another. Where the facts on the indices are at hand, `omega arith` proves `Within n op`.
use Rattle.std.proofs.Common.{sym, arith}
use Rattle.std.specs.Prelude.{◌≢◌, ℕ, suc, ◌<◌, pos}
use Rattle.matrices.specs.Operation.{Operation, subtract, swap, negate, inverse}

pub record SubtractWithin (n i k : ℕ) : Type 0 where
  pub changed : i < n
  pub taken : k < n
  pub distinct : i ≢ k

pub record SwapWithin (n i k : ℕ) : Type 0 where
  pub first : i < n
  pub second : k < n

abbrev pub Within : ℕ → Operation → Type 0
Within n (subtract i k q) = SubtractWithin n i k
Within n (swap i k) = SwapWithin n i k
Within n (negate k) = k < n

pub Within-inverse : (n : ℕ) (op : Operation) → Within n op → Within n (inverse op)
unfolding inverse
Within-inverse n (subtract i k q) w = record { changed = w.taken; taken = w.changed; distinct = λ e. w.distinct (sym e) }
Within-inverse n (swap i k) w = w
Within-inverse n (negate k) w = w

-- ---- an example

subtract-within : (n i q : ℕ) → i < n → Within (suc n) (subtract n i (pos q))
subtract-within n i q l = omega arith
