-- `chain::boundary_not_zero` meets its contract. The invariant: the sums are the boundary of the coefficients passed.
use mathlib.Core.Path.{◌≡◌}
use mathlib.Core.List.{List}
use Prim.Native.Nat.{ℕ, suc, ◌-◌, ◌<◌, ◌≤◌}
use lib.ListN.{length, get_or}
use lib.IntN.{ℤ, pos}
use Rattle.matrices.specs.Vector.{apply}
use Rattle.complexes.specs.Complex.{Sections, count}
use Rattle.complexes.specs.Boundary.{boundary}
use Rattle.sheet_format.specs.Check.{sections_of}
use Rattle.limits.specs.Limits.{library_limit}
use Rattle.chain_checks.proofs.chain.boundary_not_zero.Given as goal

-- row i of the boundary of the first j coefficients
abbrev pub partial : Sections → ℕ → List ℤ → ℕ → ℕ → ℤ
partial K p chain j i = apply j (boundary K (suc p)) (λ k. get_or chain k (pos 0)) i

-- the sums hold the boundary of the first j coefficients
pub record Summed (K : Sections) (p : ℕ) (chain : List ℤ) (j : ℕ) (sums : List ℤ) : Type 0 where
  pub within : j ≤ length chain
  pub sized : length sums ≡ library_limit
  pub so_far : (i : ℕ) → i < count K p → get_or sums i (pos 0) ≡ partial K p chain j i

abbrev pub invariant-loop-j : goal.invariant-loop-j
invariant-loop-j l = Summed (sections_of l.s) (l.p - 1) l.chain l.j l.sums
