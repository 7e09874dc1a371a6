-- `check::check_chains` meets its contract. The invariant: no chain so far is at fault. The measure is how many are left.
use mathlib.Core.Path.{◌≡◌}
use Prim.Native.Nat.{ℕ, ◌≤◌, ◌<◌}
use Rattle.sheet_format.specs.Check.{sections_of}
use Rattle.requests.proofs.ChainsLaws.{fault}
use Rattle.limits.specs.Limits.{coefficient_limit}
use Rattle.chain_checks.proofs.check.check_chains.Given as goal

abbrev pub invariant-loop-i : goal.invariant-loop-i
invariant-loop-i l = (l.i ≤ l.many) × ((k : ℕ) → k < l.i → fault coefficient_limit (sections_of l.s) l.p l.chains k ≡ 0)
