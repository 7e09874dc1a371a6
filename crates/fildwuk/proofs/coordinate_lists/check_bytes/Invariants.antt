-- `coordinate_lists::check_bytes` meets its contract. The invariant: no chain so far is at fault, and there is room for one.
use mathlib.Core.Path.{◌≡◌}
use Prim.Native.Nat.{ℕ, ◌*◌, ◌<◌}
use lib.ListN.{length}
use Rattle.sheet_format.specs.Check.{sections_of}
use Rattle.host_calls.specs.Bytes.{chain_from}
use Rattle.requests.proofs.ChainsLaws.{fault}
use Rattle.limits.specs.Limits.{coefficient_limit}
use Rattle.fildwuk.proofs.coordinate_lists.check_bytes.Given as goal

abbrev pub invariant-loop-i : goal.invariant-loop-i
invariant-loop-i l = record {
  sound : (k : ℕ) → k < l.i → fault coefficient_limit (sections_of l.s) l.p (chain_from (l.many * l.cells) l.chains) k ≡ 0;
  size : length l.chain ≡ l.cells;
}
