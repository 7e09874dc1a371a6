-- `coordinate_lists::write_bytes` meets its contract. The invariant: the lists of the chains passed are written, and there is room for a chain and a list.
use mathlib.Core.Path.{◌≡◌}
use Prim.Native.Nat.{◌*◌}
use lib.ListN.{length}
use Rattle.lists.specs.Splice.{splices}
use Rattle.limits.specs.Limits.{host_limit}
use Rattle.fildwuk.specs.Lists.{list_bytes}
use Rattle.fildwuk.proofs.coordinate_lists.write_bytes.Given as goal

abbrev pub invariant-loop-i : goal.invariant-loop-i
invariant-loop-i l = record {
  so_far : l.out ≡ splices (8 * l.cells) (list_bytes l.reduced l.w l.cells l.many l.chains) l.i l.initial.out;
  size : length l.chain ≡ l.cells;
  room : length l.numbers ≡ host_limit;
}
