-- `kind::counts` meets its contract.
use mathlib.Core.Path.{refl}
use Rattle.reports.specs.Report.{torsion_count}
use Rattle.writers.proofs.Held.{matrix-held}
use Rattle.writers.proofs.kind.counts.Goals as goal

pub reported_count-requires : goal.reported_count-requires
reported_count-requires c = let pre = c.requires in (matrix-held pre.laid, pre.rank_below, pre.kinds)

pub returns : goal.returns
unfolding torsion_count
returns c = rw (c.reported_count.ensures, c.bits.ensures) refl
