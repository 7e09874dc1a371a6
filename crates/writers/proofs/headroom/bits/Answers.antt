-- `headroom::bits` meets its contract.
use native.Mathlib.Omega.{arith}
use lib.Count.{leading_le}
use Rattle.reports.proofs.BitsLaws.{bits-leading}
use Rattle.writers.proofs.headroom.bits.Goals as goal

pub overflow_sub-result : goal.overflow_sub-result
overflow_sub-result c = omega (arith, leading_le 64 c.args.peak)

pub returns : goal.returns
returns c = bits-leading 64 c.args.peak c.ranges.peak.fits
