-- `little_endian::read_chain` meets its contract. The loop's invariant: the coefficients that were passed are read.
use Rattle.std.proofs.Common.{◌≡◌, ℕ, ◌+◌, ◌<◌, get_or, pos}
use Rattle.host_calls.specs.Bytes.{coefficient_in}
use Rattle.little_endian.proofs.read_chain.Given as goal

abbrev pub invariant-loop-i : goal.invariant-loop-i
invariant-loop-i l = (k : ℕ) → k < l.i → get_or l.coefficients k (pos 0) ≡ coefficient_in l.chains (l.from + k)
