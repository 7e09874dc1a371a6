-- `little_endian::write_numbers` meets its contract. The loop's invariant: the bytes of the numbers that were passed stand from byte `at` on, and the rest
-- is as it was.
use Rattle.std.proofs.Common.{◌≡◌, take}
use Rattle.lists.specs.Splice.{splice}
use Rattle.host_calls.specs.Bytes.{numbers_bytes}
use Rattle.little_endian.proofs.write_numbers.Given as goal

abbrev pub invariant-loop-i : goal.invariant-loop-i
invariant-loop-i l = l.out ≡ splice l.at (numbers_bytes (take l.i l.numbers)) l.initial.out
