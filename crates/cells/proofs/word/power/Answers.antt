-- `power` meets its contract: 2 to the power 16 × n is 65536 to the power n, which fits the word.
use Prim.Native.Nat.{◌*◌, ◌^◌}
use native.Mathlib.Nat.{one-mul, mod-eq_of_lt, pow-le-pow_right}
use native.Mathlib.Omega.{arith}
use Rattle.integers.proofs.Power.{pow-mul}
use Rattle.complexes.specs.Complex.{vertex_bound}
use Rattle.cells.proofs.word.power.Goals as goal

pub returns : goal.returns
returns c =
    let n = c.args.n in
    rw (one-mul (2 ^ (16 * n)), pow-mul 2 16 n)
    (mod-eq_of_lt (omega (arith, pow-le-pow_right {n = vertex_bound} (omega arith) {i = n} {j = 3} (omega arith))))
