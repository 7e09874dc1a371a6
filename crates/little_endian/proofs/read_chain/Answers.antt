use Rattle.std.proofs.Common.{◌∙◌, sym, arith, ℕ, ◌+◌, length, ℤ, pos}
use lib.Seq.{ext_get_or}
use Rattle.lists.specs.Tabulate.{tabulate}
use Rattle.lists.proofs.TabulateLaws.{length-tabulate, get_or-tabulate}
use Rattle.host_calls.specs.Bytes.{coefficient_in}
use Rattle.little_endian.proofs.read_chain.Goals as goal

pub returns : goal.returns
returns c =
    let a = c.args in
    let n = length a.coefficients.now in
    let f : ℕ → ℤ = λ i. coefficient_in a.chains.now (a.from + i) in
    ext_get_or (pos 0) c.loop-i.coefficients (tabulate n f)
    (omega (arith, length-tabulate n f))
    (λ k below. c.loop-i.invariant k (omega arith) ∙ sym (get_or-tabulate n f k (pos 0) (omega arith)))
