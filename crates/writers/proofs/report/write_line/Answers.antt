use Rattle.std.proofs.Common.{◌∙◌, sym, ap, arith, ℕ, ◌+◌, ℤ, pos}
use lib.Seq.{ext_get_or}
use Rattle.integers.specs.Slot.{slot}
use Rattle.lists.specs.Tabulate.{tabulate}
use Rattle.lists.proofs.TabulateLaws.{length-tabulate, get_or-tabulate}
use Rattle.matrix_lines.specs.Matrices.{contents}
use Rattle.writers.proofs.report.write_line.Goals as goal

pub returns : goal.returns
returns c =
    let a = c.args in
    let n = a.g.width in
    let f : ℕ → ℤ = contents a.g a.w.now a.i in
    ext_get_or (pos 0) c.loop-j.slots (tabulate n f)
    (omega (arith, length-tabulate n f))
    (λ k below.
    c.loop-j.invariant k (omega arith)
    ∙ ap (λ (at : ℕ). slot a.w.now (at + k)) c.line-at.ensures
    ∙ sym (get_or-tabulate n f k (pos 0) (omega arith)))
