use mathlib.Core.Path.{refl, sym, ap, ◌∙◌}
use Prim.Native.Nat.{ℕ, ◌+◌}
use native.Mathlib.Nat as NatL
use native.Mathlib.Omega.{arith}
use lib.IntN.{ℤ, ◌*ℤ◌}
use Rattle.matrices.specs.Sum.{sum}
use Rattle.matrices.proofs.SumLaws.{sum-ext}
use Rattle.matrices.specs.Vector.{apply}
use Rattle.reduction_steps.specs.Table.{entry}
use Rattle.integers.specs.Slot.{slot}
use Rattle.operations.specs.Laid.{lines_of}
use Rattle.machine_words.specs.Read.{of-bits}
use Rattle.matrix_lines.proofs.Spans.{line-span, span-inside}
use Rattle.writers.proofs.Entries.{entry-lines}
use Rattle.writers.proofs.coordinates.row_times_chain.Invariants.{again, coefficient-word, passed, product-word, raised-word}
use Rattle.writers.proofs.coordinates.row_times_chain.Goals as goal
use Rattle.writers.proofs.coordinates.row_times_chain.Goals.{then-x-ne0, else-x-ne0}

pub loop-j-init : goal.loop-j-init
unfolding sum
loop-j-init c =
    let args = c.args in let pre = c.requires.held in
    let whole = span-inside (line-span args.q c.line-line.result args.i c.line-line.ensures pre.1) pre.0 in
    record {
      below = omega arith;
      inside = omega (arith, whole, pre.2);
      short = omega (arith, pre.2, pre.3);
      small = pre.4;
      coefficients = c.requires.by_index;
      so_far = refl;
      bound = omega arith;
    }

pub overflow_mul-total : goal.overflow_mul-total
overflow_mul-total c = rw (c.from.ensures, c.from-then-x-ne0.ensures) (product-word c.loop-j.invariant c.loop-j-test.true)

pub overflow_add-total : goal.overflow_add-total
overflow_add-total c = rw (c.from.ensures, c.from-then-x-ne0.ensures) (raised-word c.loop-j.invariant c.loop-j-test.true)

pub loop-j-preserved : goal.loop-j-preserved
loop-j-preserved c =
    let loop = c.loop-j in let more = c.loop-j-test.true in
    elim c.if-x-ne0.branch [
      | then-x-ne0 w ↦ rw (w.total-is, w.from.ensures, w.from-then-x-ne0.ensures) (again loop.invariant more)
      | else-x-ne0 w ↦ rw w.total-is (passed loop.invariant more (of-bits (coefficient-word loop.invariant more) w.if-x-ne0.false))
    ]

pub returns : goal.returns
unfolding apply
returns c =
    let args = c.args in let pre = c.requires.held in let inv = c.loop-j.invariant in
    inv.so_far
    ∙ rw (NatL.le_antisymm inv.below c.loop-j-test.false ∙ sym pre.2)
    (sum-ext args.q.width (λ t. slot args.w.now (c.line-line.result + t) *ℤ slot args.chain.now t)
    (λ t. entry (lines_of args.q args.w.now) args.i t *ℤ slot args.chain.now t)
    (λ t l. ap (λ (x : ℤ). x *ℤ slot args.chain.now t)
    (ap (λ (p : ℕ). slot args.w.now (p + t)) c.line-line.ensures ∙ sym (entry-lines args.q args.w.now args.i t pre.1 l))))
