use mathlib.Core.List.{List}
use Prim.Native.Nat.{ℕ, ◌-◌, ◌*◌, ◌/◌, ◌≤◌}
use native.Mathlib.Omega.{arith}
use lib.IntN.{ℤ}
use Rattle.matrix_lines.specs.Slice.{block}
use Rattle.matrix_lines.proofs.Blocks.{Partly, part-done, part-beyond, part-last, part-refused, factor-read, partly-at}
use Rattle.matrix_lines.proofs.line.subtract.Goals as goal

pub returns-in_err-largest : goal.returns-in_err-largest
returns-in_err-largest c =
    let args = c.args in
    factor-read args.w.now args.target args.source args.width args.q c.requires.q_bound args.before c.from_residual.result c.subtract_block.new.w
    (part-refused _ _ _ _ _ _ _ c.from_residual.result c.from_residual.ensures.0 (part-beyond c.loop-b.invariant block (omega arith) c.in_err-largest.ensures))

pub loop-b-preserved : goal.loop-b-preserved
loop-b-preserved c = partly-at (part-done c.loop-b.invariant block (omega arith) c.in_ok-largest.ensures) (omega arith)

-- after the last block
whole :
    {w₀ : List ℤ} {target source width : ℕ} {q : ℤ} {before b x : ℕ} {w : List ℤ} → Partly w₀ target source width q before (b * block) x w
    → b ≤ width / block → width / block ≤ b → Partly w₀ target source width q before (width / block * block) x w
whole {width = width} {b = b} partly l h = partly-at partly (omega arith)

pub returns : goal.returns
returns c =
    let partly = whole c.loop-b.invariant c.loop-b.auto.b-end c.loop-b-test.false in let args = c.args in let called = c.subtract_places in
    factor-read args.w.now args.target args.source args.width args.q c.requires.q_bound args.before called.result called.new.w
    (part-last partly (args.width - args.width / block * block) (omega arith) (omega arith) called.result called.new.w called.ensures)
