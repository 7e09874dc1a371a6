-- `put_decimal` meets its contract: the digits of the absolute value stand behind the sign.
use mathlib.Core.Path.{ap, ◌∙◌}
use Prim.Native.Nat.{suc}
use native.Mathlib.Omega.{arith}
use lib.ListN.{length}
use Rattle.program_text.specs.Text.{digits}
use Rattle.program_text.proofs.DigitsLaws.{length-decimal}
use Rattle.text.specs.PutLaws.{puts-append, within-left}
use Rattle.text.proofs.Size.{negative, positive}
use Rattle.text.proofs.writer.Writer.put_decimal.Goals as goal
use Rattle.text.proofs.writer.Writer.put_decimal.Goals.{then-x-lt0, else-x-lt0}

pub put_digits-requires : goal.put_digits-requires
put_digits-requires c =
    let x = c.args.x in
    let n = c.unsigned_abs.result in
    let short = length-decimal x c.ranges.x.sfits in
    elim c.if-x-lt0.branch [
      | then-x-lt0 w ↦
          let text = negative x c.ranges.x w.if-x-lt0.true c.unsigned_abs.ensures.value in
          rw w.self-is (within-left (length (digits (suc n) n)) (omega (arith, c.requires, short, ap length text)) w.put.ensures.puts)
      | else-x-lt0 w ↦
          let text = positive x c.ranges.x w.if-x-lt0.false c.unsigned_abs.ensures.value in
          rw w.self-is (omega (arith, c.requires, short, ap length text))
    ]

pub returns : goal.returns
returns c =
    let x = c.args.x in
    let short = length-decimal x c.ranges.x.sfits in
    let n = c.unsigned_abs.ensures.value in
    elim c.if-x-lt0.branch [
      | then-x-lt0 w ↦
          let text = negative x c.ranges.x w.if-x-lt0.true n in
          let digits = rw w.self-is at c.put_digits.ensures in
          record {
            same_reference = digits.same_reference ∙ w.put.ensures.same_reference;
            puts = record { puts = rw text (puts-append (omega (arith, c.requires)) w.put.ensures.puts.puts digits.puts.puts); fits = short };
          }
      | else-x-lt0 w ↦
          let text = positive x c.ranges.x w.if-x-lt0.false n in
          let digits = rw w.self-is at c.put_digits.ensures in
          record { same_reference = digits.same_reference; puts = record { puts = rw text digits.puts.puts; fits = short } }
    ]
