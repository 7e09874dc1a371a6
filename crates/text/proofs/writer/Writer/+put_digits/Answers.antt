use mathlib.Core.Path.{◌≡◌, ap, ◌∙◌}
use Prim.Native.Nat.{◌%◌}
use native.Mathlib.Omega.{arith}
use lib.ListN.{length}
use Rattle.program_text.proofs.DigitsLaws.{digits-small, digits-large, length-digits-large}
use Rattle.text.specs.PutLaws.{within-append, within-left}
use Rattle.text.proofs.writer.Writer.+put_digits.Goals as goal
use Rattle.text.proofs.writer.Writer.+put_digits.Goals.{then-n-ge10, else-n-ge10}

pub put_digits-requires : goal.put_digits-requires
put_digits-requires t c = (omega arith, omega (arith, length-digits-large c.args.n (omega arith)))

pub put-requires : goal.put-requires
put-requires t c =
    let n = c.args.n in
    elim c.if-n-ge10.branch [
      | then-n-ge10 w ↦ rw w.self-is (within-left 1 (omega (arith, c.requires, length-digits-large n (omega arith))) w.put_digits.ensures.puts)
      | else-n-ge10 w ↦ rw w.self-is (omega (arith, c.requires, ap length (digits-small n n (omega arith))))
    ]

pub returns : goal.returns
returns t c =
    let n = c.args.n in
    elim c.if-n-ge10.branch [
      | then-n-ge10 w ↦
          let last = rw w.self-is at c.put.ensures in
          record {
            same_reference = last.same_reference ∙ w.put_digits.ensures.same_reference;
            puts = rw (length-digits-large n (omega arith), digits-large n (omega arith)) (within-append (omega (arith, c.requires)) w.put_digits.ensures.puts last.puts);
          }
      | else-n-ge10 w ↦
          let digit : n % 10 ≡ n = omega arith in
          let last = rw (w.self-is, digit) at c.put.ensures in
          record { same_reference = last.same_reference; puts = rw (digits-small n n (omega arith)) last.puts }
    ]
