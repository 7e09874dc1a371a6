use mathlib.Core.Path.{refl, ◌∙◌}
use native.Mathlib.Omega.{arith}
use lib.ListN.{get_or}
use lib.IntN.{ℤ, pos}
use mir.Syntax.{w64}
use mir.Facts.{to_z-of_z}
use Rattle.text.specs.Room.{number_room}
use Rattle.text.specs.PutLaws.{within-left}
use Rattle.text.proofs.Fields.{fields-none, fields-room, fields-more, fields-all}
use Rattle.text.proofs.writer.Writer.put_fields.Goals as goal

pub loop-number-init : goal.loop-number-init
loop-number-init c = (refl, fields-none)

pub put_decimal-requires : goal.put_decimal-requires
put_decimal-requires c =
    within-left number_room (fields-room c.loop-number.invariant.1 c.loop-number-test.true c.requires) c.put.ensures.puts

pub loop-number-preserved : goal.loop-number-preserved
loop-number-preserved c =
    let number : ℤ = get_or c.args.numbers.now c.loop-number.number-index (pos 0) in (
      c.put_decimal.ensures.same_reference ∙ c.put.ensures.same_reference ∙ c.loop-number.invariant.0,
      fields-more c.loop-number.invariant.1 c.loop-number-test.true c.requires c.put.ensures.puts
          (rw (to_z-of_z {w = w64} {z = number} (record { sfits = omega arith })) at c.put_decimal.ensures.puts),
    )

pub returns : goal.returns
returns c = record { same_reference = c.loop-number.invariant.0; puts = fields-all c.loop-number.invariant.1 (omega arith) }
