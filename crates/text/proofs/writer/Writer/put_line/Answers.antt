-- `put_line` meets its contract: the letter, the fields and the line feed stand one behind the other.
use Prim.Native.Nat.{◌+◌, ◌*◌}
use mathlib.Core.Path.{◌∙◌}
use native.Mathlib.Omega.{arith}
use lib.ListN.{length}
use Rattle.text.specs.Room.{field_room}
use Rattle.text.specs.PutLaws.{within-append, within_more, within-left}
use Rattle.text.proofs.writer.Writer.put_line.Goals as goal

pub put_fields-requires : goal.put_fields-requires
put_fields-requires c = within-left (field_room * length c.args.numbers.now) (omega arith) c.put.ensures.puts

pub put-requires-2 : goal.put-requires-2
put-requires-2 c =
    within-left 1 (within-left (field_room * length c.args.numbers.now + 1) (omega arith) c.put.ensures.puts) c.put_fields.ensures.puts

pub returns : goal.returns
returns c =
    let left = within-left (field_room * length c.args.numbers.now + 1) (omega arith) c.put.ensures.puts in
    record {
      same_reference = c.put-2.ensures.same_reference ∙ c.put_fields.ensures.same_reference ∙ c.put.ensures.same_reference;
      puts = within_more (omega arith)
          (within-append (omega arith) c.put.ensures.puts (within-append (omega (arith, left)) c.put_fields.ensures.puts c.put-2.ensures.puts));
    }
