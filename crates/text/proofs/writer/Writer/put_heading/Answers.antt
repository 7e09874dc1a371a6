-- `put_heading` meets its contract: the parts of the line stand one behind the other (`heading-text`).
use mathlib.Core.List.{List}
use mathlib.Core.Path.{◌∙◌, subst}
use Prim.Native.Nat.{ℕ, ◌+◌, ◌*◌}
use native.Mathlib.Omega.{arith}
use lib.ListN.{length}
use lib.IntN.{pos}
use mir.Syntax.{w64}
use mir.Facts.{to_z_pos}
use Rattle.text.specs.Put.{PutsWithin}
use Rattle.text.specs.Room.{field_room, heading_room}
use Rattle.text.specs.PutLaws.{within-append, within_more, within-left}
use Rattle.text.proofs.Heading.{heading-text}
use Rattle.text.proofs.writer.Writer.put_heading.Goals as goal

pub put_fields-requires : goal.put_fields-requires
put_fields-requires c = within-left field_room (omega arith) c.put.ensures.puts

pub put_fields-requires-2 : goal.put_fields-requires-2
put_fields-requires-2 c =
    let fields = field_room * length c.args.numbers.now in
    within-left fields (within-left (field_room + fields) (omega arith) c.put.ensures.puts) c.put_fields.ensures.puts

pub put-requires-2 : goal.put-requires-2
put-requires-2 c =
    let fields = field_room * length c.args.numbers.now in
    within-left 1 (within-left (fields + 1) (within-left (field_room + (fields + 1)) (omega arith) c.put.ensures.puts) c.put_fields.ensures.puts)
    c.put_fields-2.ensures.puts

pub returns : goal.returns
returns c =
    let a = c.args in
    let fields = field_room * length a.numbers.now in
    let letter = within-left (field_room + (fields + 1)) (omega arith) c.put.ensures.puts in
    let dimension = within-left (fields + 1) letter c.put_fields.ensures.puts in
    record {
      same_reference =
          c.put-2.ensures.same_reference ∙ c.put_fields-2.ensures.same_reference ∙ c.put_fields.ensures.same_reference ∙ c.put.ensures.same_reference;
      puts =
          subst (λ (text : List ℕ). PutsWithin heading_room text a.self.now.at a.self.now.out.now c.put-2.new.self.at c.put-2.new.self.out.now)
          (heading-text (pos a.p) a.numbers.now)
          (within_more (omega arith)
          (within-append (omega arith) c.put.ensures.puts
          (within-append (omega (arith, letter)) (rw (to_z_pos w64 {n = a.p} (omega arith)) at c.put_fields.ensures.puts)
          (within-append (omega (arith, dimension)) c.put_fields-2.ensures.puts c.put-2.ensures.puts))));
    }
