use Prim.Native.Nat.{◌+◌, ◌*◌, ◌≤◌}
use mathlib.Core.Path.{refl, ◌∙◌}
use native.Mathlib.Omega.{arith}
use lib.ListN.{length}
use Rattle.limits.specs.Limits.{host_limit}
use Rattle.text.specs.Room.{generator_room}
use Rattle.text.specs.PutLaws.{within-left}
use Rattle.text.proofs.Generators.{generators-none, generators-inside, coefficients-many, generators-room, generators-more, report-put}
use Rattle.text.proofs.writer.Writer.put_report.Goals as goal
use Rattle.text.proofs.writer.Writer.put_report.Goals.{In-loop-i}

-- in a turn, the coefficients stand within the report, and there is room for the line
inside : (c : In-loop-i) → 2 + c.args.torsion + c.loop-i.i * c.args.cells + c.args.cells ≤ length c.args.report.now
inside c =
    let a = c.args in generators-inside a.cells a.torsion a.generators c.loop-i.i a.report.now (omega arith) c.requires.cells_in_bounds.0

left : (c : In-loop-i) → c.put_heading.new.self.at + generator_room * host_limit ≤ length c.put_heading.new.self.out.now
left c = within-left (generator_room * host_limit) (omega (arith, c.requires.cells_in_bounds.1)) c.put_heading.ensures.puts

room : (c : In-loop-i) → c.loop-i.self.at + generator_room ≤ length c.loop-i.self.out.now
room c = generators-room c.loop-i.invariant.1 (omega arith) (left c)

pub loop-i-init : goal.loop-i-init
loop-i-init c = (refl, generators-none)

pub put_line-requires : goal.put_line-requires
put_line-requires c =
    let turn = (goal.at.put_line-requires c).In-loop-i in
    let a = c.args in
    rw (coefficients-many a.cells a.torsion c.loop-i.i a.report.now (inside turn)) (omega (arith, room turn))

pub loop-i-preserved : goal.loop-i-preserved
loop-i-preserved c =
    let turn = (goal.at.loop-i-preserved c).In-loop-i in (
      c.put_line.ensures.same_reference ∙ c.loop-i.invariant.0,
      generators-more c.loop-i.invariant.1 (omega arith) (left turn) (omega arith) (inside turn) c.put_line.ensures.puts,
    )

pub returns : goal.returns
returns c = record {
  same_reference = c.loop-i.invariant.0 ∙ c.put_heading.ensures.same_reference;
  puts = report-put c.args.p c.args.generators (omega arith) c.put_heading.ensures.puts c.loop-i.invariant.1 (omega arith) (omega arith);
}
