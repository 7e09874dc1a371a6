use mathlib.Core.Path.{refl, ◌∙◌}
use native.Mathlib.Omega.{arith}
use Rattle.printer.proofs.Dimensions.{printed-none, printed-room, printed-more, printed-all}
use Rattle.printer.proofs.put_dimensions.Goals as goal

pub loop-p-init : goal.loop-p-init
loop-p-init c = (refl, printed-none c.args.s.now c.args.out.now.out.now c.args.out.now.at)

pub put_dimension-requires : goal.put_dimension-requires
put_dimension-requires c = (c.requires.0, omega arith, printed-room c.loop-p.invariant.1 c.requires.1 (omega arith))

pub loop-p-preserved : goal.loop-p-preserved
loop-p-preserved c = (
  c.put_dimension.ensures.same_reference ∙ c.loop-p.invariant.0,
  printed-more c.loop-p.invariant.1 c.requires.1 (omega arith) c.put_dimension.ensures.puts,
)

pub returns : goal.returns
returns c = record { same_reference = c.loop-p.invariant.0; puts = printed-all c.loop-p.invariant.1 (omega arith) }
