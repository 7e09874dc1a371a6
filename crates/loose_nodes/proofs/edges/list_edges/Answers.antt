use native.Mathlib.Omega.{arith}
use Rattle.loose_nodes.proofs.EdgeMap.{fields-none, fields-more, fields-edges}
use Rattle.loose_nodes.proofs.edges.list_edges.Goals as goal

pub loop-j-init : goal.loop-j-init
loop-j-init c = fields-none c.args.s.now c.start-at.result c.requires

pub loop-j-preserved : goal.loop-j-preserved
loop-j-preserved c = fields-more c.loop-j.invariant (rw c.field.ensures.is at c.list.ensures)

pub returns : goal.returns
returns c = fields-edges c.loop-j.invariant c.start-at.ensures.is (omega arith)
