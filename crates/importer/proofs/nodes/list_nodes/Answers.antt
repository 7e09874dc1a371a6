use Rattle.mesh_format.specs.Parse.{node_line}
use Rattle.mesh_format.proofs.ReadLaws.{node_lines-repeats}
use Rattle.mesh_format.proofs.WalkLaws.{walk-stop}
use Rattle.mesh_words.proofs.Steps.{from, failed-from}
use Rattle.mesh_words.proofs.Told.{read-none, read-moved}
use Rattle.importer.proofs.Listing.{listing_start, listing-more, listing-end, lists-none, node-below}
use Rattle.importer.proofs.nodes.list_nodes.Goals as goal

pub loop-init : goal.loop-init
loop-init c = listing_start c.args.r c.args.n c.args.map.now.bytes

pub returns-in_err-node : goal.returns-in_err-node
returns-in_err-node c =
    let inv = c.loop.invariant in
    rw c.from_residual.ensures
    (lists-none c.args.r
    (walk-stop node_lines-repeats inv.walk c.loop-test.true (failed-from node_line c.args.r inv.same (read-none _ c.in_err-node.ensures))))

pub list-requires : goal.list-requires
list-requires c = node-below c.loop.here.text.now c.loop.here.at c.in_ok-node.node c.in_ok-node.next.at (read-moved _ c.in_ok-node.ensures).is

pub loop-preserved : goal.loop-preserved
loop-preserved c =
    listing-more c.loop.invariant c.loop-test.true (from node_line c.args.r c.loop.invariant.same (read-moved _ c.in_ok-node.ensures)) c.list.ensures

pub returns : goal.returns
returns c = listing-end c.loop.invariant c.loop-test.false
