-- `list_nodes` meets its contract. The loop's invariant: some lines are read, and their nodes listed.
use Rattle.importer.proofs.Listing.{Listing}
use Rattle.importer.proofs.nodes.list_nodes.Given as goal

abbrev pub invariant-loop : goal.invariant-loop
invariant-loop l = Listing l.r l.n l.initial.map.bytes l.map.bytes l.counter l.here
