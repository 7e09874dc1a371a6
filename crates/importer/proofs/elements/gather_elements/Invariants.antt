-- `gather_elements` meets its contract. The loop's invariant: some lines are read, and their cells gathered.
use Rattle.node_maps.specs.Map.{in_map}
use Rattle.importer.proofs.Gathering.{Gathering}
use Rattle.importer.proofs.elements.gather_elements.Given as goal

abbrev pub invariant-loop : goal.invariant-loop
invariant-loop l = Gathering l.initial.cells.limit (in_map l.map.bytes) l.r l.n l.counter l.here l.outcome l.cells
