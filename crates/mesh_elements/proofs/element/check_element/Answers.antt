-- `check_element` meets its contract: each test tells one of the four faults, and where none is told the sorted nodes are the cell.
use Rattle.std.proofs.lemmas.Result.{err_from_is_err_and}
use Rattle.node_maps.specs.Map.{in_map}
use Rattle.mesh_elements.proofs.Checking.{refused-kind, refused-number, refused-unlisted, refused-twice, right}
use Rattle.mesh_elements.proofs.element.check_element.Goals as goal
use Rattle.mesh_elements.proofs.element.check_element.Goals.{then-element-n-via-then-element-n, then-element-n-via-else-element-n+then-not-all_listed}

pub returns-in_err-simplex : goal.returns-in_err-simplex
returns-in_err-simplex c =
    let p = err_from_is_err_and c.from_residual.result c.from_residual.ensures.1 in
    rw (p.1, p.2) (refused-kind (in_map c.args.map.now) c.args.element c.in_err-simplex.field-0.0 c.in_err-simplex.ensures)

pub returns-then-element-n : goal.returns-then-element-n
returns-then-element-n c =
    let map = c.args.map.now in
    let x = c.args.element in
    let s = c.in_ok-simplex.simplex in
    elim c.then-element-n.branch [
      | then-element-n-via-then-element-n w ↦ refused-number (in_map map) x s c.in_ok-simplex.ensures w.if-element-n.true
      | then-element-n-via-else-element-n+then-not-all_listed w ↦
          refused-unlisted map x s c.in_ok-simplex.ensures w.if-element-n.false w.if-not-all_listed.ensures
    ]

pub returns-then-sorted-n : goal.returns-then-sorted-n
returns-then-sorted-n c =
    let sorted = c.sort_vertices-sorted in
    refused-twice c.args.map.now c.args.element c.in_ok-simplex.simplex c.in_ok-simplex.ensures c.if-element-n.false sorted.result.word
    sorted.result.many sorted.ensures c.if-sorted-n.true

pub returns : goal.returns
returns c =
    let sorted = c.sort_vertices-sorted in
    right c.args.map.now c.args.element c.in_ok-simplex.simplex c.in_ok-simplex.ensures c.if-element-n.false sorted.result.word
    sorted.result.many sorted.ensures c.if-not-all_listed.ensures c.if-sorted-n.false
