use mathlib.Core.Path.{◌≡◌, refl, ap₂, ◌∙◌}
use Prim.Native.Nat.{ℕ}
use native.Mathlib.Omega.{arith}
use Rattle.std.specs.Prelude.{Some}
use Rattle.mesh_format.specs.Parse.{malformed, gap, node, line_end}
use Rattle.mesh_words.specs.Steps.{skip}
use Rattle.mesh_words.proofs.Steps.{fails, goes, unskip, skip-missing, from, failed-from}
use Rattle.mesh_words.proofs.Told.{skipped-none, skipped-moved, read-none, read-moved}
use Rattle.mesh_lines.specs.Nodes.{element_nodes}
use Rattle.mesh_lines.proofs.NodeNumbers.{Turn, node-small, node-ends, inside, no-nodes, no_end, all_read, no_node, packed-small, packed-in, packed-past}
use Rattle.mesh_lines.proofs.Told.{element-fails, element-goes}
use Rattle.mesh_lines.proofs.nodes.element_nodes.Goals as goal
use Rattle.mesh_lines.proofs.nodes.element_nodes.Goals.{In_ok-v, In_default, then-many-lt-PACKED_NODES, else-many-lt-PACKED_NODES}

pub loop-node-init : goal.loop-node-init
loop-node-init c = (no-nodes _ _, refl)

pub returns-in_err-v : goal.returns-in_err-v
unfolding element_nodes
returns-in_err-v c =
    let inv = c.loop-node.invariant in
    let g = from (λ s at. skip (gap s at)) c.args.r inv.1 (skipped-moved _ c.in-Some.ensures) in
    c.from_residual.ensures
    ∙ element-fails _ (fails _ (no_node inv.0 (unskip _ g.is).is (failed-from node c.args.r g.same (read-none _ c.in_err-v.ensures))))

-- a turn that reads a node number
module _ (c : In_ok-v) where
  turn : Turn c.args.r.text.now c.loop-node.here.at c.in_ok-v.v c.in_ok-v.next.at × (c.in_ok-v.next.text ≡ c.args.r.text)
  turn =
      let g = from (λ s at. skip (gap s at)) c.args.r c.loop-node.invariant.1 (skipped-moved _ c.in-Some.ensures) in
      let n = from node c.args.r g.same (read-moved _ c.in_ok-v.ensures) in let k = unskip _ g.is in
      (record { spaces = k.read; start = c.in-Some.node.at; parts = k.is; read = n.is }, n.same)

pub overflow_add-packed : goal.overflow_add-packed
overflow_add-packed c =
    omega (arith, packed-small c.loop-node.invariant.0 c.if-many-lt-PACKED_NODES.true, node-small (turn (goal.at.overflow_add-packed c).In_ok-v).0)

pub overflow_add-many : goal.overflow_add-many
overflow_add-many c = omega (arith, c.loop-node.invariant.0.passed, inside (turn (goal.at.overflow_add-many c).In_ok-v).0)

pub loop-node-smaller : goal.loop-node-smaller
loop-node-smaller c =
    let t = (turn (goal.at.loop-node-smaller c).In_ok-v).0 in let ends = node-ends t in omega (arith, inside t, ends.past)

pub loop-node-preserved : goal.loop-node-preserved
loop-node-preserved c =
    let inv = c.loop-node.invariant.0 in let t = turn (goal.at.loop-node-preserved c).In_ok-v in (
      elim c.if-many-lt-PACKED_NODES.branch [
        | then-many-lt-PACKED_NODES w ↦ packed-in inv t.0 w.if-many-lt-PACKED_NODES.true w.packed-is
        | else-many-lt-PACKED_NODES w ↦ packed-past inv t.0 w.if-many-lt-PACKED_NODES.false w.packed-is
      ],
      t.1,
    )

-- no spaces stand behind the last
no-more : (c : In_default) → gap c.args.r.text.now c.loop-node.here.at ≡ malformed
no-more c =
    skip-missing _ (failed-from (λ s at. skip (gap s at)) c.args.r c.loop-node.invariant.1 (skipped-none _ c.in_default.ensures))

pub returns-in_err-line_end : goal.returns-in_err-line_end
unfolding element_nodes
returns-in_err-line_end c =
    let inv = c.loop-node.invariant in
    c.from_residual-in_err-line_end.ensures
    ∙ element-fails _ (fails _ (no_end inv.0 (no-more (goal.at.returns-in_err-line_end c).In_default)
    (failed-from line_end c.args.r inv.1 (skipped-none _ c.in_err-line_end.ensures))))

pub returns : goal.returns
unfolding element_nodes
returns c =
    let inv = c.loop-node.invariant in let end = from line_end c.args.r inv.1 (skipped-moved _ c.in_ok-line_end.ensures) in
    let kind = c.args.kind in let next = c.in_ok-line_end.field-0 in
    ap₂ (λ (many packed : ℕ). Some (record { kind = kind; many = many; packed = packed }, next)) inv.0.count inv.0.packs
    ∙ element-goes _ (record { is = goes _ (all_read inv.0 (no-more (goal.at.returns c).In_default) end.is) refl; same = end.same })
