-- `is_loose` meets its contract: the map lists exactly the vertices of the edges.
use mathlib.Core.Path.{ap, ◌∙◌}
use mathlib.Core.Bool.{not}
use Prim.Native.Nat.{ℕ, ◌+◌, ◌*◌, ◌<◌}
use native.Mathlib.Omega.{arith}
use Rattle.sheet_format.specs.Check.{field_at, count_field}
use Rattle.sheet_format.specs.SheetLaws.{count_field-lt}
use Rattle.node_maps.specs.Map.{in_map}
use Rattle.loose_nodes.proofs.LooseByMap.{loose-map}
use Rattle.loose_nodes.proofs.edges.is_loose.Goals as goal
use Rattle.loose_nodes.proofs.edges.is_loose.Goals.{After-start}

-- there are fewer than 65536 vertices
few : (c : After-start) → count_field c.args.s.now 0 < 65536
few c = count_field-lt c.args.s.now (record { small = λ i. (c.type_inv.s i).fits }) 0

pub overflow_mul-i : goal.overflow_mul-i
overflow_mul-i c = omega (arith, few c)

pub overflow_add-start : goal.overflow_add-start
overflow_add-start c = omega (arith, few c)

pub returns : goal.returns
returns c =
    let a = c.args in
    let b = a.s.now in
    let field = c.field.ensures.is ∙ ap (λ (at : ℕ). field_at b (at + 2 * a.i)) c.start.ensures.is in
    ap not (c.is_listed.ensures ∙ ap (in_map a.map.now.bytes) field)
    ∙ loose-map b c.requires.2 c.requires.0 a.i c.requires.1
