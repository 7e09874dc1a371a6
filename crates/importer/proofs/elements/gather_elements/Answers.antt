use mathlib.Core.Path.{refl, subst, ◌∙◌}
use mathlib.Core.List.{[], ◌∷◌, ◌++◌}
use Prim.Native.Nat.{ℕ}
use Rattle.lists.specs.Same.{every}
use Rattle.mesh_format.specs.Parse.{element_line}
use Rattle.mesh_format.proofs.ReadLaws.{element_lines-repeats}
use Rattle.mesh_format.proofs.WalkLaws.{walk_start, walk-stop, walk_more, walk_end}
use Rattle.imports.specs.Import.{none_faulty}
use Rattle.imports.proofs.ElementLaws.{element-numbered}
use Rattle.mesh_words.proofs.Steps.{from, failed-from}
use Rattle.mesh_lines.proofs.Told.{element-none, element-read}
use Rattle.node_maps.specs.Map.{in_map}
use Rattle.importer.specs.Gather.{AddsElement}
use Rattle.importer.proofs.elements.gather_elements.Goals as goal

pub loop-init : goal.loop-init
unfolding none_faulty every
loop-init c = record {
  read = [];
  walk = walk_start element_lines-repeats c.args.n c.args.r.text.now c.args.r.at;
  same = refl;
  gathers = (refl, c.requires);
  limit-kept = refl;
}

pub returns-in_err-element : goal.returns-in_err-element
returns-in_err-element c =
    let inv = c.loop.invariant in
    rw c.from_residual.ensures (record {
      limit = inv.limit-kept;
      tells = walk-stop element_lines-repeats inv.walk c.loop-test.true (failed-from element_line c.args.r inv.same (element-none _ c.in_err-element.ensures));
    })

pub loop-preserved : goal.loop-preserved
loop-preserved c =
    let inv = c.loop.invariant in
    let line = element-read _ c.in_ok-element.ensures in
    let moved = from element_line c.args.r inv.same line.moves in
    record {
      read = inv.read ++ (line.element ∷ []);
      walk = walk_more element_lines-repeats inv.walk c.loop-test.true moved.is;
      same = moved.same;
      gathers =
          subst
          (λ (k : ℕ).
          AddsElement k (in_map c.args.map.now.bytes) c.in_ok-element.element c.loop.outcome c.loop.cells c.add_element-outcome.result c.add_element-outcome.new.cells)
          inv.limit-kept c.add_element-outcome.ensures.adds inv.read line.element inv.gathers line.tells
          (element-numbered c.loop.here.text.now c.loop.here.at line.moves.is);
      limit-kept = c.add_element-outcome.ensures.limit ∙ inv.limit-kept;
    }

pub returns : goal.returns
returns c =
    let inv = c.loop.invariant in
    record {
      limit = inv.limit-kept;
      tells = record { read = inv.read; is = walk_end element_lines-repeats inv.walk c.loop-test.false; same = inv.same; gathers = inv.gathers };
    }
