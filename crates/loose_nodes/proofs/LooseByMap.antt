-- Loose nodes by a map of the vertices of the edges.
--     loose-map                     where there is an edge, a vertex is loose exactly when the map does not list it
--     loose_none, loose_node-none    where there is no edge, no vertex is loose
--     loose_node-is                  check 18 by the count of the header
use mathlib.Core.Path.{◌≡◌, refl, sym, ap, ◌∙◌}
use mathlib.Core.Bool.{Bool, true, false, not, ◌&&◌}
use mathlib.Core.List.{List}
use Prim.Native.Nat.{ℕ, ◌+◌, ◌*◌, ◌<◌}
use native.Mathlib.Omega.{arith}
use lib.Dec.{ltb}
use lib.ListN.{get_or}
use borrow.Author.Tests.{lt-ltb}
use Rattle.complexes.specs.Complex.{count, cell}
use Rattle.sheet_format.specs.Check.{field_at, count_field, start_at, sections_of, some, on_edge, loose, loose_node}
use Rattle.sheet_format.specs.CheckLaws.{some-false}
use Rattle.sheet_format.specs.SheetLaws.{count-sections_of}
use Rattle.node_maps.specs.Map.{in_map}
use Rattle.loose_nodes.specs.Loose.{MapsEdges}
use Rattle.loose_nodes.proofs.Vertex.{vertex-is}

module _ (b : List ℕ) where
  pub loose-map : {map : List ℕ} → MapsEdges (sections_of b) map → 0 < count_field b 1 → (i : ℕ) → i < count_field b 0
      → not (in_map map (field_at b (start_at b 0 + 2 * i))) ≡ loose (sections_of b) i
  loose-map m h i l =
      ap not (m.lists (field_at b (start_at b 0 + 2 * i)))
      ∙ ap (λ (v : ℕ). not (some (count (sections_of b) 1) (on_edge (sections_of b) v))) node
      ∙ sym (ap (λ (t : Bool). t && not (some (count (sections_of b) 1) (on_edge (sections_of b) (get_or (cell (sections_of b) 0 i) 0 0)))) edged)
    where
      node : field_at b (start_at b 0 + 2 * i) ≡ get_or (cell (sections_of b) 0 i) 0 0
      node = ap (λ (n : ℕ). field_at b (start_at b 0 + 2 * n)) (omega arith) ∙ sym (vertex-is b 0 i 0 (omega arith) l (omega arith))

      edged : ltb 0 (count (sections_of b) 1) ≡ true
      edged = lt-ltb 0 (count (sections_of b) 1) (omega (arith, count-sections_of b 1))

  pub loose_none : count_field b 1 ≡ 0 → (i : ℕ) → loose (sections_of b) i ≡ false
  loose_none e i = rw (count-sections_of b 1 ∙ e) refl

  pub loose_node-none : count_field b 1 ≡ 0 → loose_node (sections_of b) ≡ false
  loose_node-none e = (some-false (count (sections_of b) 0) (loose (sections_of b))).1 (λ i l. loose_none e i)

  pub loose_node-is : some (count_field b 0) (loose (sections_of b)) ≡ loose_node (sections_of b)
  loose_node-is = ap (λ (n : ℕ). some n (loose (sections_of b))) (sym (count-sections_of b 0))
