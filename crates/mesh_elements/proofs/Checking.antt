-- What each test of an element tells of it.
--     refused-kind, refused-number, refused-unlisted, refused-twice, right      what is answered at each way out of the checks
use mathlib.Core.Path.{◌≡◌, refl, sym, ap, ◌∙◌}
use mathlib.Core.Logic.{◌≢◌}
use mathlib.Core.Bool.{Bool, true, false, not}
use mathlib.Core.List.{List}
use Prim.Native.Nat.{ℕ, ◌≤◌}
use native.Mathlib.Omega.{arith}
use lib.ListN.{length}
use lib.Seq.{take_all}
use borrow.Author.Tests.{ne_eqb}
use Rattle.complexes.specs.Packed.{word_vertices, packed, Numbered}
use Rattle.closures.specs.Closure.{cell_with}
use Rattle.closures.proofs.CellWithLaws.{repeats-length, cell_with-whole}
use Rattle.cells.specs.Word.{Packs}
use Rattle.cell_sets.specs.Vertices.{Sorts}
use Rattle.mesh_format.specs.Mesh as mesh
use Rattle.imports.specs.Import.{nodes_of_kind}
use Rattle.refusal.specs.declared.Refusal.{Refusal}
use Rattle.refusal.specs.declared.Refusal.TheVariants.{ElementFaulty}
use Rattle.mesh_lines.specs.declared.answer.Element.{Element}
use Rattle.mesh_lines.specs.Tells.{TellsElement}
use Rattle.node_maps.specs.Map.{in_map}
use Rattle.mesh_elements.specs.Kind.{IsSimplex, IsKind}
use Rattle.mesh_elements.specs.Listed.{AllListed}
use Rattle.mesh_elements.specs.Element.{Checks}
use Rattle.mesh_elements.specs.declared.kind.Simplex.{Simplex}
use Rattle.std.specs.Prelude.{Ok, Err}
use Rattle.mesh_elements.proofs.Faults.{fault-kind, fault-number, fault-unlisted, fault-twice, no-fault}

module _ (is_listed : ℕ → Bool) (x : Element) where
  pub refused-kind : (r : Refusal) → IsKind x.kind (Err r) → Checks is_listed x (Err r)
  refused-kind r h = record {
    dimension-is = tt;
    checks = λ e t n. (fault-kind is_listed e (ap nodes_of_kind (sym t.kind-is) ∙ h.0), h.1);
  }

  pub refused-number : (s : Simplex) → IsSimplex x.kind s → x.many ≢ s.vertices → Checks is_listed x (Err ElementFaulty)
  refused-number s h d = record {
    dimension-is = tt;
    checks = λ e t n.
        (fault-number is_listed e (λ same. d (t.many_is ∙ same ∙ ap nodes_of_kind (sym t.kind-is) ∙ h.many)), refl);
  }

-- an element with as many nodes as its kind
module _ (map : List ℕ) (x : Element) (s : Simplex) (h : IsSimplex x.kind s) (same : x.many ≡ s.vertices) where
  pub vertices-few : s.vertices ≤ word_vertices
  vertices-few = omega (arith, h.vertices-are, h.dimension-is)

  module _ (e : mesh.Element) (t : TellsElement e x) (n : Numbered e.nodes) where
    sized : length e.nodes ≡ s.vertices
    sized = sym t.many_is ∙ same

    words : Packs s.vertices e.nodes x.packed
    words = record {
      sized = sized;
      numbered = n;
      is = t.packed-is ∙ ap packed (take_all word_vertices e.nodes (omega (arith, sized, vertices-few)));
    }

    kind-many : nodes_of_kind e.kind ≡ s.vertices
    kind-many = ap nodes_of_kind (sym t.kind-is) ∙ h.many

  pub refused-unlisted : AllListed map x.packed s.vertices false → Checks (in_map map) x (Err ElementFaulty)
  refused-unlisted m = record {
    dimension-is = tt;
    checks = λ e t n.
        let w : Packs s.vertices e.nodes x.packed = words e t n in
        (fault-unlisted (in_map map) e (sym (m e.nodes w.sized n (sym w.is))), refl);
  }

  module _ (r many : ℕ) (sorts : Sorts s.vertices x.packed r many) where
    pub refused-twice : many ≢ s.vertices → Checks (in_map map) x (Err ElementFaulty)
    refused-twice d = record {
      dimension-is = tt;
      checks = λ e t n.
          let w : Packs s.vertices e.nodes x.packed = words e t n in
          let c : Packs many (cell_with e.nodes) r = sorts e.nodes w in (
            fault-twice (in_map map) e
                (repeats-length e.nodes
                ∙ ap not (ne_eqb (length (cell_with e.nodes)) (length e.nodes) (λ q. d (sym c.sized ∙ q ∙ w.sized)))),
            refl,
          );
    }

    pub right : AllListed map x.packed s.vertices true → many ≡ s.vertices → Checks (in_map map) x (Ok (s.dimension, r))
    right m q = record {
      dimension-is = h.dimension-is;
      checks = λ e t n.
          let w : Packs s.vertices e.nodes x.packed = words e t n in
          let c : Packs many (cell_with e.nodes) r = sorts e.nodes w in (
            no-fault (in_map map) e (λ z. omega (arith, kind-many e t n, z, h.vertices-are)) (w.sized ∙ sym (kind-many e t n))
                (sym (m e.nodes w.sized n (sym w.is)))
                ((cell_with-whole e.nodes).1 (c.sized ∙ q ∙ sym w.sized)),
            record { sized = c.sized ∙ q ∙ h.vertices-are; numbered = c.numbered; is = c.is },
          );
    }
