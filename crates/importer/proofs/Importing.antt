-- What is answered for a text, from what its parts tell.
--     not-of-the-form      a part is malformed, or something stands behind the last line
--     tells-mesh           all parts are read, up to the end of the text
--     right-map            whether elements are right, by the map of the nodes listed
--     told-refused, told-written     the elements of a mesh are refused, or their sheet is written
use mathlib.Core.Path.{◌≡◌, refl, sym, ap, ap₂, ◌∙◌}
use mathlib.Core.Logic.{◌≢◌}
use mathlib.Core.Bool.{Bool, true, not, cond, ◌||◌, ◌&&◌}
use mathlib.Core.List.{List, [], ◌∷◌, map}
use Prim.Native.Nat.{ℕ, suc, ◌<◌}
use native.Mathlib.Omega.{arith}
use lib.Dec.{eqb}
use lib.ListN.{length, get_or}
use borrow.Author.Tests.{eq-eqb, ne_eqb}
use Rattle.lists.specs.Same.{every}
use Rattle.complexes.specs.Complex.{vertex_bound}
use Rattle.complexes.specs.Packed.{Numbered}
use Rattle.closures.specs.Closure.{element_top, cell_with, member, repeats}
use Rattle.closures.specs.Rising as rising
use Rattle.mesh_format.specs.Mesh.{Element, Mesh}
use Rattle.mesh_format.specs.Parse.{malformed, parsed, then, head_of, nodes_of, elements_of, mesh_of}
use Rattle.mesh_format.proofs.Accept.{mesh-iff}
use Rattle.imports.specs.Import.{nodes_of_kind, faulty, none_faulty, elements_right, node_lists, complex_of, too_long, import_call}
use Rattle.imports.proofs.ElementLaws.{mesh-numbered}
use Rattle.imports.proofs.ImportLaws.{import-is, import-not}
use Rattle.node_maps.specs.Map.{in_map}
use Rattle.mesh_elements.specs.Listed.{Maps}
use Rattle.refusal.specs.declared.Refusal.TheVariants.{MeshMalformed}
use Rattle.std.specs.Prelude.{Result, Err}
use Rattle.std.proofs.Common.{inl, inr}
use Rattle.trials.specs.Trial.{refused}
use Rattle.trials.specs.Write.{answer_with}
use Rattle.sweeps.specs.Sweep.{swept_sheet}
use Rattle.closures.proofs.ClosureLaws.{own_sections-count}
use Rattle.cell_sets.specs.Set.{Holds}
use Rattle.cell_sets.specs.Close.{Exceeds}
use Rattle.cell_sets.specs.declared.set.CellSet.{CellSet}
use Rattle.importer.specs.Gather.{own_cells, Gathers}
use Rattle.refusal.specs.Written.{WriteAnswers}
use Rattle.refusal.specs.declared.Refusal.{Refusal}
use Rattle.importer.specs.Closure.{WritesClosure}
use Rattle.importer.proofs.Writing.{exceeds-too-long}

-- ---- the parts of the text

module _ (s : List ℕ) where
  pub no-head : head_of s ≡ malformed → mesh_of s ≡ malformed
  unfolding mesh_of then
  no-head e = rw e refl

  module _ {a : ℕ} (head : head_of s ≡ parsed tt a) where
    pub no-nodes : nodes_of s a ≡ malformed → mesh_of s ≡ malformed
    unfolding mesh_of then
    no-nodes e = rw (head, e) refl

    module _ {nodes : List ℕ} {b : ℕ} (listed : nodes_of s a ≡ parsed nodes b) where
      pub no-elements : elements_of s b ≡ malformed → mesh_of s ≡ malformed
      unfolding mesh_of then
      no-elements e = rw (head, listed, e) refl

      module _ {es : List Element} {c : ℕ} (elements : elements_of s b ≡ parsed es c) where
        pub no_end : c ≢ length s → mesh_of s ≡ malformed
        unfolding mesh_of then
        no_end d = rw (head, listed, elements, ne_eqb c (length s) d) refl

        pub whole : c ≡ length s → mesh_of s ≡ parsed (record { nodes = nodes; elements = es }) (length s)
        unfolding mesh_of then
        whole d = rw (head, listed, elements, eq-eqb c (length s) d) (ap (parsed (record { nodes = nodes; elements = es })) d)

-- ---- the answers

pub not-of-the-form : (limit : ℕ) (text sheet : List ℕ) → mesh_of text ≡ malformed → WriteAnswers (import_call limit text sheet) (Err MeshMalformed) sheet
not-of-the-form limit text sheet e = rw (import-not limit text sheet e) (record { answer = refl; output-is = refl })

-- ---- listed, or in the map

every-ext : (f g : ℕ → Bool) (l : List ℕ) → ((j : ℕ) → j < length l → f (get_or l j 0) ≡ g (get_or l j 0)) → every f l ≡ every g l
unfolding every
every-ext f g [] h = refl
every-ext f g (v ∷ l) h = ap₂ (λ a b. a && b) (h 0 (omega arith)) (every-ext f g l (λ j m. h (suc j) (omega arith)))

faulty-ext : (f g : ℕ → Bool) (e : Element) → every f e.nodes ≡ every g e.nodes → faulty f e ≡ faulty g e
unfolding faulty
faulty-ext f g e h =
    ap
    (λ (b : Bool).
    eqb (nodes_of_kind e.kind) 0 || not (eqb (length e.nodes) (nodes_of_kind e.kind)) || not b || repeats e.nodes)
    h

none_faulty-ext : (f g : ℕ → Bool) (es : List Element) → rising.All Numbered [] (node_lists es) → ((v : ℕ) → v < vertex_bound → f v ≡ g v)
    → none_faulty f es ≡ none_faulty g es
unfolding none_faulty every
none_faulty-ext f g [] n h = refl
none_faulty-ext f g (e ∷ es) n h =
    ap₂ (λ a b. not a && b) (faulty-ext f g e (every-ext f g e.nodes (λ j l. h (get_or e.nodes j 0) ((n 0 (omega arith)).at j l))))
    (none_faulty-ext f g es (λ i l. n (suc i) (omega arith)) h)

pub right-map : (bits : List ℕ) (m : Mesh) (text : List ℕ) → mesh_of text ≡ parsed m (length text) → Maps bits m.nodes
    → none_faulty (in_map bits) m.elements ≡ elements_right m
right-map bits m text e maps =
    none_faulty-ext (in_map bits) (λ v. member v m.nodes) m.elements (mesh-numbered m text ((mesh-iff m text).1 e)) (λ v l. maps.lists v l)

-- ---- a text that tells a mesh

module _ (limit : ℕ) (text sheet bits : List ℕ) (m : Mesh) (e : mesh_of text ≡ parsed m (length text)) (maps : Maps bits m.nodes) where
  right_is : none_faulty (in_map bits) m.elements ≡ true → import_call limit text sheet
      ≡ answer_with (cond (too_long limit (length sheet) (complex_of m.elements)) 16 0) (swept_sheet (complex_of m.elements)) sheet
  right_is r = rw (import-is limit text sheet m (length text) e, sym (right-map bits m text e maps) ∙ r) refl

  too_long-is : Exceeds limit (own_cells m.elements) → too_long limit (length sheet) (complex_of m.elements) ≡ true
  too_long-is x =
      exceeds-too-long limit (complex_of m.elements) sheet (record {
        dimension = x.dimension;
        listed = x.listed;
        over = omega (arith, x.over, own_sections-count element_top (map cell_with (node_lists m.elements)) x.dimension);
      })

  -- some of the elements are refused
  pub told-refused : (s : CellSet) (y : Refusal) → Gathers limit (in_map bits) m.elements (Err y) s → WriteAnswers (import_call limit text sheet) (Err y) sheet
  unfolding answer_with
  told-refused s y (inl f) =
      rw (import-is limit text sheet m (length text) e, sym (right-map bits m text e maps) ∙ f.faulty) (record { answer = ap refused f.told; output-is = refl })
  told-refused s y (inr t) =
      rw (right_is t.right, too_long-is t.exceeds) (record { answer = ap refused t.told; output-is = refl })

  pub told-written : none_faulty (in_map bits) m.elements ≡ true → {s : CellSet} {answer : Result ℕ Refusal} {after : List ℕ} → Holds s (own_cells m.elements)
      → s.limit ≡ limit → WritesClosure s sheet answer after → WriteAnswers (import_call limit text sheet) answer after
  told-written r h k w = rw (right_is r, ← k) (w (map cell_with (node_lists m.elements)) h)
