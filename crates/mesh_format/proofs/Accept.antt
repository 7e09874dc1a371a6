-- Reading and the form agree.
--     mesh-iff         a text is of the form and tells the mesh m exactly when reading it gives m, up to the end of the text
--     mesh-unique      a text tells one mesh at most
--     malformed-iff    reading gives no mesh exactly when the text is not of the form
use mathlib.Core.Path.{◌≡◌, refl, sym, ap, ◌∙◌, subst, subst₂}
use mathlib.Core.Logic.{◌↔◌}
use mathlib.Core.List.{List, [], ◌∷◌, ◌++◌, append_assoc}
use Prim.Native.Nat.{ℕ}
use lib.Dec.{eqb}
use lib.ListN.{length}
use borrow.Author.Tests.{eqb-true, eq-eqb}
use Rattle.mesh_format.specs.Mesh.{Mesh}
use Rattle.mesh_format.specs.Words.{nodes_name, elements_name, opening, ending}
use Rattle.mesh_format.specs.Form.{joined, head_lines, body_lines, MeshText}
use Rattle.mesh_format.specs.Parse.{Parsed, malformed, parsed, then, head_of, nodes_of, elements_of, mesh_of}
use Rattle.mesh_format.proofs.ReadLaws.{malformed-fails, parsed-inj, then-case, cond-split}
use Rattle.mesh_format.proofs.Spans.{Spans, spans-append, spans-split, spans-whole, whole-spans}
use Rattle.mesh_format.proofs.LinesLaws.{LinesAt, more-lines-at, lines-text, text-lines, lines_join, lines_split, counted_lines}
use Rattle.mesh_format.proofs.PartLaws.{HeadAt, head_of-iff, NodesAt, nodes_of-iff, ElementsAt, elements_of-iff}

-- from the start to `next` stand the parts of a text that tells m
record PartsAt (m : Mesh) (s : List ℕ) (next : ℕ) : Type 0 where
  nodes-at : ℕ
  elements-at : ℕ
  head : HeadAt s nodes-at
  nodes : NodesAt m.nodes s nodes-at elements-at
  elements : ElementsAt m.elements s elements-at next

-- ---- the parts are read

mesh_of-sound : (s : List ℕ) {m : Mesh} {next : ℕ} → mesh_of s ≡ parsed m next → (next ≡ length s) × PartsAt m s next
unfolding mesh_of
mesh_of-sound s {m} {next} e =
    then-case (head_of s) e (λ _ a e₁ r₁. then-case (nodes_of s a) r₁ (λ vs b e₂ r₂. then-case (elements_of s b) r₂ (λ es c e₃ r₃.
    let k = cond-split (eqb c (length s)) r₃ in
    let same = parsed-inj k.1 in
    let parts : PartsAt (record { nodes = vs; elements = es }) s c = record {
      nodes-at = a;
      elements-at = b;
      head = (head_of-iff s).0 e₁;
      nodes = (nodes_of-iff s a).0 e₂;
      elements = (elements_of-iff s b).0 e₃;
    } in
    (sym same.1 ∙ eqb-true c (length s) k.0, subst₂ (λ (x : Mesh) (n : ℕ). PartsAt x s n) same.0 same.1 parts))))

mesh_of-complete : {s : List ℕ} {m : Mesh} → PartsAt m s (length s) → mesh_of s ≡ parsed m (length s)
unfolding mesh_of then
mesh_of-complete {s} {m} p =
    rw (
      (head_of-iff s).1 p.head,
      (nodes_of-iff s p.nodes-at).1 p.nodes,
      (elements_of-iff s p.elements-at).1 p.elements,
      eq-eqb (length s) (length s) refl,
    )

-- ---- the parts are of the form

-- the lines of the nodes and, behind them, others
regrouped : (n : List ℕ) (nodes : List (List (List ℕ))) (rest : List (List (List ℕ)))
    → counted_lines n nodes (ending nodes_name) ++ rest ≡ (n ∷ []) ∷ (nodes ++ ((ending nodes_name ∷ []) ∷ rest))
regrouped n nodes rest = ap (λ (l : List (List (List ℕ))). (n ∷ []) ∷ l) (append_assoc nodes ((ending nodes_name ∷ []) ∷ []) rest)

parts-text : {m : Mesh} {s : List ℕ} → PartsAt m s (length s) → MeshText m s
parts-text {m} {s} p =
    let head = p.head in
    let nodes = p.nodes in
    let elements = p.elements.counted in
    let top = lines-text head.stand in
    let lines = lines_join nodes.stand (more-lines-at p.elements.opens elements.stand) in
    let rest = lines-text (more-lines-at head.sections.opens (rw (regrouped nodes.count nodes.lines _) at lines)) in
    record {
      version = head.version;
      version-word = head.version-word;
      is-version = head.is-version;
      head = top.text;
      head-lines = top.is;
      sections = head.sections.texts;
      passed_over = head.sections.passed_over;
      node-count = nodes.count;
      counts-nodes = nodes.counts;
      node_lines = nodes.lines;
      are-nodes = nodes.are;
      element-count = elements.count;
      counts-elements = elements.counts;
      element-lines = elements.lines;
      are-elements = elements.are;
      body = rest.text;
      body-lines = rest.is;
      text = whole-spans (spans-append top.spans (spans-append head.sections.spans rest.spans));
    }

text-parts : {m : Mesh} {s : List ℕ} → MeshText m s → PartsAt m s (length s)
text-parts {m} {s} t =
    let whole = subst (λ (u : List ℕ). Spans s 0 u (length s)) t.text (spans-whole s) in
    let c = spans-split t.head (joined t.sections ++ t.body) whole in
    let d = spans-split (joined t.sections) t.body c.1 in
    from (text-lines t.head-lines c.0) d.0 (text-lines t.body-lines d.1)
  where
    counted_nodes : List (List (List ℕ))
    counted_nodes = counted_lines t.node-count t.node_lines (ending nodes_name)

    element_lines : List (List (List ℕ))
    element_lines = (opening elements_name ∷ []) ∷ counted_lines t.element-count t.element-lines (ending elements_name)

    elements : {b : ℕ} → LinesAt s element_lines b (length s) → ElementsAt m.elements s b (length s)
    elements (more-lines-at {mid = mid} opens stand) = record {
      mid = mid;
      opens = opens;
      counted = record { count = t.element-count; counts = t.counts-elements; lines = t.element-lines; are = t.are-elements; stand = stand };
    }

    from : {a b : ℕ} → LinesAt s (head_lines t.version-word) 0 a → Spans s a (joined t.sections) b
        → LinesAt s (body_lines t.node-count t.node_lines t.element-count t.element-lines) b (length s)
        → PartsAt m s (length s)
    from {a} {b} head passed (more-lines-at {mid = mid} opens rest) =
        let lines : LinesAt s (counted_nodes ++ element_lines) mid (length s) = rw (regrouped t.node-count t.node_lines element_lines) rest in
        lines_split counted_nodes lines (λ c front back. record {
          nodes-at = mid;
          elements-at = c;
          head = record {
            version = t.version;
            version-word = t.version-word;
            is-version = t.is-version;
            mid = a;
            stand = head;
            sections = record { texts = t.sections; passed_over = t.passed_over; mid = b; spans = passed; opens = opens };
          };
          nodes = record { count = t.node-count; counts = t.counts-nodes; lines = t.node_lines; are = t.are-nodes; stand = front };
          elements = elements back;
        })

-- ---- so reading and the form agree

mesh-complete : {m : Mesh} {s : List ℕ} → MeshText m s → mesh_of s ≡ parsed m (length s)
mesh-complete t = mesh_of-complete (text-parts t)

mesh-sound : (s : List ℕ) {m : Mesh} {next : ℕ} → mesh_of s ≡ parsed m next → (next ≡ length s) × MeshText m s
mesh-sound s {m} e = let k = mesh_of-sound s e in (k.0, parts-text (subst (PartsAt m s) k.0 k.1))

pub mesh-iff : (m : Mesh) (s : List ℕ) → MeshText m s ↔ (mesh_of s ≡ parsed m (length s))
mesh-iff m s = (mesh-complete, λ e. (mesh-sound s e).1)

pub mesh-unique : (m m' : Mesh) (s : List ℕ) → MeshText m s → MeshText m' s → m ≡ m'
mesh-unique m m' s h k = (parsed-inj (sym (mesh-complete h) ∙ mesh-complete k)).0

-- a mesh that is read is read to the end of the text
pub mesh_of-ends : (s : List ℕ) (m : Mesh) (next : ℕ) → mesh_of s ≡ parsed m next → next ≡ length s
mesh_of-ends s m next e = (mesh-sound s e).0

pub malformed-iff : (s : List ℕ) → (mesh_of s ≡ malformed) ↔ ((m : Mesh) → MeshText m s → ⊥)
malformed-iff s = (λ e m h. malformed-fails (sym e ∙ mesh-complete h), λ h. pick (mesh_of s) refl h)
  where
    pick : (p : Parsed Mesh) → mesh_of s ≡ p → ((m : Mesh) → MeshText m s → ⊥) → p ≡ malformed
    pick malformed e h = refl
    pick (parsed m next) e h = absurd (h m (mesh-sound s e).1)
