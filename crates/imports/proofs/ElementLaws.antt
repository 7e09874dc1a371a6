-- What it means that no element is faulty, and that a text tells the elements.
--     right-few                             each element has at most `suc element_top` nodes
--     element-numbered, mesh-numbered       the nodes of an element that is read, and of a mesh, are vertex numbers
use mathlib.Core.Path.{◌≡◌, refl, ap}
use mathlib.Core.Bool.{Bool, true, false, not, cond, ◌||◌, true≢false, and-eq-true_iff}
use mathlib.Core.List.{List, [], ◌∷◌}
use Prim.Native.Nat.{ℕ, zero, suc, ◌≤◌, ◌<◌}
use native.Mathlib.Omega.{arith}
use lib.Dec.{eqb}
use lib.ListN.{length, get_or}
use borrow.Author.Tests.{eqb-true, not-true, not-false}
use Rattle.lists.specs.Same.{every}
use Rattle.closures.specs.Closure.{element_top, repeats}
use Rattle.closures.specs.Rising as rising
use Rattle.complexes.specs.Complex.{vertex_bound}
use Rattle.complexes.specs.Packed.{Numbered}
use Rattle.mesh_format.specs.Mesh.{Element, Mesh}
use Rattle.mesh_format.specs.Form.{Each, each_none, each_more, IsNode, ElementLine, element-line, MeshText}
use Rattle.mesh_format.specs.Parse.{parsed, element_line}
use Rattle.mesh_format.proofs.ElementLaws.{element_line-iff}
use Rattle.imports.specs.Import.{nodes_of_kind, faulty, none_faulty, node_lists}

none_of_four : (a b c d : Bool) → a || b || c || d ≡ false → (a ≡ false) × ((b ≡ false) × ((c ≡ false) × (d ≡ false)))
none_of_four true b c d e = absurd (true≢false e)
none_of_four false true c d e = absurd (true≢false e)
none_of_four false false true d e = absurd (true≢false e)
none_of_four false false false d e = (refl, (refl, (refl, e)))

-- a right element has as many nodes as its kind
faulty-number : (is_listed : ℕ → Bool) (e : Element) → faulty is_listed e ≡ false → length e.nodes ≡ nodes_of_kind e.kind
unfolding faulty
faulty-number is_listed e h =
    let parts =
    none_of_four (eqb (nodes_of_kind e.kind) 0) (not (eqb (length e.nodes) (nodes_of_kind e.kind))) (not (every is_listed e.nodes))
    (repeats e.nodes) h in
    eqb-true (length e.nodes) (nodes_of_kind e.kind) (not-false (eqb (length e.nodes) (nodes_of_kind e.kind)) parts.1.0)

nodes_of_kind-le : (k : ℕ) → nodes_of_kind k ≤ suc element_top
unfolding nodes_of_kind
nodes_of_kind-le k = pick (eqb k 15) (eqb k 1) (eqb k 2) (eqb k 4)
  where
    pick : (a b c d : Bool) → cond a 1 (cond b 2 (cond c 3 (cond d 4 0))) ≤ suc element_top
    pick true b c d = omega arith
    pick false true c d = omega arith
    pick false false true d = omega arith
    pick false false false true = omega arith
    pick false false false false = omega arith

right-number : (is_listed : ℕ → Bool) (es : List Element) → none_faulty is_listed es ≡ true → (e₀ : Element) (i : ℕ) → i < length es
    → length (get_or es i e₀).nodes ≡ nodes_of_kind (get_or es i e₀).kind
unfolding none_faulty every
right-number is_listed [] h e₀ i l = absurd (omega arith)
right-number is_listed (e ∷ es) h e₀ zero l =
    faulty-number is_listed e (not-true (faulty is_listed e) ((and-eq-true_iff (not (faulty is_listed e)) (every (λ e. not (faulty is_listed e)) es)).0 h).0)
right-number is_listed (e ∷ es) h e₀ (suc i) l =
    right-number is_listed es ((and-eq-true_iff (not (faulty is_listed e)) (every (λ e. not (faulty is_listed e)) es)).0 h).1 e₀ i (omega arith)

-- the node lists, at a place
get_or-node_lists : (es : List Element) (i : ℕ) (e₀ : Element) → i < length es → get_or (node_lists es) i [] ≡ (get_or es i e₀).nodes
get_or-node_lists [] i e₀ l = absurd (omega arith)
get_or-node_lists (e ∷ es) zero e₀ l = refl
get_or-node_lists (e ∷ es) (suc i) e₀ l = get_or-node_lists es i e₀ (omega arith)

pub length-node_lists : (es : List Element) → length (node_lists es) ≡ length es
length-node_lists [] = refl
length-node_lists (e ∷ es) = ap suc (length-node_lists es)

no_element : Element
no_element = record { kind = 0; nodes = [] }

pub right-few : (is_listed : ℕ → Bool) (es : List Element) → none_faulty is_listed es ≡ true → rising.All (λ vs. length vs ≤ suc element_top) [] (node_lists es)
right-few is_listed es h i l =
    let below : i < length es = rw (length-node_lists es) at l in
    rw (get_or-node_lists es i no_element below, right-number is_listed es h no_element i below) (nodes_of_kind-le (get_or es i no_element).kind)

-- ---- the nodes of a mesh are vertex numbers

each-node : {vs : List ℕ} {ws : List (List ℕ)} → Each IsNode vs ws → (j : ℕ) → j < length vs → get_or vs j 0 < vertex_bound
each-node each_none j l = absurd (omega arith)
each-node (each_more h r) zero l = h.below
each-node (each_more h r) (suc j) l = each-node r j (omega arith)

element-nodes : {e : Element} {ws : List (List ℕ)} → ElementLine e ws → Numbered e.nodes
element-nodes (element-line tags n k t nodes) = record { at = each-node nodes }

-- .. of an element that is read
pub element-numbered : (s : List ℕ) (at : ℕ) {e : Element} {next : ℕ} → element_line s at ≡ parsed e next → Numbered e.nodes
element-numbered s at h = element-nodes ((element_line-iff s at).0 h).is

each-element : {es : List Element} {lines : List (List (List ℕ))} → Each ElementLine es lines → (i : ℕ) → i < length es
    → Numbered (get_or (node_lists es) i [])
each-element each_none i l = absurd (omega arith)
each-element (each_more h r) zero l = element-nodes h
each-element (each_more h r) (suc i) l = each-element r i (omega arith)

pub mesh-numbered : (m : Mesh) (s : List ℕ) → MeshText m s → rising.All Numbered [] (node_lists m.elements)
mesh-numbered m s t i l = each-element t.are-elements i (rw (length-node_lists m.elements) at l)
