-- What an answer says of the reading of an element that it tells, and the other way.
--     element-none, element-read       the reading, from the answer
--     element-fails, element-goes      the answer, from the reading
--     element-from                     the same answer, from another reader of the text
use mathlib.Core.Path.{◌≡◌, refl, sym, ap}
use mathlib.Core.List.{List}
use Prim.Native.Nat.{ℕ}
use native.Mathlib.Omega.{arith}
use lib.ListN.{length, take}
use Rattle.std.specs.Prelude.{Some, None}
use Rattle.std.specs.Borrow.{Bor}
use Rattle.complexes.specs.Packed.{word_vertices, packed}
use Rattle.mesh_format.specs.Mesh as mesh
use Rattle.mesh_format.specs.Parse.{Parsed, malformed, parsed}
use Rattle.mesh_words.specs.Tells.{moved}
use Rattle.mesh_words.specs.declared.reader.Reader.{Reader}
use Rattle.mesh_words.proofs.Told.{Moved}
use Rattle.mesh_lines.specs.Tells.{tell_element, TellsElement}
use Rattle.mesh_lines.specs.declared.answer.Element.{Element}

-- what is told of an element
abbrev pub told : mesh.Element → Element
told x = record { kind = x.kind; many = length x.nodes; packed = packed (take word_vertices x.nodes) }

-- p reads an element from r on, of which e tells, and q stands behind it
pub record ReadsElement (p : Parsed mesh.Element) (e : Element) (r q : Reader) : Type 0 where
  pub element : mesh.Element
  pub moves : Moved p element r q
  pub tells : TellsElement element e

module _ (r : Reader) where
  pub element-none : {p : Parsed mesh.Element} → None ≡ tell_element r p → p ≡ malformed
  unfolding tell_element
  element-none {p = malformed} h = refl
  element-none {p = parsed x at} h = absurd (grind arith)

  pub element-read : {p : Parsed mesh.Element} {e : Element} {q : Reader} → Some (e, q) ≡ tell_element r p → ReadsElement p e r q
  unfolding tell_element
  element-read {p = malformed} h = absurd (grind arith)
  element-read {p = parsed x at} {e} {q} h =
      let z : told x ≡ e = grind arith in let m : moved r at ≡ q = grind arith in record {
        element = x;
        moves = record { is = ap (λ (k : Reader). parsed x k.at) m; same = ap (λ (k : Reader). k.text) (sym m) };
        tells = record {
          kind-is = ap (λ (t : Element). t.kind) (sym z);
          many_is = ap (λ (t : Element). t.many) (sym z);
          packed-is = ap (λ (t : Element). t.packed) (sym z);
        };
      }

  pub element-fails : {p : Parsed mesh.Element} → p ≡ malformed → None ≡ tell_element r p
  unfolding tell_element
  element-fails e = rw e

  pub element-goes : {p : Parsed mesh.Element} {x : mesh.Element} {q : Reader} → Moved p x r q → Some (told x, q) ≡ tell_element r p
  unfolding tell_element
  element-goes {q} m = rw (m.is, ← m.same)

-- q stands in the text of r
module _ (read : List ℕ → ℕ → Parsed mesh.Element) (r q : Reader) (same : q.text ≡ r.text) where
  pub element-from : tell_element q (read q.text.now q.at) ≡ tell_element r (read r.text.now q.at)
  unfolding tell_element
  element-from = go (read r.text.now q.at) (ap (λ (t : Bor (List ℕ)). read t.now q.at) same)
    where
      go : (p : Parsed mesh.Element) → read q.text.now q.at ≡ p → tell_element q (read q.text.now q.at) ≡ tell_element r p
      go malformed e = rw e
      go (parsed x at) e = rw (e, same)
