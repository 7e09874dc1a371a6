-- The nodes read so far are listed: what a loop over the lines of the nodes keeps.
--     Listing, listing_start, listing-more, listing-end     so many lines are read, and their nodes listed
--     lists-none                                            nothing is listed of lines that are malformed
--     node-below                                            a node that is read is a vertex number
use mathlib.Core.Path.{◌≡◌, refl, sym, ap, ◌∙◌, subst}
use mathlib.Core.Bool.{true, ◌||◌, or-true, or-false, or_assoc}
use mathlib.Core.List.{List, [], ◌∷◌, ◌++◌, append-nil, append_assoc}
use Prim.Native.Nat.{ℕ, ◌+◌, ◌≤◌, ◌<◌}
use native.Mathlib.Decide.{ℕ_discrete}
use native.Mathlib.Omega.{arith}
use lib.Dec.{eqb, ltb}
use borrow.Author.Tests.{ltb-true, eq-eqb, ne_eqb}
use Rattle.std.specs.Prelude.{Some, None}
use Rattle.complexes.specs.Complex.{vertex_bound}
use Rattle.closures.specs.Closure.{member}
use Rattle.mesh_format.specs.Parse.{Parsed, malformed, parsed, then, number, node, words, line_end, node_line, node_lines}
use Rattle.mesh_format.proofs.ReadLaws.{malformed-fails, parsed-inj, then-case, cond-split, node_lines-repeats}
use Rattle.mesh_format.proofs.WalkLaws.{Walk, walk_start, walk_more, walk_end}
use Rattle.mesh_words.specs.Steps.{skip}
use Rattle.mesh_words.specs.declared.reader.Reader.{Reader}
use Rattle.mesh_words.proofs.Told.{Moved, skipped-fails, skipped-goes}
use Rattle.node_maps.specs.Map.{in_map, Lists}
use Rattle.mesh_elements.specs.Listed.{Maps}
use Rattle.importer.specs.Nodes.{ListsNodes}
use Rattle.importer.proofs.Ends.{skipped}

-- ---- one node more

member-append : (u : ℕ) (l : List ℕ) (v : ℕ) → member u (l ++ (v ∷ [])) ≡ member u l || eqb u v
unfolding member
member-append u [] v = or-false (eqb u v)
member-append u (w ∷ l) v = rw (member-append u l v) (sym (or_assoc (eqb u w) (member u l) (eqb u v)))

pub maps-more : {map map' listed : List ℕ} {v : ℕ} → Maps map listed → Lists v map map' → Maps map' (listed ++ (v ∷ []))
maps-more {map} {map'} {listed} {v} m h = record {
  sized = h.sized ∙ m.sized;
  lists = λ u l. at u l (ℕ_discrete u v);
}
  where
    at : (u : ℕ) → u < vertex_bound → Dec (u ≡ v) → in_map map' u ≡ member u (listed ++ (v ∷ []))
    at u l (yes e) = ap (in_map map') e ∙ h.here ∙ sym (rw (member-append u listed v, eq-eqb u v e) (or-true (member u listed)))
    at u l (no d) = h.elsewhere u d ∙ m.lists u l ∙ sym (rw (member-append u listed v, ne_eqb u v d) (or-false (member u listed)))

pub node-below : (s : List ℕ) (at v next : ℕ) → node_line s at ≡ parsed v next → v < vertex_bound
unfolding node node_line
node-below s at v next e =
    then-case (node s at) e (λ v₁ a n e₁.
    then-case (words 3 s a) e₁ (λ _ b _ e₂.
    then-case (line_end s b) e₂ (λ _ d _ e₃.
    then-case (number s at) n (λ v₂ m _ e₄.
    let small : (ltb v₂ vertex_bound ≡ true) × (parsed v₂ m ≡ parsed v₁ a) = cond-split (ltb v₂ vertex_bound) e₄ in
    omega (arith, ltb-true v₂ vertex_bound small.0, (parsed-inj small.1).0, (parsed-inj e₃).0)))))

-- ---- the loop

-- of n lines from r on, i are read up to where `here` stands, and the map has their nodes beside those of `before`
pub record Listing (r : Reader) (n : ℕ) (before map : List ℕ) (i : ℕ) (here : Reader) : Type 0 where
  pub read : List ℕ
  pub walk : Walk node_lines n r.text.now r.at i here.at read
  pub same : here.text ≡ r.text
  pub lists : (listed : List ℕ) → Maps before listed → Maps map (listed ++ read)

pub listing_start : (r : Reader) (n : ℕ) (before : List ℕ) → Listing r n before before 0 r
listing_start r n before = record {
  read = [];
  walk = walk_start node_lines-repeats n r.text.now r.at;
  same = refl;
  lists = λ listed m. subst (Maps before) (sym (append-nil listed)) m;
}

module _ {r : Reader} {n : ℕ} {before map : List ℕ} {i : ℕ} {here : Reader} (m : Listing r n before map i here) where
  pub listing-more : i < n → {v : ℕ} {next : Reader} {map' : List ℕ} → Moved (node_line r.text.now here.at) v r next → Lists v map map'
      → Listing r n before map' (i + 1) next
  listing-more l {v} {next} {map'} e h = record {
    read = m.read ++ (v ∷ []);
    walk = walk_more node_lines-repeats m.walk l e.is;
    same = e.same;
    lists = λ listed k. subst (Maps map') (append_assoc listed m.read (v ∷ [])) (maps-more (m.lists listed k) h);
  }

  pub listing-end : n ≤ i → ListsNodes r (node_lines n r.text.now r.at) before map (Some here)
  listing-end l = record {
    told = skipped-goes r (record { is = skipped (walk_end node_lines-repeats m.walk l); same = m.same });
    lists = λ nodes at' q listed k.
        let same : m.read ≡ nodes = (parsed-inj (sym (walk_end node_lines-repeats m.walk l) ∙ q)).0 in subst (λ (l : List ℕ). Maps map (listed ++ l)) same (m.lists listed k);
  }

pub lists-none : (r : Reader) {p : Parsed (List ℕ)} {before map : List ℕ} → p ≡ malformed → ListsNodes r p before map None
unfolding skip then
lists-none r e = record { told = skipped-fails r (ap skip e); lists = λ nodes at q. absurd (malformed-fails (sym e ∙ q)) }
