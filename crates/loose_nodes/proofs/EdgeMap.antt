-- The first j vertex numbers from byte `at` on are listed: what the loop over the vertices of the edges keeps.
--     MapsFields, fields-none, fields-more, fields-edges     no number, one more, all numbers of the edges
use mathlib.Core.Path.{◌≡◌, refl, sym, ap, ap₂, ◌∙◌}
use mathlib.Core.Bool.{Bool, ◌||◌, or-true, or-false, or_assoc}
use mathlib.Core.List.{List}
use Prim.Native.Nat.{ℕ, zero, suc, ◌+◌, ◌*◌, ◌≤◌, ◌<◌}
use native.Mathlib.Decide.{ℕ_discrete}
use native.Mathlib.Numerals.{add-one}
use native.Mathlib.Omega.{arith}
use lib.Dec.{eqb}
use lib.ListN.{length, get_or}
use borrow.Author.Tests.{eq-eqb, ne_eqb}
use Rattle.complexes.specs.Complex.{cell}
use Rattle.sheet_format.specs.Check.{field_at, count_field, start_at, sections_of, some, on_edge}
use Rattle.sheet_format.specs.SheetLaws.{count-sections_of}
use Rattle.node_maps.specs.Map.{map_length, in_map, Empty, Lists}
use Rattle.loose_nodes.specs.Loose.{MapsEdges}
use Rattle.loose_nodes.proofs.Vertex.{vertex-is}

-- the number v stands at place k
abbrev stands : List ℕ → ℕ → ℕ → ℕ → Bool
stands b at v k = eqb (field_at b (at + 2 * k)) v

pub record MapsFields (b : List ℕ) (at j : ℕ) (map : List ℕ) : Type 0 where
  pub sized : length map ≡ map_length
  pub lists : (v : ℕ) → in_map map v ≡ some j (stands b at v)

pub fields-none : (b : List ℕ) (at : ℕ) {map : List ℕ} → Empty map → MapsFields b at 0 map
unfolding some
fields-none b at e = record { sized = e.sized; lists = e.none }

pub fields-more : {b : List ℕ} {at j : ℕ} {map map' : List ℕ} → MapsFields b at j map → Lists (field_at b (at + 2 * j)) map map' → MapsFields b at (j + 1) map'
unfolding some
fields-more {b} {at} {j} {map} {map'} m h = record {
  sized = h.sized ∙ m.sized;
  lists = λ v. rw (add-one j) (here v (ℕ_discrete v (field_at b (at + 2 * j))));
}
  where
    here : (v : ℕ) → Dec (v ≡ field_at b (at + 2 * j)) → in_map map' v ≡ some j (stands b at v) || stands b at v j
    here v (yes e) =
        ap (in_map map') e
        ∙ h.here
        ∙ sym (rw (eq-eqb (field_at b (at + 2 * j)) v (sym e)) (or-true (some j (stands b at v))))
    here v (no d) =
        h.elsewhere v d
        ∙ m.lists v
        ∙ sym (rw (ne_eqb (field_at b (at + 2 * j)) v (λ e. d (sym e))) (or-false (some j (stands b at v))))

-- the two numbers of an edge, and those of the first n edges
module _ (b : List ℕ) (v : ℕ) where
  edge : (k : ℕ) → k < count_field b 1 → stands b (start_at b 1) v (2 * k) || stands b (start_at b 1) v (suc (2 * k)) ≡ on_edge (sections_of b) v k
  edge k l = ap₂ (λ (x y : ℕ). eqb x v || eqb y v) (number 0 (2 * k) (omega arith) (omega arith)) (number 1 (suc (2 * k)) (omega arith) (omega arith))
    where
      number : (j place : ℕ) → j < 2 → place ≡ 2 * k + j → field_at b (start_at b 1 + 2 * place) ≡ get_or (cell (sections_of b) 1 k) j 0
      number j place h e = ap (λ (n : ℕ). field_at b (start_at b 1 + 2 * n)) e ∙ sym (vertex-is b 1 k j (omega arith) l h)

  edges : (n : ℕ) → n ≤ count_field b 1 → some (2 * n) (stands b (start_at b 1) v) ≡ some n (on_edge (sections_of b) v)
  unfolding some
  edges zero l = refl
  edges (suc n) l =
      let f = stands b (start_at b 1) v in
      ap (λ (m : ℕ). some m (stands b (start_at b 1) v)) two-more
      ∙ or_assoc (some (2 * n) f) (f (2 * n)) (f (suc (2 * n)))
      ∙ ap₂ ◌||◌ (edges n (omega arith)) (edge n l)
    where
      two-more : 2 * suc n ≡ suc (suc (2 * n))
      two-more = omega arith

pub fields-edges : {b : List ℕ} {at j : ℕ} {map : List ℕ} → MapsFields b at j map → at ≡ start_at b 1 → j ≡ 2 * count_field b 1 → MapsEdges (sections_of b) map
fields-edges {b} m a n = record {
  sized = m.sized;
  lists = λ v.
      m.lists v
      ∙ ap₂ (λ (x y : ℕ). some x (stands b y v)) n a
      ∙ edges b v (count_field b 1) (omega arith)
      ∙ ap (λ (x : ℕ). some x (on_edge (sections_of b) v)) (sym (count-sections_of b 1));
}
