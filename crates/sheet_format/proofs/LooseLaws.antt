-- Loose nodes of a complex.
--     loose-false        a vertex is not loose exactly when it stands in an edge or there is none
--     loose_node-false    no vertex is loose exactly when there is no edge or each stands in one
--     loose_node-true     some vertex is exactly when there is a loose node
--     refusal-18         18 is told exactly where none of the checks 1 to 7 applies and a vertex is loose
--     refusal-earlier    1 to 7 are told before 18
--     refusal-edgeless   a sheet without edges is refused as by the checks 1 to 7 alone
use mathlib.Core.Path.{◌≡◌, refl, sym, ◌∙◌, ap}
use mathlib.Core.Logic.{◌↔◌, ◌⊎◌, inl, inr, ◌≢◌}
use mathlib.Mathlib.Data.Bool.Basic.{eq-true_of_not-eq-false}
use mathlib.Core.List.{List, [], ◌∷◌}
use mathlib.Core.Bool.{Bool, true, false, not, ◌&&◌, ◌||◌, or-true, true≢false}
use Prim.Native.Nat.{ℕ, zero, suc, ◌<◌}
use native.Mathlib.Decide.{dec_lt}
use native.Mathlib.Omega.{arith}
use lib.Dec.{eqb, ltb}
use lib.ListN.{get_or}
use borrow.Author.Tests.{lt-ltb, le-ltb, ltb-true, eqb-true, eq-eqb, not-false}
use Rattle.complexes.specs.Cell.{Cell, Vertex, Subset}
use Rattle.complexes.specs.Complex.{Sections, count, cell, Complex}
use Rattle.complexes.specs.Loose.{InEdge, LooseNode, NoLooseNodes}
use Rattle.sheet_format.specs.Layout.{top}
use Rattle.trials.specs.Trial.{first_refusal}
use Rattle.trials.proofs.FirstLaws.{or_else, first-append, first-append-absent, first-append-told, first-append-passed}
use Rattle.sheet_format.specs.Check.{sections_of, some, on_edge, loose, loose_node, complex_checks, complex_refusal, refusal}
use Rattle.sheet_format.specs.CheckLaws.{Found, or_cases, some-true, some-false}

module _ {limit : ℕ} {K : Sections} (complex : Complex top limit K) where
  -- one of the two vertices of the edge
  vertex-on : (v k : ℕ) → k < count K 1 → Vertex v (cell K 1 k) ↔ (on_edge K v k ≡ true)
  vertex-on v k l = (to, λ e. pick (or_cases (eqb (get_or e₁ 0 0) v) (eqb (get_or e₁ 1 0) v) e))
    where
      e₁ : Cell
      e₁ = cell K 1 k

      to : Vertex v (cell K 1 k) → on_edge K v k ≡ true
      to x = go x.place (omega (arith, x.below, complex.sized 1 k l)) x.is
        where
          go : (place : ℕ) → place < 2 → get_or (cell K 1 k) place 0 ≡ v → on_edge K v k ≡ true
          go zero m e = ap (λ (a : Bool). a || eqb (get_or (cell K 1 k) 1 0) v) (eq-eqb (get_or (cell K 1 k) 0 0) v e)
          go (suc zero) m e = rw (eq-eqb (get_or (cell K 1 k) 1 0) v e) (or-true (eqb (get_or (cell K 1 k) 0 0) v))
          go (suc (suc place)) m e = absurd (omega arith)

      pick : (eqb (get_or e₁ 0 0) v ≡ true) ⊎ (eqb (get_or e₁ 1 0) v ≡ true) → Vertex v (cell K 1 k)
      pick (inl e) = record { place = 0; below = omega (arith, complex.sized 1 k l); is = eqb-true (get_or e₁ 0 0) v e }
      pick (inr e) = record { place = 1; below = omega (arith, complex.sized 1 k l); is = eqb-true (get_or e₁ 1 0) v e }

  module _ (i : ℕ) (l : i < count K 0) where
    found-edge : Found (count K 1) (on_edge K (get_or (cell K 0 i) 0 0)) ↔ InEdge K (cell K 0 i)
    found-edge = (to, from)
      where
        to : Found (count K 1) (on_edge K (get_or (cell K 0 i) 0 0)) → InEdge K (cell K 0 i)
        to f = record { edge = f.place; below = f.below; subset = only }
          where
            only : Subset (cell K 0 i) (cell K 1 f.place)
            only v x = go x.place (omega (arith, x.below, complex.sized 0 i l)) x.is
              where
                go : (place : ℕ) → place < 1 → get_or (cell K 0 i) place 0 ≡ v → Vertex v (cell K 1 f.place)
                go zero m e = (vertex-on v f.place f.below).1 (rw e at f.passes)
                go (suc place) m e = absurd (omega arith)

        from : InEdge K (cell K 0 i) → Found (count K 1) (on_edge K (get_or (cell K 0 i) 0 0))
        from n = record {
          place = n.edge;
          below = n.below;
          passes = (vertex-on (get_or (cell K 0 i) 0 0) n.edge n.below).0
              (n.subset (get_or (cell K 0 i) 0 0) (record { place = 0; below = omega (arith, complex.sized 0 i l); is = refl }));
        }

    pub loose-false : (loose K i ≡ false) ↔ (0 < count K 1 → InEdge K (cell K 0 i))
    loose-false = (to, from)
      where
        to : ltb 0 (count K 1) && not (some (count K 1) (on_edge K (get_or (cell K 0 i) 0 0))) ≡ false → 0 < count K 1 → InEdge K (cell K 0 i)
        to e h =
            found-edge.0 ((some-true (count K 1) (on_edge K (get_or (cell K 0 i) 0 0))).0
            (not-false (some (count K 1) (on_edge K (get_or (cell K 0 i) 0 0))) (rw (lt-ltb 0 (count K 1) h) at e)))

        from : (0 < count K 1 → InEdge K (cell K 0 i)) → ltb 0 (count K 1) && not (some (count K 1) (on_edge K (get_or (cell K 0 i) 0 0))) ≡ false
        from h = go (ltb 0 (count K 1)) refl
          where
            go : (t : Bool) → ltb 0 (count K 1) ≡ t → t && not (some (count K 1) (on_edge K (get_or (cell K 0 i) 0 0))) ≡ false
            go false e = refl
            go true e = ap not ((some-true (count K 1) (on_edge K (get_or (cell K 0 i) 0 0))).1 (found-edge.1 (h (ltb-true 0 (count K 1) e))))

  pub loose_node-false : (loose_node K ≡ false) ↔ NoLooseNodes K
  loose_node-false =
      let each = some-false (count K 0) (loose K) in (
        λ e. record { used = λ h i l. (loose-false i l).0 (each.0 e i l) h },
        λ n. each.1 (λ i l. (loose-false i l).1 (λ h. n.used h i l)),
      )

  loose-true : (i : ℕ) → i < count K 0 → loose K i ≡ true → (0 < count K 1) × (InEdge K (cell K 0 i) → ⊥)
  loose-true i l e = (edges (dec_lt 0 (count K 1)), λ n. true≢false (sym e ∙ (loose-false i l).1 (λ _. n)))
    where
      edges : Dec (0 < count K 1) → 0 < count K 1
      edges (yes h) = h
      edges (no h) = absurd (true≢false (sym e ∙ (loose-false i l).1 (λ k. absurd (h k))))

  pub loose_node-true : (loose_node K ≡ true) ↔ LooseNode K
  loose_node-true = (
    λ e.
        let f = (some-true (count K 0) (loose K)).0 e in let k = loose-true f.place f.below f.passes in
        record { edges = k.0; place = f.place; below = f.below; alone = k.1 },
    λ n.
        (some-true (count K 0) (loose K)).1
        (record { place = n.place; below = n.below; passes = eq-true_of_not-eq-false (λ e. n.alone ((loose-false n.place n.below).0 e n.edges)) }),
  )

-- ---- 18

last-18 : (fault : Bool) → first_refusal ((18, fault) ∷ []) ≡ 18 → fault ≡ true
last-18 true e = refl
last-18 false e = absurd (omega (arith, e))

module _ (limit : ℕ) (b : List ℕ) where
  pub refusal-18 : (refusal limit b ≡ 18) ↔ ((complex_refusal limit b ≡ 0) × (loose_node (sections_of b) ≡ true))
  unfolding refusal complex_refusal
  refusal-18 = (
    λ e.
        let parts = first-append-absent (complex_checks limit b) ((18, loose_node (sections_of b)) ∷ []) refl 18 refl e in
        (parts.0, last-18 (loose_node (sections_of b)) parts.1),
    λ h. first-append-passed (complex_checks limit b) ((18, loose_node (sections_of b)) ∷ []) refl h.0 ∙ rw h.1 refl,
  )

  pub refusal-earlier : complex_refusal limit b ≢ 0 → refusal limit b ≡ complex_refusal limit b
  unfolding refusal complex_refusal
  refusal-earlier d = first-append-told (complex_checks limit b) ((18, loose_node (sections_of b)) ∷ []) refl d

  no_edge : count (sections_of b) 1 ≡ 0 → loose_node (sections_of b) ≡ false
  no_edge e =
      (some-false (count (sections_of b) 0) (loose (sections_of b))).1
      (λ i l. ap (λ (t : Bool). t && not (some (count (sections_of b) 1) (on_edge (sections_of b) (get_or (cell (sections_of b) 0 i) 0 0)))) (le-ltb 0 (count (sections_of b) 1) (omega arith)))

  pub refusal-edgeless : count (sections_of b) 1 ≡ 0 → refusal limit b ≡ complex_refusal limit b
  unfolding refusal complex_refusal
  refusal-edgeless e =
      first-append (complex_checks limit b) ((18, loose_node (sections_of b)) ∷ []) refl
      ∙ rw (no_edge e) (none (first_refusal (complex_checks limit b)))
    where
      none : (k : ℕ) → or_else k 0 ≡ k
      none zero = refl
      none (suc k) = refl
