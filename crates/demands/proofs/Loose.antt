-- The edge 02 with the loose node 1, for uses of the claims: its bytes and cells; that its vertices 0 and 2 stand in an edge (edge-node, other-node) and 1 does
-- not (loose-node); what is left of it (alone-is). fewer-vertices: when cells are those that a sweep leaves.
use mathlib.Core.Path.{◌≡◌, refl, sym, subst}
use mathlib.Core.Logic.{◌↔◌}
use mathlib.Core.List.{[], ◌∷◌}
use Prim.Native.Nat.{ℕ, zero, suc, ◌<◌}
use native.Mathlib.Omega.{arith}
use lib.ListN.{get_or}
use Rattle.lists.specs.Tabulate.{tabulate}
use Rattle.lists.specs.Same.{every}
use Rattle.complexes.specs.Cell.{without, same, rises, precedes, listed, Cell, Listed, Vertex, Subset}
use Rattle.complexes.specs.Complex.{Sections, section, count, Complex}
use Rattle.complexes.specs.Loose.{InEdge}
use Rattle.sheet_format.specs.Layout.{top, start}
use Rattle.sheet_format.specs.Check.{count_field, offset_field, cell_of, cells_of, sections_of, some, vertices_do_not_rise, cells_do_not_rise, face_missing, complex_refusal, refusal}
use Rattle.sheet_format.specs.Sheet.{Bytes}
use Rattle.sheet_format.specs.OrderCases.{face_and_loose_node, two_vertices, edge_and_node, edge_alone, edge_alone_sections}
use Rattle.sheet_format.proofs.Accept.{laid-complex, accepted-complex}
use Rattle.sweeps.specs.Swept.{StaysIn, IsSwept}
use Rattle.demands.proofs.Hollow.{numbers-below}

pub loose-bytes : Bytes edge_and_node
unfolding every
loose-bytes = record { small = numbers-below 256 (omega arith) edge_and_node tt }

pub alone-bytes : Bytes edge_alone
unfolding every
alone-bytes = record { small = numbers-below 256 (omega arith) edge_alone tt }

pub two_bytes : Bytes two_vertices
unfolding every
two_bytes = record { small = numbers-below 256 (omega arith) two_vertices tt }

pub face-bytes : Bytes face_and_loose_node
unfolding every
face-bytes = record { small = numbers-below 256 (omega arith) face_and_loose_node tt }

abbrev pub loose_cells : Sections
loose_cells = ((0 ∷ []) ∷ (1 ∷ []) ∷ (2 ∷ []) ∷ []) ∷ ((0 ∷ 2 ∷ []) ∷ []) ∷ [] ∷ [] ∷ []

pub loose-sections : sections_of edge_and_node ≡ loose_cells
unfolding sections_of cells_of cell_of count_field start tabulate
loose-sections = refl

pub loose-laid : (limit : ℕ) → complex_refusal limit edge_and_node ≡ 0 → Complex top limit loose_cells
loose-laid limit e = rw loose-sections at (laid-complex limit edge_and_node loose-bytes e)

pub laid-256 : complex_refusal 256 edge_and_node ≡ 0
unfolding complex_refusal count_field offset_field cell_of cells_of sections_of some vertices_do_not_rise cells_do_not_rise face_missing without same rises precedes listed start tabulate
laid-256 = refl

pub laid-48 : complex_refusal 48 edge_and_node ≡ 0
unfolding complex_refusal count_field offset_field cell_of cells_of sections_of some vertices_do_not_rise cells_do_not_rise face_missing without same rises precedes listed start tabulate
laid-48 = refl

-- cells L that are those of K but for vertices, of which exactly those in edges are left
pub fewer-vertices : (K L : Sections) → ((p : ℕ) → section L (suc p) ≡ section K (suc p))
    → ((c : Cell) → Listed c (section L 0) ↔ (Listed c (section K 0) × (0 < count K 1 → InEdge K c))) → IsSwept K L
fewer-vertices K L above vertices = record { exactly = go }
  where
    go : (p : ℕ) (c : Cell) → Listed c (section L p) ↔ StaysIn K p c
    go zero c = (
      λ h. let v = (vertices c).0 h in record { listed = v.0; used = λ _. v.1 },
      λ s. (vertices c).1 (s.listed, λ h. s.used refl h),
    )
    go (suc p) c = (
      λ h. record { listed = subst (Listed c) (above p) h; used = λ zero_is. absurd (omega (arith, zero_is)) },
      λ s. subst (Listed c) (sym (above p)) s.listed,
    )

-- a vertex of the edge is 0 or 2
pub loose-node : InEdge loose_cells (1 ∷ []) → ⊥
loose-node n = go n.edge n.below n.subset
  where
    end : (place : ℕ) → place < 2 → ◌≡◌ {A = ℕ} (get_or (0 ∷ 2 ∷ []) place 0) 1 → ⊥
    end zero l e = omega (arith, e)
    end (suc zero) l e = omega (arith, e)
    end (suc (suc place)) l e = omega (arith, l)

    go : (k : ℕ) → k < 1 → Subset (1 ∷ []) (get_or ((0 ∷ 2 ∷ []) ∷ []) k []) → ⊥
    go zero l s = let v = s 1 (record { place = 0; below = omega arith; is = refl }) in end v.place v.below v.is
    go (suc k) l s = omega (arith, l)

-- a vertex of a cell by itself
pub one_of : (v : ℕ) (c : Cell) → Vertex v c → Subset (v ∷ []) c
one_of v c in_c w x = go x.place x.below x.is
  where
    go : (place : ℕ) → place < 1 → get_or (v ∷ []) place 0 ≡ w → Vertex w c
    go zero l e = subst (λ (u : ℕ). Vertex u c) e in_c
    go (suc place) l e = absurd (omega (arith, l))

pub edge-node : InEdge loose_cells (0 ∷ [])
edge-node = record { edge = 0; below = omega arith; subset = one_of 0 (0 ∷ 2 ∷ []) (record { place = 0; below = omega arith; is = refl }) }

pub other-node : InEdge loose_cells (2 ∷ [])
other-node = record { edge = 0; below = omega arith; subset = one_of 2 (0 ∷ 2 ∷ []) (record { place = 1; below = omega arith; is = refl }) }

-- without the loose node
pub alone-is : IsSwept loose_cells edge_alone_sections
alone-is = fewer-vertices loose_cells edge_alone_sections (λ p. refl) (λ c. (λ h. to c h.place h.below h.is, λ h. from c h.0.place h.0.below h.0.is h.1))
  where
    to : (c : Cell) (i : ℕ) → i < 2 → get_or ((0 ∷ []) ∷ (2 ∷ []) ∷ []) i [] ≡ c → Listed c (section loose_cells 0) × (0 < 1 → InEdge loose_cells c)
    to c zero l e = (record { place = 0; below = omega arith; is = e }, λ _. subst (InEdge loose_cells) e edge-node)
    to c (suc zero) l e = (record { place = 2; below = omega arith; is = e }, λ _. subst (InEdge loose_cells) e other-node)
    to c (suc (suc i)) l e = absurd (omega (arith, l))

    from : (c : Cell) (i : ℕ) → i < 3 → get_or ((0 ∷ []) ∷ (1 ∷ []) ∷ (2 ∷ []) ∷ []) i [] ≡ c → (0 < 1 → InEdge loose_cells c) → Listed c (section edge_alone_sections 0)
    from c zero l e n = record { place = 0; below = omega arith; is = e }
    from c (suc zero) l e n = absurd (loose-node (subst (InEdge loose_cells) (sym e) (n (omega arith))))
    from c (suc (suc zero)) l e n = record { place = 1; below = omega arith; is = e }
    from c (suc (suc (suc i))) l e n = absurd (omega (arith, l))

pub alone-48 : refusal 48 edge_alone ≡ 0
unfolding refusal count_field offset_field cell_of cells_of sections_of some vertices_do_not_rise cells_do_not_rise face_missing without same rises precedes listed start tabulate
alone-48 = refl

pub alone-256 : refusal 256 edge_alone ≡ 0
unfolding refusal count_field offset_field cell_of cells_of sections_of some vertices_do_not_rise cells_do_not_rise face_missing without same rises precedes listed start tabulate
alone-256 = refl

alone-sections : sections_of edge_alone ≡ edge_alone_sections
unfolding sections_of cells_of cell_of count_field start tabulate
alone-sections = refl

pub alone-complex : (limit : ℕ) → refusal limit edge_alone ≡ 0 → Complex top limit edge_alone_sections
alone-complex limit e = rw alone-sections at (accepted-complex limit edge_alone alone-bytes e)
