-- Uses of the claims on acceptance: the hollow triangle is a sheet at the limit 3, with its cells, and none at the limit 2; an edge with a loose node
-- is refused with 18.
use mathlib.Core.Path.{◌≡◌, refl, sym, ◌∙◌, subst}
use mathlib.Core.List.{List, [], ◌∷◌}
use Prim.Native.Nat.{ℕ, ◌<◌}
use native.Mathlib.Omega.{arith}
use Rattle.lists.specs.Tabulate.{tabulate}
use Rattle.complexes.specs.Cell.{without, same, rises, precedes, listed}
use Rattle.complexes.specs.Complex.{count, cell, Complex}
use Rattle.complexes.specs.Loose.{InEdge, NoLooseNodes}
use Rattle.sheet_format.specs.Layout.{cell_bytes, section_bytes, sections_bytes, header_bytes, start, layout, top}
use Rattle.sheet_format.specs.Check.{count_field, offset_field, cell_of, cells_of, sections_of, some, vertices_do_not_rise, cells_do_not_rise, face_missing, complex_refusal, refusal}
use Rattle.sheet_format.specs.Sheet.{Bytes, IsSheet}
use Rattle.sheet_format.specs.Starred.{hollow_triangle}
use Rattle.sheet_format.specs.OrderCases.{face_and_loose_node, edge_and_node}
use Rattle.demands.specs.Sheets.{Acceptance, SheetCells, LooseSheet, LooseRefused, EarlierRefused}
use Rattle.demands.proofs.Hollow.{hollow-bytes, hollow_cells}
use Rattle.demands.proofs.Loose.{loose-bytes, loose_cells, loose-laid, laid-256, loose-node}

module _ (acceptance : Acceptance) where
  is-sheet : IsSheet 3 hollow_triangle
  unfolding refusal count_field offset_field cell_of cells_of sections_of some vertices_do_not_rise cells_do_not_rise face_missing without same rises precedes listed start tabulate
  is-sheet = (acceptance 3 (omega arith) hollow_triangle hollow-bytes).0 refl

  complex : Complex top 3 is-sheet.laid.cells
  complex = is-sheet.laid.complex

  -- the last vertex stands in an edge
  used : SheetCells → InEdge hollow_cells (2 ∷ [])
  unfolding sections_of cells_of cell_of count_field start tabulate
  used sheet_cells =
      (subst NoLooseNodes (sheet_cells 3 (omega arith) hollow_triangle is-sheet.laid) is-sheet.used).used (omega arith) 2 (omega arith)

  bytes : layout is-sheet.laid.cells ≡ hollow_triangle
  bytes = is-sheet.laid.bytes

  -- three edges: told 2 at the limit 2
  no-sheet : IsSheet 2 hollow_triangle → ⊥
  unfolding refusal count_field offset_field cell_of cells_of sections_of some vertices_do_not_rise cells_do_not_rise face_missing without same rises precedes listed start tabulate
  no-sheet sheet = let two : ◌≡◌ {A = ℕ} 2 0 = sym told ∙ (acceptance 2 (omega arith) hollow_triangle hollow-bytes).1 sheet in omega (arith, two)
    where
      told : refusal 2 hollow_triangle ≡ 2
      told = refl

  -- at the largest limit there is, its cells are the triangle's
  largest : IsSheet 256 hollow_triangle
  unfolding refusal count_field offset_field cell_of cells_of sections_of some vertices_do_not_rise cells_do_not_rise face_missing without same rises precedes listed start tabulate
  largest = (acceptance 256 (omega arith) hollow_triangle hollow-bytes).0 refl

  cells : SheetCells → largest.laid.cells ≡ hollow_cells
  unfolding sections_of cells_of cell_of count_field start tabulate
  cells sheet_cells = sheet_cells 256 (omega arith) hollow_triangle largest.laid

-- ---- loose nodes

module _ (loose_refused : LooseRefused) where
  -- no edge has the vertex 1, at the largest limit there is
  loose-told : refusal 256 edge_and_node ≡ 18
  unfolding layout header_bytes start sections_bytes section_bytes cell_bytes
  loose-told = (loose_refused 256 (omega arith) edge_and_node loose-bytes).1 (record {
    laid = record { cells = loose_cells; complex = loose-laid 256 laid-256; bytes = bytes };
    node = record { edges = omega arith; place = 1; below = omega arith; alone = loose-node };
  })
    where
      bytes : layout loose_cells ≡ edge_and_node
      bytes = refl

  -- where 18 is told, the sheet holds a complex with an edge, and some vertex of it stands in none
  loose-sheet : (b : List ℕ) → Bytes b → refusal 48 b ≡ 18 → LooseSheet 48 b
  loose-sheet b bytes e = (loose_refused 48 (omega arith) b bytes).0 e

  module _ (b : List ℕ) (bytes : Bytes b) (e : refusal 48 b ≡ 18) where
    told-layout : layout (loose-sheet b bytes e).laid.cells ≡ b
    told-layout = (loose-sheet b bytes e).laid.bytes

    told-edge : 0 < count (loose-sheet b bytes e).laid.cells 1
    told-edge = (loose-sheet b bytes e).node.edges

    told-vertex : (loose-sheet b bytes e).node.place < count (loose-sheet b bytes e).laid.cells 0
    told-vertex = (loose-sheet b bytes e).node.below

    told-alone : InEdge (loose-sheet b bytes e).laid.cells (cell (loose-sheet b bytes e).laid.cells 0 (loose-sheet b bytes e).node.place) → ⊥
    told-alone = (loose-sheet b bytes e).node.alone

-- 7 and 18 in one sheet
earlier : EarlierRefused → refusal 48 face_and_loose_node ≡ 7
unfolding complex_refusal count_field offset_field cell_of cells_of sections_of some vertices_do_not_rise cells_do_not_rise face_missing without same rises precedes listed start tabulate
earlier earlier_refused = earlier_refused 48 face_and_loose_node (λ e. omega (arith, e))
