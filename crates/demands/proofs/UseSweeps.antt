-- Uses of the claims on the sweep: the edge 02 with the loose node 1, its sweep in a slice of 30 bytes, and sheets and slices that are refused.
use mathlib.Core.Path.{◌≡◌, refl, sym, ap, ◌∙◌}
use mathlib.Core.List.{List, [], ◌∷◌, ◌++◌}
use Prim.Native.Nat.{ℕ, ◌≤◌}
use native.Mathlib.Omega.{arith}
use lib.ListN.{length, take, drop}
use Rattle.limits.specs.Limits.{library_limit, host_limit}
use Rattle.trials.specs.Trial.{done, number_told}
use Rattle.lists.specs.Tabulate.{tabulate}
use Rattle.complexes.specs.Cell.{without, same, rises, precedes, listed, Listed}
use Rattle.complexes.specs.Complex.{section}
use Rattle.sheet_format.specs.Layout.{cell_bytes, section_bytes, sections_bytes, start, header_bytes, layout}
use Rattle.sheet_format.specs.Check.{count_field, offset_field, cell_of, cells_of, sections_of, some, vertices_do_not_rise, cells_do_not_rise, face_missing, complex_refusal, refusal}
use Rattle.sheet_format.specs.Sheet.{IsLayout}
use Rattle.sheet_format.specs.Written.{header_gives}
use Rattle.sheet_format.specs.OrderCases.{face_and_loose_node, two_vertices, edge_and_node, edge_alone, edge_alone_sections}
use Rattle.sweeps.specs.Sweep.{sweep_call}
use Rattle.sweeps.specs.Swept.{IsSwept, SweptSheet}
use Rattle.sweeps.specs.Cases.{lent}
use Rattle.sweeps.specs.Examples.{sweeps}
use Rattle.demands.specs.Sheets.{SheetCells}
use Rattle.demands.specs.Sweeps.{Layouts, SweepRefused, SweptCells, SweptUnique, SweepTooShort, SweepDone, SweepFits, SweepLeft, SweepSheet, HostSweepSheet, EdgelessSheets, SweepUnchanged, SweepTwice}
use Rattle.demands.proofs.UseWritten.{Parts, parts-of}
use Rattle.demands.proofs.Loose.{loose-bytes, alone-bytes, face-bytes, loose_cells, loose-sections, loose-laid, laid-48, laid-256, alone-is, alone-48, alone-256, alone-complex, two_bytes, loose-node, edge-node}

-- ---- 1 to 7

module _ (layouts : Layouts) where
  loose-layout : IsLayout 256 edge_and_node
  unfolding complex_refusal count_field offset_field cell_of cells_of sections_of some vertices_do_not_rise cells_do_not_rise face_missing without same rises precedes listed start tabulate
  loose-layout = (layouts 256 (omega arith) edge_and_node loose-bytes).0 refl

  -- a face is missing: told 7
  no-layout : IsLayout 48 face_and_loose_node → ⊥
  unfolding complex_refusal count_field offset_field cell_of cells_of sections_of some vertices_do_not_rise cells_do_not_rise face_missing without same rises precedes listed start tabulate
  no-layout laid = let seven : ◌≡◌ {A = ℕ} 7 0 = sym told ∙ (layouts 48 (omega arith) face_and_loose_node face-bytes).1 laid in omega (arith, seven)
    where
      told : complex_refusal 48 face_and_loose_node ≡ 7
      told = refl

  -- the cells of the layout are the edge's, its vertices and the loose one
  loose-cells : SheetCells → loose-layout.cells ≡ loose_cells
  unfolding sections_of cells_of cell_of count_field start tabulate
  loose-cells sheet_cells = sheet_cells 256 (omega arith) edge_and_node loose-layout

told-7 : SweepRefused → (slice : List ℕ) → number_told (sweep_call 48 face_and_loose_node slice).answer ≡ 7
unfolding complex_refusal count_field offset_field cell_of cells_of sections_of some vertices_do_not_rise cells_do_not_rise face_missing without same rises precedes listed start tabulate
told-7 sweep_refused slice = sweep_refused 48 face_and_loose_node slice (λ e. omega (arith, e))

-- ---- the cells

module _ (swept_unique : SweptUnique) where
  has_cells : (swept_cells : SweptCells) → (swept_cells 48 loose_cells (loose-laid 48 laid-48)).cells ≡ edge_alone_sections
  has_cells swept_cells =
      let has = swept_cells 48 loose_cells (loose-laid 48 laid-48) in
      swept_unique 48 loose_cells has.cells edge_alone_sections (loose-laid 48 laid-48) has.complex has.are (alone-complex 48 alone-48) alone-is

-- ---- 16, and done

swept-sections : IsSwept (sections_of edge_and_node) edge_alone_sections
swept-sections = rw loose-sections alone-is

module _ (sweep_too_short : SweepTooShort) where
  short : number_told (sweep_call 48 edge_and_node (lent 23)).answer ≡ 16
  unfolding layout header_bytes start sections_bytes section_bytes cell_bytes
  short = (sweep_too_short 48 edge_and_node (lent 23) (omega arith) loose-bytes laid-48 edge_alone_sections (alone-complex 48 alone-48) swept-sections).1 (omega arith)

  -- at the length of the swept sheet, at the largest limit there is
  not_16 : number_told (sweep_call 256 edge_and_node (lent 24)).answer ≡ 16 → ⊥
  unfolding layout header_bytes start sections_bytes section_bytes cell_bytes
  not_16 told =
      omega (arith, (sweep_too_short 256 edge_and_node (lent 24) (omega arith) loose-bytes laid-256 edge_alone_sections (alone-complex 256 alone-256) swept-sections).0 told)

  module _ (sweep_left : SweepLeft) where
    kept : (sweep_call 48 edge_and_node (lent 23)).output ≡ lent 23
    kept = sweep_left 48 edge_and_node (lent 23) (λ none. let sixteen : ◌≡◌ {A = ℕ} 16 0 = sym short ∙ none in absurd (omega (arith, sixteen)))

module _ (sweep_done : SweepDone) where
  swept : sweep_call 48 edge_and_node (lent 30) ≡ record { answer = done 24; output = edge_alone ++ lent 6 }
  unfolding layout header_bytes start sections_bytes section_bytes cell_bytes
  swept = sweep_done 48 edge_and_node (lent 30) (omega arith) loose-bytes laid-48 edge_alone_sections (alone-complex 48 alone-48) swept-sections (omega arith)

  -- in a slice of exactly its length, at the largest limit there is
  exact : sweep_call 256 edge_and_node (lent 24) ≡ record { answer = done 24; output = edge_alone ++ [] }
  unfolding layout header_bytes start sections_bytes section_bytes cell_bytes
  exact = sweep_done 256 edge_and_node (lent 24) (omega arith) loose-bytes laid-256 edge_alone_sections (alone-complex 256 alone-256) swept-sections (omega arith)

-- a slice as long as the sheet that is given, at the largest limit there is
fits : SweepFits → number_told (sweep_call 256 edge_and_node (lent 26)).answer ≡ 0
fits sweep_fits = sweep_fits 256 edge_and_node (lent 26) (omega arith) loose-bytes laid-256 (omega arith)

-- ---- the sheet that is written

module _ (after : List ℕ) (limit : ℕ) (n : ℕ) (sheet : SweptSheet limit edge_and_node (lent 30) after n) where
  cells : IsSwept loose_cells (sections_of (take n after))
  cells = rw loose-sections at sheet.cells

  -- the loose node is dropped, a vertex of the edge is not, and the edge stays
  dropped : Listed (1 ∷ []) (section (sections_of (take n after)) 0) → ⊥
  dropped h = loose-node (((cells.exactly 0 (1 ∷ [])).0 h).used refl (omega arith))

  stays : Listed (0 ∷ []) (section (sections_of (take n after)) 0)
  stays = (cells.exactly 0 (0 ∷ [])).1 (record { listed = record { place = 0; below = omega arith; is = refl }; used = λ _ _. edge-node })

  edge : Listed (0 ∷ 2 ∷ []) (section (sections_of (take n after)) 1)
  edge = (cells.exactly 1 (0 ∷ 2 ∷ [])).1 (record { listed = record { place = 0; below = omega arith; is = refl }; used = λ one. absurd (omega (arith, one)) })

  -- nothing is added
  old : (p : ℕ) (c : List ℕ) → Listed c (section (sections_of (take n after)) p) → Listed c (section loose_cells p)
  old p c h = ((cells.exactly p c).0 h).listed

  parts : Parts limit (lent 30) after n
  parts = parts-of sheet.sheet

library-sheet : SweepSheet → SweptSheet library_limit edge_and_node (lent 30) (sweep_call library_limit edge_and_node (lent 30)).output 24
library-sheet sweep_sheet = sweep_sheet library_limit edge_and_node (lent 30) (omega arith) loose-bytes 24 (ap (λ c. c.answer) sweeps.loose-done)

host-sheet : HostSweepSheet → SweptSheet host_limit edge_and_node (lent 30) (sweep_call host_limit edge_and_node (lent 30)).output (header_gives (sweep_call host_limit edge_and_node (lent 30)).output)
host-sheet host_sweep_sheet = host_sweep_sheet host_limit edge_and_node (lent 30) (omega arith) loose-bytes (ap (λ c. number_told c.answer) sweeps.loose-host-done)

-- ---- written unchanged

-- two vertices and no edge
edgeless : EdgelessSheets → refusal 48 two_vertices ≡ 0
unfolding complex_refusal count_field offset_field cell_of cells_of sections_of some vertices_do_not_rise cells_do_not_rise face_missing without same rises precedes listed start tabulate
edgeless edgeless_sheets = edgeless_sheets 48 two_vertices refl

module _ (sweep_unchanged : SweepUnchanged) where
  unchanged : sweep_call 48 edge_alone (lent 30) ≡ record { answer = done 24; output = edge_alone ++ lent 6 }
  unfolding refusal count_field offset_field cell_of cells_of sections_of some vertices_do_not_rise cells_do_not_rise face_missing without same rises precedes listed start tabulate
  unchanged = sweep_unchanged 48 (omega arith) edge_alone (lent 30) alone-bytes refl (omega arith)

  -- in a slice of exactly its length, at the largest limit there is
  unchanged-exact : sweep_call 256 edge_alone (lent 24) ≡ record { answer = done 24; output = edge_alone ++ [] }
  unfolding refusal count_field offset_field cell_of cells_of sections_of some vertices_do_not_rise cells_do_not_rise face_missing without same rises precedes listed start tabulate
  unchanged-exact = sweep_unchanged 256 (omega arith) edge_alone (lent 24) alone-bytes refl (omega arith)

  -- .. and a sheet without edges, by what it is told
  unchanged-edgeless : EdgelessSheets → sweep_call 48 two_vertices (lent 20) ≡ record { answer = done 20; output = two_vertices ++ [] }
  unchanged-edgeless edgeless_sheets = sweep_unchanged 48 (omega arith) two_vertices (lent 20) two_bytes (edgeless edgeless_sheets) (omega arith)

module _ (sweep_twice : SweepTwice) where
  twice : (slice : List ℕ) → 24 ≤ length slice → sweep_call library_limit (take 24 (sweep_call library_limit edge_and_node (lent 30)).output) slice
      ≡ record { answer = done 24; output = take 24 (sweep_call library_limit edge_and_node (lent 30)).output ++ drop 24 slice }
  twice slice l = sweep_twice library_limit (omega arith) edge_and_node (lent 30) slice loose-bytes 24 (ap (λ c. c.answer) sweeps.loose-done) l
