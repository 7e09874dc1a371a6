-- Uses of the claims on the import: the mesh text of the hollow triangle, its sheet in a slice of 40 bytes, texts and slices that are refused, and a triangle
-- beside a point, whose node is loose.
use mathlib.Core.Path.{◌≡◌, refl, sym, ap, ◌∙◌, subst}
use mathlib.Core.Bool.{true, false≢true}
use mathlib.Core.List.{List, [], ◌∷◌}
use Prim.Native.Nat.{ℕ}
use native.Mathlib.Omega.{arith}
use lib.ListN.{take}
use Rattle.limits.specs.Limits.{library_limit, host_limit}
use Rattle.trials.specs.Trial.{number_told}
use Rattle.lists.specs.Tabulate.{tabulate}
use Rattle.lists.specs.Same.{every, same_list}
use Rattle.complexes.specs.Cell.{without, precedes, Listed}
use Rattle.complexes.specs.Complex.{Sections, section}
use Rattle.sheet_format.specs.Layout.{cell_bytes, section_bytes, sections_bytes, start, header_bytes, layout}
use Rattle.sheet_format.specs.Check.{sections_of, some}
use Rattle.sheet_format.specs.Written.{header_gives}
use Rattle.closures.specs.Insert.{insert, insert_all}
use Rattle.closures.specs.Closure.{element_top, member, repeats, of_dimension, faces_of, closed_section, closure}
use Rattle.closures.specs.Form.{IsClosure}
use Rattle.mesh_format.specs.Mesh.{Mesh}
use Rattle.mesh_format.specs.Words.{value_from}
use Rattle.mesh_format.specs.Form.{joined, MeshText}
use Rattle.mesh_format.specs.Parse.{then, run, some_bytes, word, gap, line_end, digits_at, number, node, the_word, words, word_line, title_line, format_line, count_line, node_line, nodes_within, node_numbers, element_line, node_lines, element_lines, closing_within, closing_line, sections_within, sections, head_of, nodes_of, elements_of, mesh_of}
use Rattle.mesh_format.proofs.Accept.{mesh-iff}
use Rattle.imports.specs.Import.{nodes_of_kind, faulty, none_faulty, elements_right, node_lists, complex_of, mesh_in, is_malformed, too_long, mesh_checks, import_call}
use Rattle.trials.specs.Write.{answer_with}
use Rattle.imports.proofs.ImportLaws.{mesh-cells}
use Rattle.sweeps.specs.Sweep.{sweep_call}
use Rattle.imports.specs.Sheet.{ImportedSheet}
use Rattle.sweeps.specs.Cases.{lent}
use Rattle.imports.specs.Examples.{shown, line, text_of, hollow, filled_and_point, twice, hollow_mesh, hollow-text, hollow-right, done-imports}
use Rattle.demands.specs.Meshes.{ImportMalformed, MeshesUnique, ImportFaulty, MeshCells, MeshCellsUnique, ImportTooLong, ImportDone, ImportSweeps, ImportLeft, ImportSheet, HostImportSheet}
use Rattle.demands.proofs.Hollow.{hollow_cells}
use Rattle.demands.proofs.UseWritten.{Parts, parts-of}

-- ---- 14

module _ (import_malformed : ImportMalformed) where
  -- no text at all tells no mesh
  no-mesh : (m : Mesh) → MeshText m [] → ⊥
  unfolding then run some_bytes word gap line_end the_word words word_line title_line sections_within sections head_of mesh_of is_malformed mesh_in mesh_checks answer_with import_call
  no-mesh = (import_malformed 48 [] []).0 refl

  -- whatever the slice: there is a mesh, so not 14
  not-14 : (limit : ℕ) (sheet : List ℕ) → number_told (import_call limit hollow sheet).answer ≡ 14 → ⊥
  not-14 limit sheet told = (import_malformed limit hollow sheet).0 told hollow_mesh hollow-text

  -- where no mesh is told, 14
  told-14 : (limit : ℕ) (sheet : List ℕ) → number_told (import_call limit [] sheet).answer ≡ 14
  told-14 limit sheet = (import_malformed limit [] sheet).1 no-mesh

one-mesh : MeshesUnique → (m : Mesh) → MeshText m hollow → m ≡ hollow_mesh
one-mesh meshes_unique m is = meshes_unique m hollow_mesh hollow is hollow-text

-- ---- 15

-- a line from a node to itself
abbrev line_mesh : Mesh
line_mesh = record { nodes = 0 ∷ 1 ∷ []; elements = record { kind = 1; nodes = 1 ∷ 1 ∷ [] } ∷ [] }

line-text : MeshText line_mesh twice
unfolding joined shown line text_of same_list
    then run some_bytes word gap line_end digits_at number node the_word words word_line title_line format_line count_line node_line nodes_within node_numbers element_line
    node_lines element_lines closing_within closing_line sections_within sections head_of nodes_of elements_of mesh_of value_from
line-text = (mesh-iff line_mesh twice).1 refl

module _ (import_faulty : ImportFaulty) where
  told-15 : (limit : ℕ) (sheet : List ℕ) → number_told (import_call limit twice sheet).answer ≡ 15
  unfolding every member repeats nodes_of_kind faulty none_faulty
  told-15 limit sheet = (import_faulty limit twice sheet line_mesh line-text).1 refl

  not-15 : (limit : ℕ) (sheet : List ℕ) → number_told (import_call limit hollow sheet).answer ≡ 15 → ⊥
  not-15 limit sheet told = false≢true (sym ((import_faulty limit hollow sheet hollow_mesh hollow-text).0 told) ∙ hollow-right)

-- ---- the cells

-- the cells that the import as it computes writes
abbrev written : Sections
written = complex_of hollow_mesh.elements

written-closure : IsClosure element_top (node_lists hollow_mesh.elements) written
written-closure = mesh-cells hollow_mesh hollow-right

written-cells : written ≡ hollow_cells
unfolding some insert insert_all of_dimension faces_of closed_section closure tabulate without precedes
written-cells = refl

-- there are cells of the mesh, and they are the triangle's
has_cells : (mesh_cells : MeshCells) → MeshCellsUnique → (mesh_cells hollow_mesh hollow-right).cells ≡ hollow_cells
has_cells mesh_cells mesh_cells_unique =
    let has = mesh_cells hollow_mesh hollow-right in mesh_cells_unique hollow_mesh has.cells written has.are written-closure ∙ written-cells

-- ---- 16, and done

module _ (import_too_long : ImportTooLong) where
  -- one byte short
  short : number_told (import_call 48 hollow (lent 33)).answer ≡ 16
  unfolding too_long some insert insert_all of_dimension faces_of closed_section closure tabulate without precedes layout header_bytes start sections_bytes section_bytes cell_bytes
  short = (import_too_long 48 hollow (lent 33) hollow_mesh hollow-text hollow-right written written-closure).1 refl

  -- a count above its limit
  many : number_told (import_call 2 hollow (lent 40)).answer ≡ 16
  unfolding too_long some insert insert_all of_dimension faces_of closed_section closure tabulate without precedes layout header_bytes start sections_bytes section_bytes cell_bytes
  many = (import_too_long 2 hollow (lent 40) hollow_mesh hollow-text hollow-right written written-closure).1 refl

  -- at the length and at the limit
  not_16 : number_told (import_call 3 hollow (lent 34)).answer ≡ 16 → ⊥
  unfolding too_long some insert insert_all of_dimension faces_of closed_section closure tabulate without precedes layout header_bytes start sections_bytes section_bytes cell_bytes
  not_16 told = false≢true ((import_too_long 3 hollow (lent 34) hollow_mesh hollow-text hollow-right written written-closure).0 told)

  module _ (import_left : ImportLeft) where
    left_alone : (import_call 48 hollow (lent 33)).output ≡ lent 33
    left_alone = import_left 48 hollow (lent 33) (λ none. let sixteen : ◌≡◌ {A = ℕ} 16 0 = sym short ∙ none in absurd (omega (arith, sixteen)))

-- ---- a triangle and a point, which is loose

abbrev point_mesh : Mesh
point_mesh = record { nodes = 0 ∷ 1 ∷ 2 ∷ 3 ∷ []; elements = record { kind = 15; nodes = 3 ∷ [] } ∷ record { kind = 2; nodes = 0 ∷ 1 ∷ 2 ∷ [] } ∷ [] }

point-text : MeshText point_mesh filled_and_point
unfolding joined shown line text_of same_list
    then run some_bytes word gap line_end digits_at number node the_word words word_line title_line format_line count_line node_line nodes_within node_numbers element_line
    node_lines element_lines closing_within closing_line sections_within sections head_of nodes_of elements_of mesh_of value_from
point-text = (mesh-iff point_mesh filled_and_point).1 refl

point-right : elements_right point_mesh ≡ true
unfolding every member repeats nodes_of_kind faulty none_faulty
point-right = refl

abbrev point_cells : Sections
point_cells = complex_of point_mesh.elements

point-closure : IsClosure element_top (node_lists point_mesh.elements) point_cells
point-closure = mesh-cells point_mesh point-right

-- 16 is about the sheet before the sweep, of 42 bytes; the one that is written has 40
point-short : ImportTooLong → number_told (import_call 4 filled_and_point (lent 41)).answer ≡ 16
unfolding too_long some insert insert_all of_dimension faces_of closed_section closure tabulate without precedes layout header_bytes start sections_bytes section_bytes cell_bytes
point-short import_too_long = (import_too_long 4 filled_and_point (lent 41) point_mesh point-text point-right point_cells point-closure).1 refl

imported : ImportDone → number_told (import_call 4 filled_and_point (lent 42)).answer ≡ 0
unfolding too_long some insert insert_all of_dimension faces_of closed_section closure tabulate without precedes layout header_bytes start sections_bytes section_bytes cell_bytes
imported import_done = import_done 4 filled_and_point (lent 42) point_mesh point-text point-right point_cells point-closure refl

-- the answer and the slice are the sweep's, at the largest limit there is
imported-swept : ImportSweeps → import_call 256 filled_and_point (lent 42) ≡ sweep_call 256 (layout point_cells) (lent 42)
unfolding too_long some insert insert_all of_dimension faces_of closed_section closure tabulate without precedes layout header_bytes start sections_bytes section_bytes cell_bytes
imported-swept import_sweeps = import_sweeps 256 (omega arith) filled_and_point (lent 42) point_mesh point-text point-right point_cells point-closure refl

-- ---- the sheet that is written

module _ (after : List ℕ) (limit : ℕ) (n : ℕ) (sheet : ImportedSheet limit hollow (lent 40) after n) (meshes_unique : MeshesUnique) (unique : MeshCellsUnique) where
  same-mesh : sheet.mesh ≡ hollow_mesh
  same-mesh = meshes_unique sheet.mesh hollow_mesh hollow sheet.is-text hollow-text

  same-cells : sheet.unswept ≡ hollow_cells
  same-cells =
      unique hollow_mesh sheet.unswept written (subst (λ (m : Mesh). IsClosure element_top (node_lists m.elements) sheet.unswept) same-mesh sheet.elements) written-closure
      ∙ written-cells

  -- the edges are those of the triangle
  edges : Listed (0 ∷ 1 ∷ []) (section (sections_of (take n after)) 1)
  edges =
      (sheet.cells.exactly 1 (0 ∷ 1 ∷ [])).1 (record {
        listed = subst (λ (K : Sections). Listed (0 ∷ 1 ∷ []) (section K 1)) (sym same-cells) (record { place = 0; below = omega arith; is = refl });
        used = λ one. absurd (omega (arith, one));
      })

  parts : Parts limit (lent 40) after n
  parts = parts-of sheet.sheet

library-sheet : ImportSheet → ImportedSheet library_limit hollow (lent 40) (import_call library_limit hollow (lent 40)).output 34
library-sheet import_sheet = import_sheet library_limit (omega arith) hollow (lent 40) 34 (ap (λ c. c.answer) done-imports.hollow-done)

host-sheet : HostImportSheet → ImportedSheet host_limit hollow (lent 40) (import_call host_limit hollow (lent 40)).output (header_gives (import_call host_limit hollow (lent 40)).output)
host-sheet host_import_sheet = host_import_sheet host_limit (omega arith) hollow (lent 40) (ap (λ c. number_told c.answer) done-imports.hollow-host-done)
