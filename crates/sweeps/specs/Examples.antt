-- Sweeps that compute: sheets with the answer and the sheet that document 02, Note 7, gives them. One joint theorem over a table.
--     sweep-examples    every line of the table is right
--     sweeps            sweeps that the claims are used on
use Rattle.std.specs.Prelude.{◌≡◌, refl, List, [], ◌∷◌, ◌++◌, ℕ, T}
use Rattle.lists.specs.Tabulate.{tabulate}
use Rattle.lists.specs.Same.{every, same_list}
use Rattle.trials.specs.Trial.{done, refused}
use Rattle.trials.specs.Write.{answer_with}
use Rattle.complexes.specs.Cell.{without, same, rises, precedes, listed}
use Rattle.sheet_format.specs.Layout.{cell_bytes, section_bytes, sections_bytes, start, header_bytes, layout}
use Rattle.sheet_format.specs.Check.{count_field, offset_field, cell_of, cells_of, sections_of, some, vertices_do_not_rise, cells_do_not_rise, face_missing, complex_refusal}
use Rattle.sheet_format.specs.OrderCases.{short_with_count, count_and_offset, offset_and_length, length_and_vertices, vertices_and_cells, cells_and_face, face_and_loose_node, two_vertices, edge_and_node, edge_alone}
use Rattle.sheet_format.specs.Starred.{no_cells, hollow_triangle, filled_triangle}
use Rattle.closures.specs.Keep.{kept, keep}
use Rattle.sweeps.specs.Sweep.{sweep_call}
use Rattle.sweeps.specs.Cases.{lent, Case, written, told, same_answer, good}

-- ---- sheets

-- the filled triangle 123 with the loose nodes 0, 4 and 7
abbrev pub triangle_and_nodes : List ℕ
triangle_and_nodes =
    6 ∷ 0 ∷ 16 ∷ 0 ∷ 3 ∷ 0 ∷ 28 ∷ 0 ∷ 1 ∷ 0 ∷ 40 ∷ 0 ∷ 0 ∷ 0 ∷ 46 ∷ 0 ∷
    0 ∷ 0 ∷ 1 ∷ 0 ∷ 2 ∷ 0 ∷ 3 ∷ 0 ∷ 4 ∷ 0 ∷ 7 ∷ 0 ∷
    1 ∷ 0 ∷ 2 ∷ 0 ∷ 1 ∷ 0 ∷ 3 ∷ 0 ∷ 2 ∷ 0 ∷ 3 ∷ 0 ∷
    1 ∷ 0 ∷ 2 ∷ 0 ∷ 3 ∷ 0 ∷ []

-- .. without them
abbrev pub triangle_alone : List ℕ
triangle_alone =
    3 ∷ 0 ∷ 16 ∷ 0 ∷ 3 ∷ 0 ∷ 22 ∷ 0 ∷ 1 ∷ 0 ∷ 34 ∷ 0 ∷ 0 ∷ 0 ∷ 40 ∷ 0 ∷
    1 ∷ 0 ∷ 2 ∷ 0 ∷ 3 ∷ 0 ∷
    1 ∷ 0 ∷ 2 ∷ 0 ∷ 1 ∷ 0 ∷ 3 ∷ 0 ∷ 2 ∷ 0 ∷ 3 ∷ 0 ∷
    1 ∷ 0 ∷ 2 ∷ 0 ∷ 3 ∷ 0 ∷ []

-- ---- the table

unfoldable pub table : List Case
table =
    written edge_and_node 256 30 24 edge_alone
    ∷ written edge_and_node 48 24 24 edge_alone
    ∷ told edge_and_node 48 23 16
    ∷ written triangle_and_nodes 6 44 40 triangle_alone
    ∷ told triangle_and_nodes 5 44 2
    ∷ written edge_alone 48 26 24 edge_alone
    ∷ written triangle_alone 48 40 40 triangle_alone
    ∷ written filled_triangle 48 40 40 filled_triangle
    ∷ written hollow_triangle 48 34 34 hollow_triangle
    ∷ written two_vertices 48 22 20 two_vertices
    ∷ told two_vertices 48 19 16
    ∷ written no_cells 48 16 16 no_cells
    ∷ told short_with_count 48 0 1
    ∷ told count_and_offset 48 40 2
    ∷ told offset_and_length 48 40 3
    ∷ told length_and_vertices 48 40 4
    ∷ told vertices_and_cells 48 40 5
    ∷ told cells_and_face 48 40 6
    ∷ told face_and_loose_node 48 0 7
    ∷ []

pub sweep-examples : T (every (good sweep_call) table)
unfolding every table good same_answer same_list sweep_call answer_with
    count_field offset_field tabulate cell_of cells_of sections_of some vertices_do_not_rise cells_do_not_rise face_missing without same rises precedes listed
    kept keep layout header_bytes start sections_bytes section_bytes cell_bytes
sweep-examples = tt

-- ---- the hypotheses of the claims are met

-- a sheet with a loose node, swept, also into a slice that is too short, and one where a face is missing, at the limits of the library and of the host calls
pub record Sweeps : Type 0 where
  pub loose-done : sweep_call 256 edge_and_node (lent 30) ≡ record { answer = done 24; output = edge_alone ++ lent 6 }
  pub loose-host-done : sweep_call 48 edge_and_node (lent 30) ≡ record { answer = done 24; output = edge_alone ++ lent 6 }
  pub loose-short : sweep_call 256 edge_and_node (lent 23) ≡ record { answer = refused 16; output = lent 23 }
  pub loose-host-short : sweep_call 48 edge_and_node (lent 23) ≡ record { answer = refused 16; output = lent 23 }
  pub face-told : complex_refusal 256 face_and_loose_node ≡ 7
  pub face-host-told : complex_refusal 48 face_and_loose_node ≡ 7

pub sweeps : Sweeps
unfolding sweep_call complex_refusal answer_with
    count_field offset_field tabulate cell_of cells_of sections_of some vertices_do_not_rise cells_do_not_rise face_missing without same rises precedes listed
    kept keep layout header_bytes start sections_bytes section_bytes cell_bytes
sweeps = record {
  loose-done = refl;
  loose-host-done = refl;
  loose-short = refl;
  loose-host-short = refl;
  face-told = refl;
  face-host-told = refl;
}
