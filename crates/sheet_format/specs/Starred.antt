-- The starred sheets of document 01, "Sheets to try", as far as reading goes: which are accepted, as the layout of which cells, and which
-- number the others get; with them the sheets of `OrderCases`. One joint theorem over a table, at the limits of the library and of the program.
--     starred-sheets    every line of the table is right
use Rattle.std.specs.Prelude.{Bool, not, ◌&&◌, ◌||◌, List, [], ◌∷◌, ℕ, T, eqb, take}
use Rattle.limits.specs.Limits.{library_limit, host_limit}
use Rattle.complexes.specs.Cell.{without, same, rises, precedes, listed}
use Rattle.complexes.specs.Complex.{Sections}
use Rattle.lists.specs.Tabulate.{tabulate}
use Rattle.lists.specs.Same.{every}
use Rattle.sheet_format.specs.Layout.{cell_bytes, section_bytes, sections_bytes, start, header_bytes, layout}
use Rattle.sheet_format.specs.Check.{count_field, offset_field, cell_of, cells_of, sections_of, some, vertices_do_not_rise, cells_do_not_rise, face_missing, refusal}
use Rattle.sheet_format.specs.OrderCases.{short_with_count, count_and_offset, offset_and_length, length_and_vertices, vertices_and_cells, cells_and_face, face_and_loose_node, two_vertices, two_vertices_sections, edge_and_node, edge_alone, edge_alone_sections, two_edges, two_edges_sections, two_edges_swapped, edge_twice, edge_of_one_vertex}

-- ---- the sheets: a line for the header, then a line for each section that has cells

abbrev pub no_cells : List ℕ
no_cells = 0 ∷ 0 ∷ 16 ∷ 0 ∷ 0 ∷ 0 ∷ 16 ∷ 0 ∷ 0 ∷ 0 ∷ 16 ∷ 0 ∷ 0 ∷ 0 ∷ 16 ∷ 0 ∷ []

-- the vertex 7
abbrev pub one_vertex : List ℕ
one_vertex =
    1 ∷ 0 ∷ 16 ∷ 0 ∷ 0 ∷ 0 ∷ 18 ∷ 0 ∷ 0 ∷ 0 ∷ 18 ∷ 0 ∷ 0 ∷ 0 ∷ 18 ∷ 0 ∷
    7 ∷ 0 ∷ []

abbrev pub edge_sheet : List ℕ
edge_sheet =
    2 ∷ 0 ∷ 16 ∷ 0 ∷ 1 ∷ 0 ∷ 20 ∷ 0 ∷ 0 ∷ 0 ∷ 24 ∷ 0 ∷ 0 ∷ 0 ∷ 24 ∷ 0 ∷
    0 ∷ 0 ∷ 1 ∷ 0 ∷
    0 ∷ 0 ∷ 1 ∷ 0 ∷ []

abbrev pub hollow_triangle : List ℕ
hollow_triangle =
    3 ∷ 0 ∷ 16 ∷ 0 ∷ 3 ∷ 0 ∷ 22 ∷ 0 ∷ 0 ∷ 0 ∷ 34 ∷ 0 ∷ 0 ∷ 0 ∷ 34 ∷ 0 ∷
    0 ∷ 0 ∷ 1 ∷ 0 ∷ 2 ∷ 0 ∷
    0 ∷ 0 ∷ 1 ∷ 0 ∷ 0 ∷ 0 ∷ 2 ∷ 0 ∷ 1 ∷ 0 ∷ 2 ∷ 0 ∷ []

abbrev pub filled_triangle : List ℕ
filled_triangle =
    3 ∷ 0 ∷ 16 ∷ 0 ∷ 3 ∷ 0 ∷ 22 ∷ 0 ∷ 1 ∷ 0 ∷ 34 ∷ 0 ∷ 0 ∷ 0 ∷ 40 ∷ 0 ∷
    0 ∷ 0 ∷ 1 ∷ 0 ∷ 2 ∷ 0 ∷
    0 ∷ 0 ∷ 1 ∷ 0 ∷ 0 ∷ 0 ∷ 2 ∷ 0 ∷ 1 ∷ 0 ∷ 2 ∷ 0 ∷
    0 ∷ 0 ∷ 1 ∷ 0 ∷ 2 ∷ 0 ∷ []

abbrev pub fifteen_bytes : List ℕ
fifteen_bytes = take 15 no_cells

-- the edge 01 without its vertex 1
abbrev pub edge_without_vertex : List ℕ
edge_without_vertex =
    1 ∷ 0 ∷ 16 ∷ 0 ∷ 1 ∷ 0 ∷ 18 ∷ 0 ∷ 0 ∷ 0 ∷ 22 ∷ 0 ∷ 0 ∷ 0 ∷ 22 ∷ 0 ∷
    0 ∷ 0 ∷
    0 ∷ 0 ∷ 1 ∷ 0 ∷ []

-- the edge written 1, 0
abbrev pub edge_reversed : List ℕ
edge_reversed =
    2 ∷ 0 ∷ 16 ∷ 0 ∷ 1 ∷ 0 ∷ 20 ∷ 0 ∷ 0 ∷ 0 ∷ 24 ∷ 0 ∷ 0 ∷ 0 ∷ 24 ∷ 0 ∷
    0 ∷ 0 ∷ 1 ∷ 0 ∷
    1 ∷ 0 ∷ 0 ∷ 0 ∷ []

-- ---- their cells, by dimension

abbrev pub empty_sections : Sections
empty_sections = [] ∷ [] ∷ [] ∷ [] ∷ []

abbrev pub one_vertex_sections : Sections
one_vertex_sections = ((7 ∷ []) ∷ []) ∷ [] ∷ [] ∷ [] ∷ []

abbrev pub edge_sections : Sections
edge_sections = ((0 ∷ []) ∷ (1 ∷ []) ∷ []) ∷ ((0 ∷ 1 ∷ []) ∷ []) ∷ [] ∷ [] ∷ []

abbrev pub hollow_triangle_sections : Sections
hollow_triangle_sections =
    ((0 ∷ []) ∷ (1 ∷ []) ∷ (2 ∷ []) ∷ []) ∷ ((0 ∷ 1 ∷ []) ∷ (0 ∷ 2 ∷ []) ∷ (1 ∷ 2 ∷ []) ∷ []) ∷ [] ∷ [] ∷ []

abbrev pub filled_triangle_sections : Sections
filled_triangle_sections =
    ((0 ∷ []) ∷ (1 ∷ []) ∷ (2 ∷ []) ∷ []) ∷ ((0 ∷ 1 ∷ []) ∷ (0 ∷ 2 ∷ []) ∷ (1 ∷ 2 ∷ []) ∷ []) ∷ ((0 ∷ 1 ∷ 2 ∷ []) ∷ []) ∷ [] ∷ []

-- ---- the table

-- a sheet, the number of its refusal or 0, and its cells if it is accepted
pub record Line : Type 0 where
  pub bytes : List ℕ
  pub number : ℕ
  pub cells : Sections

abbrev accepted : List ℕ → Sections → Line
accepted b K = record { bytes = b; number = 0; cells = K }

abbrev refused : List ℕ → ℕ → Line
refused b number = record { bytes = b; number = number; cells = [] }

unfoldable pub table : List Line
table =
    accepted no_cells empty_sections
    ∷ accepted one_vertex one_vertex_sections
    ∷ accepted edge_sheet edge_sections
    ∷ accepted hollow_triangle hollow_triangle_sections
    ∷ accepted filled_triangle filled_triangle_sections
    ∷ refused fifteen_bytes 1
    ∷ refused edge_reversed 5
    ∷ refused edge_without_vertex 7
    ∷ refused short_with_count 1
    ∷ refused count_and_offset 2
    ∷ refused offset_and_length 3
    ∷ refused length_and_vertices 4
    ∷ refused vertices_and_cells 5
    ∷ refused cells_and_face 6
    ∷ refused face_and_loose_node 7
    ∷ accepted two_vertices two_vertices_sections
    ∷ refused edge_and_node 18
    ∷ accepted edge_alone edge_alone_sections
    ∷ accepted two_edges two_edges_sections
    ∷ refused two_edges_swapped 6
    ∷ refused edge_twice 6
    ∷ refused edge_of_one_vertex 5
    ∷ []

-- the refusal is the one expected at both limits, and an accepted sheet is the layout of its cells
unfoldable pub good : Line → Bool
good line =
    eqb (refusal library_limit line.bytes) line.number
    && eqb (refusal host_limit line.bytes) line.number
    && (not (eqb line.number 0) || same (layout line.cells) line.bytes)

pub starred-sheets : T (every good table)
unfolding every table good
    refusal count_field offset_field tabulate cell_of cells_of sections_of some vertices_do_not_rise cells_do_not_rise face_missing without same rises precedes listed
    layout header_bytes start sections_bytes section_bytes cell_bytes
starred-sheets = tt
