-- Sheets that tell the order of the checks and the order of cells: document 01, "The sheet" and "The report and the coordinates".
-- Each of the first group has the faults of two checks that follow each other, and gets the number of the earlier one.
use Rattle.std.specs.Prelude.{List, [], ◌∷◌, ◌++◌, ℕ}
use Rattle.complexes.specs.Complex.{Sections}

-- ---- two faults

-- 1 and 2: two bytes that hold the count 65535
abbrev pub short_with_count : List ℕ
short_with_count = 255 ∷ 255 ∷ []

-- 2 and 3: the count 257, and the offset 0 for section 0
abbrev pub count_and_offset : List ℕ
count_and_offset = 1 ∷ 1 ∷ 0 ∷ 0 ∷ 0 ∷ 0 ∷ 16 ∷ 0 ∷ 0 ∷ 0 ∷ 16 ∷ 0 ∷ 0 ∷ 0 ∷ 16 ∷ 0 ∷ []

-- 3 and 4: no cells, the offset 0 for the empty section 3, and a byte too many
abbrev pub offset_and_length : List ℕ
offset_and_length = 0 ∷ 0 ∷ 16 ∷ 0 ∷ 0 ∷ 0 ∷ 16 ∷ 0 ∷ 0 ∷ 0 ∷ 16 ∷ 0 ∷ 0 ∷ 0 ∷ 0 ∷ 0 ∷ 0 ∷ []

-- 4 and 5: the edge written 1, 0, and a byte too many
abbrev pub length_and_vertices : List ℕ
length_and_vertices =
    2 ∷ 0 ∷ 16 ∷ 0 ∷ 1 ∷ 0 ∷ 20 ∷ 0 ∷ 0 ∷ 0 ∷ 24 ∷ 0 ∷ 0 ∷ 0 ∷ 24 ∷ 0 ∷
    0 ∷ 0 ∷ 1 ∷ 0 ∷
    1 ∷ 0 ∷ 0 ∷ 0 ∷
    0 ∷ []

-- 5 and 6: the vertices 1, 0 in section 0, and the edge written 1, 0 in the next one
abbrev pub vertices_and_cells : List ℕ
vertices_and_cells =
    2 ∷ 0 ∷ 16 ∷ 0 ∷ 1 ∷ 0 ∷ 20 ∷ 0 ∷ 0 ∷ 0 ∷ 24 ∷ 0 ∷ 0 ∷ 0 ∷ 24 ∷ 0 ∷
    1 ∷ 0 ∷ 0 ∷ 0 ∷
    1 ∷ 0 ∷ 0 ∷ 0 ∷ []

-- 6 and 7: the edges 02, 01 without the vertex 2
abbrev pub cells_and_face : List ℕ
cells_and_face =
    2 ∷ 0 ∷ 16 ∷ 0 ∷ 2 ∷ 0 ∷ 20 ∷ 0 ∷ 0 ∷ 0 ∷ 28 ∷ 0 ∷ 0 ∷ 0 ∷ 28 ∷ 0 ∷
    0 ∷ 0 ∷ 1 ∷ 0 ∷
    0 ∷ 0 ∷ 2 ∷ 0 ∷ 0 ∷ 0 ∷ 1 ∷ 0 ∷ []

-- 7 and 18: the edge 01 without its vertex 1, and the vertex 2, which is loose
abbrev pub face_and_loose_node : List ℕ
face_and_loose_node =
    2 ∷ 0 ∷ 16 ∷ 0 ∷ 1 ∷ 0 ∷ 20 ∷ 0 ∷ 0 ∷ 0 ∷ 24 ∷ 0 ∷ 0 ∷ 0 ∷ 24 ∷ 0 ∷
    0 ∷ 0 ∷ 2 ∷ 0 ∷
    0 ∷ 0 ∷ 1 ∷ 0 ∷ []

-- ---- loose nodes

-- the vertices 3 and 5 and no edge
abbrev pub two_vertices : List ℕ
two_vertices =
    2 ∷ 0 ∷ 16 ∷ 0 ∷ 0 ∷ 0 ∷ 20 ∷ 0 ∷ 0 ∷ 0 ∷ 20 ∷ 0 ∷ 0 ∷ 0 ∷ 20 ∷ 0 ∷
    3 ∷ 0 ∷ 5 ∷ 0 ∷ []

abbrev pub two_vertices_sections : Sections
two_vertices_sections = ((3 ∷ []) ∷ (5 ∷ []) ∷ []) ∷ [] ∷ [] ∷ [] ∷ []

-- the edge 02, and the vertex 1 between its vertices, which is loose
abbrev pub edge_and_node : List ℕ
edge_and_node =
    3 ∷ 0 ∷ 16 ∷ 0 ∷ 1 ∷ 0 ∷ 22 ∷ 0 ∷ 0 ∷ 0 ∷ 26 ∷ 0 ∷ 0 ∷ 0 ∷ 26 ∷ 0 ∷
    0 ∷ 0 ∷ 1 ∷ 0 ∷ 2 ∷ 0 ∷
    0 ∷ 0 ∷ 2 ∷ 0 ∷ []

-- .. without it
abbrev pub edge_alone : List ℕ
edge_alone =
    2 ∷ 0 ∷ 16 ∷ 0 ∷ 1 ∷ 0 ∷ 20 ∷ 0 ∷ 0 ∷ 0 ∷ 24 ∷ 0 ∷ 0 ∷ 0 ∷ 24 ∷ 0 ∷
    0 ∷ 0 ∷ 2 ∷ 0 ∷
    0 ∷ 0 ∷ 2 ∷ 0 ∷ []

abbrev pub edge_alone_sections : Sections
edge_alone_sections = ((0 ∷ []) ∷ (2 ∷ []) ∷ []) ∷ ((0 ∷ 2 ∷ []) ∷ []) ∷ [] ∷ [] ∷ []

-- ---- the order of cells: by first vertex, so the edge 03 stands before 12

-- the vertices 0 to 3 and two edges
abbrev header : List ℕ
header =
    4 ∷ 0 ∷ 16 ∷ 0 ∷ 2 ∷ 0 ∷ 24 ∷ 0 ∷ 0 ∷ 0 ∷ 32 ∷ 0 ∷ 0 ∷ 0 ∷ 32 ∷ 0 ∷
    0 ∷ 0 ∷ 1 ∷ 0 ∷ 2 ∷ 0 ∷ 3 ∷ 0 ∷ []

abbrev pub two_edges : List ℕ
two_edges = header ++ (0 ∷ 0 ∷ 3 ∷ 0 ∷ 1 ∷ 0 ∷ 2 ∷ 0 ∷ [])

abbrev pub two_edges_sections : Sections
two_edges_sections =
    ((0 ∷ []) ∷ (1 ∷ []) ∷ (2 ∷ []) ∷ (3 ∷ []) ∷ []) ∷ ((0 ∷ 3 ∷ []) ∷ (1 ∷ 2 ∷ []) ∷ []) ∷ [] ∷ [] ∷ []

abbrev pub two_edges_swapped : List ℕ
two_edges_swapped = header ++ (1 ∷ 0 ∷ 2 ∷ 0 ∷ 0 ∷ 0 ∷ 3 ∷ 0 ∷ [])

-- the edge 01 twice
abbrev pub edge_twice : List ℕ
edge_twice = header ++ (0 ∷ 0 ∷ 1 ∷ 0 ∷ 0 ∷ 0 ∷ 1 ∷ 0 ∷ [])

-- an edge from the vertex 0 to itself
abbrev pub edge_of_one_vertex : List ℕ
edge_of_one_vertex = header ++ (0 ∷ 0 ∷ 0 ∷ 0 ∷ 1 ∷ 0 ∷ 2 ∷ 0 ∷ [])
