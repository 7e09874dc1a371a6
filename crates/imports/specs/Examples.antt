-- Imports that compute: texts with the answer and the sheet that document 02, Notes 3 and 7, gives them. One joint theorem over a table.
--     import-examples                          every line of the table is right
--     hollow-text, hollow-right     a text and its mesh
--     done-imports                  imports that are done
use Rattle.std.specs.Prelude.{◌≡◌, refl, true, cond, List, [], ◌∷◌, ◌++◌, map, ℕ, ◌+◌, ◌/◌, ◌%◌, T, ltb, length, drop}
use Rattle.lists.specs.Tabulate.{tabulate}
use Rattle.lists.specs.Same.{every, same_list}
use Rattle.complexes.specs.Cell.{without, precedes}
use Rattle.sheet_format.specs.Layout.{cell_bytes, section_bytes, sections_bytes, start, header_bytes, layout}
use Rattle.sheet_format.specs.Check.{some}
use Rattle.sheet_format.specs.Starred.{no_cells, hollow_triangle, filled_triangle}
use Rattle.sheet_format.specs.OrderCases.{two_vertices}
use Rattle.closures.specs.Keep.{kept, keep}
use Rattle.closures.specs.Insert.{insert, insert_all}
use Rattle.closures.specs.Closure.{member, repeats, of_dimension, faces_of, closed_section, closure}
use Rattle.mesh_format.specs.Mesh.{Mesh}
use Rattle.mesh_format.specs.Words.{value_from}
use Rattle.mesh_format.specs.Form.{joined, MeshText}
use Rattle.mesh_format.specs.Examples.{open_format, format, end_format, open_nodes, end_nodes, open_elements, end_elements}
use Rattle.mesh_format.specs.Parse.{then, run, some_bytes, word, gap, line_end, digits_at, number, node, the_word, words, word_line, title_line, format_line, count_line, node_line, nodes_within, node_numbers, element_line, node_lines, element_lines, closing_within, closing_line, sections_within, sections, head_of, nodes_of, elements_of, mesh_of}
use Rattle.mesh_format.proofs.Accept.{mesh-iff}
use Rattle.trials.specs.Trial.{done}
use Rattle.trials.specs.Write.{answer_with}
use Rattle.sweeps.specs.Cases.{lent, Case, written, told, same_answer, good}
use Rattle.imports.specs.Import.{nodes_of_kind, faulty, none_faulty, elements_right, mesh_in, is_malformed, too_long, mesh_checks, import_call}

-- ---- texts

-- a number below 100 in decimal
unfoldable pub shown : ℕ → List ℕ
shown n = cond (ltb n 10) ((48 + n) ∷ []) ((48 + n / 10) ∷ (48 + n % 10) ∷ [])

-- a line of these numbers
unfoldable pub line : List ℕ → List ℕ
line [] = 10 ∷ []
line (n ∷ []) = shown n ++ (10 ∷ [])
line (n ∷ m ∷ l) = shown n ++ (32 ∷ line (m ∷ l))

-- the text with these nodes, all at the origin, and these lines of elements
unfoldable pub text_of : List ℕ → List (List ℕ) → List ℕ
text_of nodes elements =
    joined (open_format ∷ format ∷ end_format ∷ open_nodes ∷ line (length nodes ∷ []) ∷ (map (λ v. line (v ∷ 0 ∷ 0 ∷ 0 ∷ [])) nodes
    ++ (end_nodes ∷ open_elements ∷ line (length elements ∷ []) ∷ (map line elements ++ (end_elements ∷ [])))))

-- the hollow triangle, an edge twice
abbrev pub hollow : List ℕ
hollow = text_of (0 ∷ 1 ∷ 2 ∷ []) ((1 ∷ 1 ∷ 0 ∷ 1 ∷ 0 ∷ []) ∷ (2 ∷ 1 ∷ 0 ∷ 0 ∷ 2 ∷ []) ∷ (3 ∷ 1 ∷ 2 ∷ 7 ∷ 7 ∷ 2 ∷ 1 ∷ []) ∷ (4 ∷ 1 ∷ 0 ∷ 0 ∷ 1 ∷ []) ∷ [])

-- the triangle 0, 1, 2, with its corner 1
abbrev pub filled : List ℕ
filled = text_of (2 ∷ 1 ∷ 0 ∷ []) ((1 ∷ 2 ∷ 0 ∷ 2 ∷ 0 ∷ 1 ∷ []) ∷ (2 ∷ 15 ∷ 0 ∷ 1 ∷ []) ∷ [])

-- the triangle 0, 1, 2, and the node 3 as a point, which is loose
abbrev pub filled_and_point : List ℕ
filled_and_point = text_of (0 ∷ 1 ∷ 2 ∷ 3 ∷ []) ((1 ∷ 15 ∷ 0 ∷ 3 ∷ []) ∷ (2 ∷ 2 ∷ 0 ∷ 0 ∷ 1 ∷ 2 ∷ []) ∷ [])

-- the nodes 3 and 5 as points
abbrev pub points : List ℕ
points = text_of (3 ∷ 5 ∷ []) ((1 ∷ 15 ∷ 0 ∷ 5 ∷ []) ∷ (2 ∷ 15 ∷ 0 ∷ 3 ∷ []) ∷ [])

-- the tetrahedron 1, 2, 5, 7, with a node listed twice and one that no element uses
abbrev pub tetrahedron : List ℕ
tetrahedron = text_of (7 ∷ 1 ∷ 9 ∷ 5 ∷ 2 ∷ 5 ∷ []) ((1 ∷ 4 ∷ 1 ∷ 9 ∷ 5 ∷ 1 ∷ 7 ∷ 2 ∷ []) ∷ [])

abbrev pub tetrahedron_sheet : List ℕ
tetrahedron_sheet =
    4 ∷ 0 ∷ 16 ∷ 0 ∷ 6 ∷ 0 ∷ 24 ∷ 0 ∷ 4 ∷ 0 ∷ 48 ∷ 0 ∷ 1 ∷ 0 ∷ 72 ∷ 0 ∷ 1 ∷ 0 ∷ 2 ∷ 0 ∷ 5 ∷ 0 ∷ 7 ∷ 0 ∷ 1 ∷ 0 ∷ 2 ∷ 0 ∷ 1 ∷ 0 ∷ 5 ∷ 0 ∷ 1 ∷ 0 ∷ 7 ∷ 0 ∷ 2 ∷ 0 ∷ 5 ∷ 0 ∷ 2 ∷ 0 ∷ 7 ∷ 0 ∷ 5 ∷ 0 ∷ 7 ∷ 0 ∷ 1 ∷ 0 ∷ 2 ∷ 0 ∷ 5 ∷ 0 ∷ 1 ∷ 0 ∷ 2 ∷ 0 ∷ 7 ∷ 0 ∷ 1 ∷ 0 ∷ 5 ∷ 0 ∷ 7 ∷ 0 ∷ 2 ∷ 0 ∷ 5 ∷ 0 ∷ 7 ∷ 0 ∷ 1 ∷ 0 ∷ 2 ∷ 0 ∷ 5 ∷ 0 ∷ 7 ∷ 0 ∷ []

-- a quadrangle
abbrev pub other_kind : List ℕ
other_kind = text_of (0 ∷ 1 ∷ 2 ∷ 3 ∷ []) ((1 ∷ 3 ∷ 0 ∷ 0 ∷ 1 ∷ 2 ∷ 3 ∷ []) ∷ [])

-- a triangle of two nodes
abbrev pub other_number : List ℕ
other_number = text_of (0 ∷ 1 ∷ 2 ∷ []) ((1 ∷ 2 ∷ 0 ∷ 0 ∷ 1 ∷ []) ∷ [])

-- a node that is not listed
abbrev pub unlisted : List ℕ
unlisted = text_of (0 ∷ 1 ∷ []) ((1 ∷ 1 ∷ 0 ∷ 0 ∷ 2 ∷ []) ∷ [])

-- a node twice
abbrev pub twice : List ℕ
twice = text_of (0 ∷ 1 ∷ []) ((1 ∷ 1 ∷ 0 ∷ 1 ∷ 1 ∷ []) ∷ [])

-- three points, and a line of one node twice
abbrev pub many_then_faulty : List ℕ
many_then_faulty =
    text_of (1 ∷ 2 ∷ 3 ∷ []) ((1 ∷ 15 ∷ 0 ∷ 1 ∷ []) ∷ (2 ∷ 15 ∷ 0 ∷ 2 ∷ []) ∷ (3 ∷ 15 ∷ 0 ∷ 3 ∷ []) ∷ (4 ∷ 1 ∷ 0 ∷ 2 ∷ 2 ∷ []) ∷ [])

-- a quadrangle, and behind it a line without a tag count
abbrev pub faulty_then_malformed : List ℕ
faulty_then_malformed = text_of (0 ∷ 1 ∷ []) ((1 ∷ 3 ∷ 0 ∷ 0 ∷ 1 ∷ []) ∷ (2 ∷ 1 ∷ []) ∷ [])

-- no nodes and no elements
abbrev pub none : List ℕ
none = text_of [] []

-- ---- the table

unfoldable pub table : List Case
table =
    written hollow 256 40 34 hollow_triangle
    ∷ written hollow 3 34 34 hollow_triangle
    ∷ told hollow 3 33 16
    ∷ told hollow 2 40 16
    ∷ written filled 48 40 40 filled_triangle
    ∷ told filled 48 39 16
    ∷ written filled_and_point 48 50 40 filled_triangle
    ∷ written filled_and_point 4 42 40 filled_triangle
    ∷ told filled_and_point 48 41 16
    ∷ told filled_and_point 3 50 16
    ∷ written points 48 30 20 two_vertices
    ∷ written tetrahedron 6 82 80 tetrahedron_sheet
    ∷ told tetrahedron 5 82 16
    ∷ told other_kind 48 40 15
    ∷ told other_number 48 40 15
    ∷ told unlisted 48 40 15
    ∷ told twice 48 0 15
    ∷ told many_then_faulty 2 40 15
    ∷ told faulty_then_malformed 48 40 14
    ∷ told [] 48 40 14
    ∷ written none 48 16 16 no_cells
    ∷ told none 48 15 16
    ∷ []

pub import-examples : T (every (good import_call) table)
unfolding joined shown line text_of every table good same_answer same_list some tabulate without precedes
    then run some_bytes word gap line_end digits_at number node the_word words word_line title_line format_line count_line node_line nodes_within node_numbers element_line
    node_lines element_lines closing_within closing_line sections_within sections head_of nodes_of elements_of mesh_of value_from
    insert insert_all member repeats of_dimension faces_of closed_section closure
    nodes_of_kind faulty none_faulty mesh_in is_malformed too_long mesh_checks answer_with import_call
    kept keep layout header_bytes start sections_bytes section_bytes cell_bytes
import-examples = tt

-- ---- the hypotheses of the claims are met

-- the mesh of the hollow triangle
abbrev pub hollow_mesh : Mesh
hollow_mesh = record {
  nodes = 0 ∷ 1 ∷ 2 ∷ [];
  elements =
      record { kind = 1; nodes = 1 ∷ 0 ∷ [] }
      ∷ record { kind = 1; nodes = 0 ∷ 2 ∷ [] }
      ∷ record { kind = 1; nodes = 2 ∷ 1 ∷ [] }
      ∷ record { kind = 1; nodes = 0 ∷ 1 ∷ [] } ∷ [];
}

pub hollow-text : MeshText hollow_mesh hollow
unfolding joined shown line text_of same_list
    then run some_bytes word gap line_end digits_at number node the_word words word_line title_line format_line count_line node_line nodes_within node_numbers element_line
    node_lines element_lines closing_within closing_line sections_within sections head_of nodes_of elements_of mesh_of value_from
hollow-text = (mesh-iff hollow_mesh hollow).1 refl

pub hollow-right : elements_right hollow_mesh ≡ true
unfolding every member repeats nodes_of_kind faulty none_faulty
hollow-right = refl

-- imports that are done, at the limits of the library and of the host calls; the latter two drop a loose node
pub record DoneImports : Type 0 where
  pub hollow-done : import_call 256 hollow (lent 40) ≡ record { answer = done 34; output = hollow_triangle ++ drop 34 (lent 40) }
  pub hollow-host-done : import_call 48 hollow (lent 40) ≡ record { answer = done 34; output = hollow_triangle ++ drop 34 (lent 40) }
  pub point-done : import_call 256 filled_and_point (lent 42) ≡ record { answer = done 40; output = filled_triangle ++ drop 40 (lent 42) }
  pub point-host-done : import_call 48 filled_and_point (lent 42) ≡ record { answer = done 40; output = filled_triangle ++ drop 40 (lent 42) }

pub done-imports : DoneImports
unfolding joined shown line text_of every same_list some tabulate without precedes
    then run some_bytes word gap line_end digits_at number node the_word words word_line title_line format_line count_line node_line nodes_within node_numbers element_line
    node_lines element_lines closing_within closing_line sections_within sections head_of nodes_of elements_of mesh_of value_from
    insert insert_all member repeats of_dimension faces_of closed_section closure
    nodes_of_kind faulty none_faulty mesh_in is_malformed too_long mesh_checks answer_with import_call
    kept keep layout header_bytes start sections_bytes section_bytes cell_bytes
done-imports = record { hollow-done = refl; hollow-host-done = refl; point-done = refl; point-host-done = refl }
