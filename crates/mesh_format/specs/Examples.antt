-- Small mesh texts, and what reading them gives: with `mesh-iff` of `Accept`, which of them are of the form, and the meshes that they tell.
--     mesh-examples    every line of the table is right
use Rattle.std.specs.Prelude.{Bool, true, false, ◌&&◌, List, [], ◌∷◌, ◌++◌, ℕ, T, eqb, length}
use Rattle.lists.specs.Same.{every, same_list}
use Rattle.mesh_format.specs.Mesh.{Element, Mesh}
use Rattle.mesh_format.specs.Words.{value_from}
use Rattle.mesh_format.specs.Form.{joined}
use Rattle.mesh_format.specs.Parse.{Parsed, malformed, parsed, then, run, some_bytes, word, gap, line_end, digits_at, number, node, the_word, words, word_line, title_line, format_line, count_line, node_line, nodes_within, node_numbers, element_line, node_lines, element_lines, closing_within, closing_line, sections_within, sections, head_of, nodes_of, elements_of, mesh_of}

-- ---- a text with much that the form allows: a section passed over, carriage returns, double spaces, leading zeros, a tab for a word

abbrev pub full_text : List ℕ
full_text =
    36 ∷ 77 ∷ 101 ∷ 115 ∷ 104 ∷ 70 ∷ 111 ∷ 114 ∷ 109 ∷ 97 ∷ 116 ∷ 10 ∷
    50 ∷ 46 ∷ 50 ∷ 32 ∷ 48 ∷ 32 ∷ 56 ∷ 10 ∷
    36 ∷ 69 ∷ 110 ∷ 100 ∷ 77 ∷ 101 ∷ 115 ∷ 104 ∷ 70 ∷ 111 ∷ 114 ∷ 109 ∷ 97 ∷ 116 ∷ 10 ∷
    36 ∷ 65 ∷ 10 ∷
    36 ∷ 78 ∷ 111 ∷ 100 ∷ 101 ∷ 115 ∷ 10 ∷
    36 ∷ 69 ∷ 110 ∷ 100 ∷ 65 ∷ 66 ∷ 10 ∷
    36 ∷ 69 ∷ 110 ∷ 100 ∷ 65 ∷ 32 ∷ 10 ∷
    36 ∷ 69 ∷ 110 ∷ 100 ∷ 65 ∷ 13 ∷ 10 ∷
    36 ∷ 78 ∷ 111 ∷ 100 ∷ 101 ∷ 115 ∷ 13 ∷ 10 ∷
    52 ∷ 10 ∷
    49 ∷ 32 ∷ 48 ∷ 32 ∷ 48 ∷ 32 ∷ 48 ∷ 10 ∷
    50 ∷ 32 ∷ 32 ∷ 49 ∷ 32 ∷ 45 ∷ 101 ∷ 32 ∷ 120 ∷ 13 ∷ 10 ∷
    48 ∷ 48 ∷ 51 ∷ 32 ∷ 48 ∷ 32 ∷ 49 ∷ 32 ∷ 48 ∷ 10 ∷
    48 ∷ 32 ∷ 48 ∷ 32 ∷ 48 ∷ 32 ∷ 49 ∷ 10 ∷
    36 ∷ 69 ∷ 110 ∷ 100 ∷ 78 ∷ 111 ∷ 100 ∷ 101 ∷ 115 ∷ 10 ∷
    36 ∷ 69 ∷ 108 ∷ 101 ∷ 109 ∷ 101 ∷ 110 ∷ 116 ∷ 115 ∷ 10 ∷
    50 ∷ 10 ∷
    49 ∷ 32 ∷ 49 ∷ 53 ∷ 32 ∷ 50 ∷ 32 ∷ 45 ∷ 49 ∷ 32 ∷ 9 ∷ 32 ∷ 51 ∷ 10 ∷
    57 ∷ 57 ∷ 57 ∷ 57 ∷ 57 ∷ 57 ∷ 57 ∷ 57 ∷ 57 ∷ 32 ∷ 48 ∷ 50 ∷ 32 ∷ 48 ∷ 32 ∷ 50 ∷ 32 ∷ 49 ∷ 32 ∷ 32 ∷ 51 ∷ 10 ∷
    36 ∷ 69 ∷ 110 ∷ 100 ∷ 69 ∷ 108 ∷ 101 ∷ 109 ∷ 101 ∷ 110 ∷ 116 ∷ 115 ∷ 10 ∷ []

abbrev pub full_mesh : Mesh
full_mesh = record {
  nodes = 1 ∷ 2 ∷ 3 ∷ 0 ∷ [];
  elements = record { kind = 15; nodes = 3 ∷ [] } ∷ record { kind = 2; nodes = 2 ∷ 1 ∷ 3 ∷ [] } ∷ [];
}

-- ---- the lines of a small text

-- `$MeshFormat`
abbrev pub open_format : List ℕ
open_format = 36 ∷ 77 ∷ 101 ∷ 115 ∷ 104 ∷ 70 ∷ 111 ∷ 114 ∷ 109 ∷ 97 ∷ 116 ∷ 10 ∷ []

-- `2.2 0 8`
abbrev pub format : List ℕ
format = 50 ∷ 46 ∷ 50 ∷ 32 ∷ 48 ∷ 32 ∷ 56 ∷ 10 ∷ []

-- `$EndMeshFormat`
abbrev pub end_format : List ℕ
end_format = 36 ∷ 69 ∷ 110 ∷ 100 ∷ 77 ∷ 101 ∷ 115 ∷ 104 ∷ 70 ∷ 111 ∷ 114 ∷ 109 ∷ 97 ∷ 116 ∷ 10 ∷ []

-- `$Nodes`
abbrev pub open_nodes : List ℕ
open_nodes = 36 ∷ 78 ∷ 111 ∷ 100 ∷ 101 ∷ 115 ∷ 10 ∷ []

-- `1`
abbrev one : List ℕ
one = 49 ∷ 10 ∷ []

-- `7 0 0 0`
abbrev node7 : List ℕ
node7 = 55 ∷ 32 ∷ 48 ∷ 32 ∷ 48 ∷ 32 ∷ 48 ∷ 10 ∷ []

-- `$EndNodes`
abbrev pub end_nodes : List ℕ
end_nodes = 36 ∷ 69 ∷ 110 ∷ 100 ∷ 78 ∷ 111 ∷ 100 ∷ 101 ∷ 115 ∷ 10 ∷ []

-- `$Elements`
abbrev pub open_elements : List ℕ
open_elements = 36 ∷ 69 ∷ 108 ∷ 101 ∷ 109 ∷ 101 ∷ 110 ∷ 116 ∷ 115 ∷ 10 ∷ []

-- `0`
abbrev none : List ℕ
none = 48 ∷ 10 ∷ []

-- `$EndElements`
abbrev pub end_elements : List ℕ
end_elements = 36 ∷ 69 ∷ 110 ∷ 100 ∷ 69 ∷ 108 ∷ 101 ∷ 109 ∷ 101 ∷ 110 ∷ 116 ∷ 115 ∷ 10 ∷ []

-- ---- lines put in their place, or before `$Nodes`

-- `$`
abbrev dollar : List ℕ
dollar = 36 ∷ 10 ∷ []

-- `$ A`
abbrev dollar_space : List ℕ
dollar_space = 36 ∷ 32 ∷ 65 ∷ 10 ∷ []

-- `$A`
abbrev open_a : List ℕ
open_a = 36 ∷ 65 ∷ 10 ∷ []

-- `$EndA`
abbrev end_a : List ℕ
end_a = 36 ∷ 69 ∷ 110 ∷ 100 ∷ 65 ∷ 10 ∷ []

-- `$EndA\r`
abbrev end_a_returned : List ℕ
end_a_returned = 36 ∷ 69 ∷ 110 ∷ 100 ∷ 65 ∷ 13 ∷ 10 ∷ []

-- `$EndAB`
abbrev end_ab : List ℕ
end_ab = 36 ∷ 69 ∷ 110 ∷ 100 ∷ 65 ∷ 66 ∷ 10 ∷ []

-- `$End`
abbrev open_end : List ℕ
open_end = 36 ∷ 69 ∷ 110 ∷ 100 ∷ 10 ∷ []

-- `$EndEnd`
abbrev end_end : List ℕ
end_end = 36 ∷ 69 ∷ 110 ∷ 100 ∷ 69 ∷ 110 ∷ 100 ∷ 10 ∷ []

-- `$EndEndNodes`
abbrev end_end_nodes : List ℕ
end_end_nodes = 36 ∷ 69 ∷ 110 ∷ 100 ∷ 69 ∷ 110 ∷ 100 ∷ 78 ∷ 111 ∷ 100 ∷ 101 ∷ 115 ∷ 10 ∷ []

-- `2.20 0 8`
abbrev other_version : List ℕ
other_version = 50 ∷ 46 ∷ 50 ∷ 48 ∷ 32 ∷ 48 ∷ 32 ∷ 56 ∷ 10 ∷ []

-- `2.2 00 8`
abbrev other_zero : List ℕ
other_zero = 50 ∷ 46 ∷ 50 ∷ 32 ∷ 48 ∷ 48 ∷ 32 ∷ 56 ∷ 10 ∷ []

-- ` 2.2 0 8`
abbrev space_before : List ℕ
space_before = 32 ∷ 50 ∷ 46 ∷ 50 ∷ 32 ∷ 48 ∷ 32 ∷ 56 ∷ 10 ∷ []

-- `2.2 0 8 `
abbrev space_behind : List ℕ
space_behind = 50 ∷ 46 ∷ 50 ∷ 32 ∷ 48 ∷ 32 ∷ 56 ∷ 32 ∷ 10 ∷ []

-- `2.2   0  8`
abbrev spaces_between : List ℕ
spaces_between = 50 ∷ 46 ∷ 50 ∷ 32 ∷ 32 ∷ 32 ∷ 48 ∷ 32 ∷ 32 ∷ 56 ∷ 10 ∷ []

-- `2.2 0 8\r`
abbrev returned : List ℕ
returned = 50 ∷ 46 ∷ 50 ∷ 32 ∷ 48 ∷ 32 ∷ 56 ∷ 13 ∷ 10 ∷ []

-- `2.2 0 8\r\r`
abbrev returned_twice : List ℕ
returned_twice = 50 ∷ 46 ∷ 50 ∷ 32 ∷ 48 ∷ 32 ∷ 56 ∷ 13 ∷ 13 ∷ 10 ∷ []

-- `000000001`
abbrev nine_digits : List ℕ
nine_digits = 48 ∷ 48 ∷ 48 ∷ 48 ∷ 48 ∷ 48 ∷ 48 ∷ 48 ∷ 49 ∷ 10 ∷ []

-- `0000000001`
abbrev ten_digits : List ℕ
ten_digits = 48 ∷ 48 ∷ 48 ∷ 48 ∷ 48 ∷ 48 ∷ 48 ∷ 48 ∷ 48 ∷ 49 ∷ 10 ∷ []

-- `999999999`
abbrev most_lines : List ℕ
most_lines = 57 ∷ 57 ∷ 57 ∷ 57 ∷ 57 ∷ 57 ∷ 57 ∷ 57 ∷ 57 ∷ 10 ∷ []

-- `65535 0 0 0`
abbrev node65535 : List ℕ
node65535 = 54 ∷ 53 ∷ 53 ∷ 51 ∷ 53 ∷ 32 ∷ 48 ∷ 32 ∷ 48 ∷ 32 ∷ 48 ∷ 10 ∷ []

-- `65536 0 0 0`
abbrev node65536 : List ℕ
node65536 = 54 ∷ 53 ∷ 53 ∷ 51 ∷ 54 ∷ 32 ∷ 48 ∷ 32 ∷ 48 ∷ 32 ∷ 48 ∷ 10 ∷ []

-- `7 0 0`
abbrev two_words : List ℕ
two_words = 55 ∷ 32 ∷ 48 ∷ 32 ∷ 48 ∷ 10 ∷ []

-- `1 15 1 -1 7`
abbrev element : List ℕ
element = 49 ∷ 32 ∷ 49 ∷ 53 ∷ 32 ∷ 49 ∷ 32 ∷ 45 ∷ 49 ∷ 32 ∷ 55 ∷ 10 ∷ []

-- `1 99 0 65535`
abbrev strange65535 : List ℕ
strange65535 = 49 ∷ 32 ∷ 57 ∷ 57 ∷ 32 ∷ 48 ∷ 32 ∷ 54 ∷ 53 ∷ 53 ∷ 51 ∷ 53 ∷ 10 ∷ []

-- `1 99 0 65536`
abbrev strange65536 : List ℕ
strange65536 = 49 ∷ 32 ∷ 57 ∷ 57 ∷ 32 ∷ 48 ∷ 32 ∷ 54 ∷ 53 ∷ 53 ∷ 51 ∷ 54 ∷ 10 ∷ []

-- `1 15 2 0 7`
abbrev all_tags : List ℕ
all_tags = 49 ∷ 32 ∷ 49 ∷ 53 ∷ 32 ∷ 50 ∷ 32 ∷ 48 ∷ 32 ∷ 55 ∷ 10 ∷ []

-- `1 15 3 0 7`
abbrev tags_missing : List ℕ
tags_missing = 49 ∷ 32 ∷ 49 ∷ 53 ∷ 32 ∷ 51 ∷ 32 ∷ 48 ∷ 32 ∷ 55 ∷ 10 ∷ []

-- `1 15 999999999 0 7`
abbrev most_tags : List ℕ
most_tags = 49 ∷ 32 ∷ 49 ∷ 53 ∷ 32 ∷ 57 ∷ 57 ∷ 57 ∷ 57 ∷ 57 ∷ 57 ∷ 57 ∷ 57 ∷ 57 ∷ 32 ∷ 48 ∷ 32 ∷ 55 ∷ 10 ∷ []

-- `$EndElements`, with no line feed
abbrev end_unfed : List ℕ
end_unfed = 36 ∷ 69 ∷ 110 ∷ 100 ∷ 69 ∷ 108 ∷ 101 ∷ 109 ∷ 101 ∷ 110 ∷ 116 ∷ 115 ∷ []

-- ` `, with no line feed
abbrev space : List ℕ
space = 32 ∷ []

-- ---- the table

-- a text and what reading it gives
pub record Row : Type 0 where
  pub text : List ℕ
  pub outcome : Parsed Mesh

abbrev tells : List (List ℕ) → Mesh → Row
tells lines m = record { text = joined lines; outcome = parsed m (length (joined lines)) }

abbrev refused : List (List ℕ) → Row
refused lines = record { text = joined lines; outcome = malformed }

-- the small text with these lines before `$Nodes`
abbrev before : List (List ℕ) → List (List ℕ)
before lines =
    (open_format ∷ format ∷ end_format ∷ lines) ++ (open_nodes ∷ one ∷ node7 ∷ end_nodes ∷ open_elements ∷ none ∷ end_elements ∷ [])

-- .. with this line for `2.2 0 8`
abbrev formatted : List ℕ → List (List ℕ)
formatted line = open_format ∷ line ∷ end_format ∷ open_nodes ∷ one ∷ node7 ∷ end_nodes ∷ open_elements ∷ none ∷ end_elements ∷ []

-- .. with this count of nodes and this line of a node
abbrev noded : List ℕ → List ℕ → List (List ℕ)
noded count line = open_format ∷ format ∷ end_format ∷ open_nodes ∷ count ∷ line ∷ end_nodes ∷ open_elements ∷ none ∷ end_elements ∷ []

-- .. with one element, of this line
abbrev elemented : List ℕ → List (List ℕ)
elemented line = open_format ∷ format ∷ end_format ∷ open_nodes ∷ one ∷ node7 ∷ end_nodes ∷ open_elements ∷ one ∷ line ∷ end_elements ∷ []

-- .. ended so
abbrev ended : List (List ℕ) → List (List ℕ)
ended lines = (open_format ∷ format ∷ end_format ∷ open_nodes ∷ one ∷ node7 ∷ end_nodes ∷ open_elements ∷ none ∷ []) ++ lines

-- one node and no element
abbrev node_alone : ℕ → Mesh
node_alone v = record { nodes = v ∷ []; elements = [] }

-- node 7 and one element
abbrev element_alone : ℕ → List ℕ → Mesh
element_alone kind nodes = record { nodes = 7 ∷ []; elements = record { kind = kind; nodes = nodes } ∷ [] }

unfoldable pub table : List Row
table =
    tells (full_text ∷ []) full_mesh
    ∷ tells (before []) (node_alone 7)
    ∷ refused (before (dollar ∷ []))
    ∷ refused (before (dollar_space ∷ end_a ∷ []))
    ∷ tells (before (open_end ∷ end_end ∷ [])) (node_alone 7)
    ∷ tells (before (end_nodes ∷ node7 ∷ end_end_nodes ∷ [])) (node_alone 7)
    ∷ refused (before (open_elements ∷ end_elements ∷ []))
    ∷ refused (before (open_format ∷ end_format ∷ []))
    ∷ refused (before (open_a ∷ end_ab ∷ []))
    ∷ tells (before (open_a ∷ end_ab ∷ end_a_returned ∷ [])) (node_alone 7)
    ∷ tells (before (open_a ∷ open_nodes ∷ end_a ∷ open_a ∷ end_a ∷ [])) (node_alone 7)
    ∷ refused (formatted other_version)
    ∷ refused (formatted other_zero)
    ∷ refused (formatted space_before)
    ∷ refused (formatted space_behind)
    ∷ tells (formatted spaces_between) (node_alone 7)
    ∷ tells (formatted returned) (node_alone 7)
    ∷ refused (formatted returned_twice)
    ∷ tells (noded nine_digits node7) (node_alone 7)
    ∷ refused (noded ten_digits node7)
    ∷ refused (noded most_lines node7)
    ∷ tells (noded one node65535) (node_alone 65535)
    ∷ refused (noded one node65536)
    ∷ refused (noded one two_words)
    ∷ tells (elemented element) (element_alone 15 (7 ∷ []))
    ∷ tells (elemented strange65535) (element_alone 99 (65535 ∷ []))
    ∷ refused (elemented strange65536)
    ∷ tells (elemented all_tags) (element_alone 15 [])
    ∷ refused (elemented tags_missing)
    ∷ refused (elemented most_tags)
    ∷ refused (ended (end_unfed ∷ []))
    ∷ refused (ended (end_elements ∷ space ∷ []))
    ∷ []

unfoldable pub same_element : Element → Element → Bool
same_element e f = eqb e.kind f.kind && same_list eqb e.nodes f.nodes

unfoldable pub same_outcome : Parsed Mesh → Parsed Mesh → Bool
same_outcome malformed malformed = true
same_outcome malformed (parsed n b) = false
same_outcome (parsed m a) malformed = false
same_outcome (parsed m a) (parsed n b) = same_list eqb m.nodes n.nodes && same_list same_element m.elements n.elements && eqb a b

unfoldable pub good : Row → Bool
good row = same_outcome (mesh_of row.text) row.outcome

pub mesh-examples : T (every good table)
unfolding every table good same_outcome same_element same_list joined
    then run some_bytes word gap line_end value_from digits_at number node the_word words word_line title_line format_line count_line node_line
    nodes_within node_numbers element_line node_lines element_lines closing_within closing_line sections_within sections head_of nodes_of elements_of mesh_of
mesh-examples = tt
