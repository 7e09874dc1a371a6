-- The import call: document 02, Note 3, and Note 7, "An import, after its 16, writes only what the sweep makes of its sheet". What it answers, and what it
-- leaves in the slice lent for the sheet.
use Rattle.std.specs.Prelude.{Bool, true, false, not, cond, ◌||◌, List, [], ◌∷◌, map, ℕ, suc, eqb, ltb, length}
use Rattle.lists.specs.Same.{every}
use Rattle.complexes.specs.Complex.{Sections, count}
use Rattle.sheet_format.specs.Layout.{layout}
use Rattle.trials.specs.Trial.{first_refusal}
use Rattle.trials.specs.Write.{WriteCalled, answer_with}
use Rattle.sheet_format.specs.Check.{some}
use Rattle.sweeps.specs.Sweep.{swept_sheet}
use Rattle.closures.specs.Closure.{element_top, cell_with, closure, member, repeats}
use Rattle.mesh_format.specs.Mesh.{Element, Mesh}
use Rattle.mesh_format.specs.Parse.{Parsed, malformed, parsed, mesh_of}

-- ---- the elements

-- the nodes of an element of this kind, 0 for every other number: 15 is a point, 1 a line, 2 a triangle, 4 a tetrahedron
unfoldable pub nodes_of_kind : ℕ → ℕ
nodes_of_kind k = cond (eqb k 15) 1 (cond (eqb k 1) 2 (cond (eqb k 2) 3 (cond (eqb k 4) 4 0)))

-- another kind, another number of nodes than its kind, a node that is not listed, or a node twice
unfoldable pub faulty : (ℕ → Bool) → Element → Bool
faulty is_listed e =
    eqb (nodes_of_kind e.kind) 0
    || not (eqb (length e.nodes) (nodes_of_kind e.kind))
    || not (every is_listed e.nodes)
    || repeats e.nodes

unfoldable pub none_faulty : (ℕ → Bool) → List Element → Bool
none_faulty is_listed es = every (λ e. not (faulty is_listed e)) es

-- every element of the mesh is right
abbrev pub elements_right : Mesh → Bool
elements_right m = none_faulty (λ v. member v m.nodes) m.elements

-- the node numbers of each element
abbrev pub node_lists : List Element → List (List ℕ)
node_lists es = map (λ e. e.nodes) es

-- the cells of the elements and their nonempty subsets, by dimension
abbrev pub complex_of : List Element → Sections
complex_of es = closure element_top (map cell_with (node_lists es))

-- ---- the checks

-- the mesh that was read, the empty mesh where the text is not of the form
unfoldable pub mesh_in : Parsed Mesh → Mesh
mesh_in malformed = record { nodes = []; elements = [] }
mesh_in (parsed m at) = m

unfoldable pub is_malformed : Parsed Mesh → Bool
is_malformed malformed = true
is_malformed (parsed m at) = false

-- the sheet of the cells K is longer than the room for it, or a count exceeds its limit
unfoldable pub too_long : ℕ → ℕ → Sections → Bool
too_long limit room K = ltb room (length (layout K)) || some (suc element_top) (λ p. ltb limit (count K p))

-- 14 to 16, for a text that tells the mesh m, at the count limit, with room for so many bytes
unfoldable pub mesh_checks : ℕ → ℕ → Parsed Mesh → List (ℕ × Bool)
mesh_checks limit room m =
    (14, is_malformed m)
    ∷ (15, not (elements_right (mesh_in m)))
    ∷ (16, too_long limit room (complex_of (mesh_in m).elements)) ∷ []

-- ---- what the call answers and leaves

-- the import call at a count limit, on a text and a slice for the sheet: 16 is about the sheet before the sweep
unfoldable pub import_call : ℕ → List ℕ → List ℕ → WriteCalled
import_call limit text sheet =
    answer_with (first_refusal (mesh_checks limit (length sheet) (mesh_of text))) (swept_sheet (complex_of (mesh_in (mesh_of text)).elements)) sheet
