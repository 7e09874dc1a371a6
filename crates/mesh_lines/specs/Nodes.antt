-- The node numbers of an element line.
use Rattle.std.specs.Prelude.{List, ℕ}
use Rattle.mesh_format.specs.Mesh.{Element}
use Rattle.mesh_format.specs.Parse.{Parsed, parsed, then, node_numbers}

-- the node numbers of an element of this kind
unfoldable pub element_nodes : ℕ → List ℕ → ℕ → Parsed Element
element_nodes kind s at = then (node_numbers s at) (λ nodes next. parsed (record { kind = kind; nodes = nodes }) next)
