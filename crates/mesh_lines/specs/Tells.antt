-- What the functions over the lines of a mesh text answer, in the words of the definitions of crate `mesh_format`.
use Rattle.std.specs.Prelude.{◌≡◌, length, take, Option, Some, None}
use Rattle.complexes.specs.Packed.{word_vertices, packed}
use Rattle.mesh_format.specs.Mesh as mesh
use Rattle.mesh_format.specs.Parse.{Parsed, malformed, parsed}
use Rattle.mesh_words.specs.Tells.{moved}
use Rattle.mesh_words.specs.declared.reader.Reader.{Reader}
use Rattle.mesh_lines.specs.declared.answer.Element.{Element}

unfoldable pub tell_element : Reader → Parsed mesh.Element → Option (Element × Reader)
tell_element r malformed = None
tell_element r (parsed e at) =
    Some (record { kind = e.kind; many = length e.nodes; packed = packed (take word_vertices e.nodes) }, moved r at)

-- x tells of the element e
pub record TellsElement (e : mesh.Element) (x : Element) : Type 0 where
  pub kind-is : x.kind ≡ e.kind
  pub many_is : x.many ≡ length e.nodes
  pub packed-is : x.packed ≡ packed (take word_vertices e.nodes)
