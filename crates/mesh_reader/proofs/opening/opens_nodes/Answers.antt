-- `opens_nodes` meets its contract: the words are compared.
use mathlib.Core.Path.{◌∙◌}
use Rattle.mesh_words.proofs.Bytes.{same_is}
use Rattle.mesh_reader.proofs.opening.opens_nodes.Goals as goal

pub returns : goal.returns
returns c = c.eq.ensures ∙ same_is _ _
