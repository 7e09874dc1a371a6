-- `stands` meets its contract: `stands_at` makes the same test of the position.
use Rattle.std.proofs.Common.{rules}
use Rattle.mesh_words.specs.Class.{stands_at}
use Rattle.mesh_words.proofs.reader.Reader.stands.Goals as goal

pub returns : goal.returns
unfolding stands_at
returns c = search rules
