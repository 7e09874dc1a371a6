-- `run` meets its contract: it counts the bytes as far as they are of the class.
use mathlib.Core.Path.{◌∙◌}
use Rattle.mesh_words.specs.Class.{in_class}
use Rattle.mesh_words.proofs.Runs.{run_is}
use Rattle.mesh_words.proofs.reader.Reader.run.Goals as goal

pub returns : goal.returns
returns c = c.front.ensures ∙ rw (c.rest.ensures, run_is (in_class c.args.class) _)
