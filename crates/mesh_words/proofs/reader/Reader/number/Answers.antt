-- `number` meets its contract: what is read is the number, and the reader stands behind it.
use mathlib.Core.Path.{◌≡◌, refl, ◌∙◌}
use Rattle.mesh_words.proofs.Told.{at-none, at-some, read-fails, read-goes}
use Rattle.mesh_words.proofs.reader.Reader.number.Goals as goal

pub returns-in_err-value : goal.returns-in_err-value
returns-in_err-value c = c.from_residual.ensures ∙ read-fails _ (at-none c.in_err-value.ensures)

pub returns : goal.returns
returns c = read-goes _ (record { is = at-some c.in_ok-value.ensures; same = refl })
