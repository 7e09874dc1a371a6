-- `spaces` meets its contract: it reads bytes of the class of spaces.
use mathlib.Core.Path.{refl, ◌∙◌}
use Rattle.mesh_format.specs.Parse.{gap}
use Rattle.mesh_words.specs.Class.{some_of}
use Rattle.mesh_words.specs.Steps.{skip}
use Rattle.mesh_words.proofs.Steps.{fails, goes}
use Rattle.mesh_words.proofs.Told.{read-none, read-moved, skipped-fails, skipped-goes}
use Rattle.mesh_words.proofs.reader.Reader.spaces.Goals as goal

pub returns-in_err-next : goal.returns-in_err-next
unfolding skip gap some_of
returns-in_err-next c = c.from_residual.ensures ∙ skipped-fails _ (fails _ (read-none _ c.in_err-next.ensures))

pub returns : goal.returns
unfolding skip gap some_of
returns c = let m = read-moved _ c.in_ok-next.ensures in skipped-goes _ (record { is = goes _ m.is refl; same = m.same })
