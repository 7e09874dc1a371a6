-- `node_number` meets its contract: a number is read and compared with the bound.
use mathlib.Core.Path.{◌∙◌}
use borrow.Author.Tests.{lt-ltb, le-ltb}
use Rattle.mesh_format.specs.Parse.{node}
use Rattle.mesh_words.proofs.Steps.{fails, goes}
use Rattle.mesh_words.proofs.Told.{read-none, read-moved, read-fails, read-goes}
use Rattle.mesh_words.proofs.reader.Reader.node_number.Goals as goal

pub returns-in_err-v : goal.returns-in_err-v
unfolding node
returns-in_err-v c = c.from_residual.ensures ∙ read-fails _ (fails _ (read-none _ c.in_err-v.ensures))

pub returns-then-v-lt-NODE_BOUND : goal.returns-then-v-lt-NODE_BOUND
unfolding node
returns-then-v-lt-NODE_BOUND c =
    let m = read-moved _ c.in_ok-v.ensures in
    read-goes _ (record { is = goes _ m.is (rw (lt-ltb _ _ c.if-v-lt-NODE_BOUND.true)); same = m.same })

pub returns-else-v-lt-NODE_BOUND : goal.returns-else-v-lt-NODE_BOUND
unfolding node
returns-else-v-lt-NODE_BOUND c =
    let m = read-moved _ c.in_ok-v.ensures in
    read-fails _ (goes _ m.is (rw (le-ltb _ _ c.if-v-lt-NODE_BOUND.false)))
