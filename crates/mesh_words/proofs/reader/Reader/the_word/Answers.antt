-- `the_word` meets its contract: a word is read and compared.
use mathlib.Core.Path.{◌≡◌, sym, ◌∙◌}
use mathlib.Core.Bool.{true, false}
use Rattle.mesh_format.specs.Parse.{word, the_word, same_word}
use Rattle.mesh_words.specs.Class.{some_of}
use Rattle.mesh_words.proofs.Bytes.{same_is}
use Rattle.mesh_words.proofs.Steps.{fails, goes}
use Rattle.mesh_words.proofs.Told.{read-none, read-moved, skipped-fails, skipped-goes}
use Rattle.mesh_words.proofs.reader.Reader.the_word.Goals as goal

pub returns-in_err-word : goal.returns-in_err-word
unfolding the_word word some_of
returns-in_err-word c = c.from_residual.ensures ∙ skipped-fails _ (fails _ (read-none _ c.in_err-word.ensures))

pub returns-then-eq : goal.returns-then-eq
unfolding the_word word some_of
returns-then-eq c =
    let m = read-moved _ c.in_ok-word.ensures in
    let same : same_word c.in_ok-word.word.now c.args.w.now ≡ true = sym (same_is _ _) ∙ sym c.eq.ensures ∙ c.if-eq.true in
    skipped-goes _ (record { is = goes _ m.is (rw same); same = m.same })

pub returns-else-eq : goal.returns-else-eq
unfolding the_word word some_of
returns-else-eq c =
    let m = read-moved _ c.in_ok-word.ensures in
    let same : same_word c.in_ok-word.word.now c.args.w.now ≡ false = sym (same_is _ _) ∙ sym c.eq.ensures ∙ c.if-eq.false in
    skipped-fails _ (goes _ m.is (rw same))
