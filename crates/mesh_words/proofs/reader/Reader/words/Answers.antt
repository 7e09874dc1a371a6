use mathlib.Core.Path.{◌≡◌, ◌∙◌}
use Prim.Native.Nat.{◌+◌, ◌-◌}
use native.Mathlib.Omega.{arith}
use Rattle.mesh_format.specs.Parse.{word, words}
use Rattle.mesh_words.specs.Class.{some_of}
use Rattle.mesh_words.proofs.Steps.{words-none, words-stop, words-to}
use Rattle.mesh_words.proofs.Told.{skipped-none, skipped-moved, read-none, read-moved, skipped-fails, skipped-goes}
use Rattle.mesh_words.proofs.reader.Reader.words.Goals as goal

pub returns-in_err-spaces : goal.returns-in_err-spaces
returns-in_err-spaces c =
    let same = c.loop.invariant.1 in let e = rw same at (skipped-none _ c.in_err-spaces.ensures) in
    c.from_residual.ensures ∙ skipped-fails _ (c.loop.invariant.0 ∙ words-none _ _ _ (omega (arith, c.loop-test.true)) e)

pub returns-in_err-next : goal.returns-in_err-next
unfolding word some_of
returns-in_err-next c =
    let same = c.loop.invariant.1 in let m = skipped-moved _ c.in_ok-spaces.ensures in
    let e = rw same at m.is in let f = rw (m.same, same) at (read-none _ c.in_err-next.ensures) in
    c.from_residual-in_err-next.ensures ∙ skipped-fails _ (c.loop.invariant.0 ∙ words-stop _ _ e _ (omega (arith, c.loop-test.true)) f)

pub loop-preserved : goal.loop-preserved
unfolding word some_of
loop-preserved c =
    let same = c.loop.invariant.1 in let m = skipped-moved _ c.in_ok-spaces.ensures in let w = read-moved _ c.in_ok-next.ensures in
    let e = rw same at m.is in let f = rw (m.same, same) at w.is in
    let less : c.args.n - c.loop.counter - 1 ≡ c.args.n - (c.loop.counter + 1) = omega arith in
    (c.loop.invariant.0 ∙ words-to _ _ e _ (omega (arith, c.loop-test.true)) f ∙ rw less, w.same ∙ m.same ∙ same)

pub returns : goal.returns
unfolding words
returns c =
    let none : c.args.n - c.loop.counter ≡ 0 = omega (arith, c.loop-test.false) in
    skipped-goes _ (record { is = c.loop.invariant.0 ∙ rw none; same = c.loop.invariant.1 })
