-- `line` meets its contract: the text goes on behind the bytes of the line, or it ends there.
use mathlib.Core.Path.{◌≡◌, refl}
use Prim.Native.Nat.{◌+◌, ◌-◌, ◌^◌}
use native.Mathlib.Numerals.{add-one}
use native.Mathlib.Omega.{arith}
use borrow.Author.Tests.{lt-ltb, le-ltb}
use Rattle.mesh_words.specs.Steps.{fed_line}
use Rattle.mesh_words.specs.declared.class.Class.TheVariants.{Line}
use Rattle.mesh_words.proofs.Runs.{run-below}
use Rattle.mesh_words.proofs.Told.{read-fails, read-goes}
use Rattle.mesh_words.proofs.reader.Reader.line.Goals as goal

pub overflow_add-end : goal.overflow_add-end
overflow_add-end c = omega (arith, c.run.ensures, run-below Line c.args.self.text.now c.args.self.at (2 ^ 64) (omega arith) (omega arith))

pub returns-then-self-end : goal.returns-then-self-end
unfolding fed_line
returns-then-self-end c = read-fails _ (rw (← c.run.ensures, le-ltb _ _ c.if-self-end.true))

pub returns : goal.returns
unfolding fed_line
returns c =
    let size : c.args.self.at + c.run.result - c.args.self.at ≡ c.run.result = omega arith in
    rw (size) (read-goes _ (record { is = rw (← c.run.ensures, lt-ltb _ _ c.if-self-end.false, add-one (c.args.self.at + c.run.result)); same = refl }))
