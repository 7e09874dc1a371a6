-- `some_of` meets its contract: bytes are read unless none of the class stands there.
use mathlib.Core.Path.{◌≡◌, refl, sym, ◌∙◌}
use Prim.Native.Nat.{◌+◌, ◌-◌, ◌≤◌}
use native.Mathlib.Omega.{arith}
use lib.ListN.{length}
use Rattle.mesh_words.proofs.Bytes.{some-none, some-all}
use Rattle.mesh_words.proofs.Runs.{run-inside}
use Rattle.mesh_words.proofs.Told.{read-fails, read-goes}
use Rattle.mesh_words.proofs.reader.Reader.some_of.Goals as goal
use Rattle.mesh_words.proofs.reader.Reader.some_of.Goals.{Else-many-eq0}

inside : (c : Else-many-eq0) → c.args.self.at + c.run-many.result ≤ length c.args.self.text.now
inside c = rw (c.run-many.ensures) (run-inside c.args.class c.args.self.text.now c.args.self.at (omega (arith, c.if-many-eq0.false, c.run-many.ensures)))

pub returns-then-many-eq0 : goal.returns-then-many-eq0
returns-then-many-eq0 c =
    read-fails _ (some-none c.args.self.text.now c.args.self.at c.args.class (sym c.run-many.ensures ∙ c.if-many-eq0.true))

pub overflow_add-at : goal.overflow_add-at
overflow_add-at c = omega (arith, inside (goal.at.overflow_add-at c).Else-many-eq0)

pub slice_bounds-result-end : goal.slice_bounds-result-end
slice_bounds-result-end c = inside (goal.at.slice_bounds-result-end c).Else-many-eq0

pub returns : goal.returns
returns c =
    let e = c.run-many.ensures in let size : c.args.self.at + c.run-many.result - c.args.self.at ≡ c.run-many.result = omega arith in
    rw (size, e) (read-goes _ (record { is = some-all c.args.self.text.now c.args.self.at c.args.class (λ z. c.if-many-eq0.false (e ∙ z)); same = refl }))
