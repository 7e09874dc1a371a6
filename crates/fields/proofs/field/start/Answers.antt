use borrow.Author.Rules.{rules}
use mathlib.Core.Path.{refl}
use Prim.Native.Nat.{◌+◌, ◌*◌, ◌≤◌}
use native.Mathlib.Nat.{le_antisymm}
use native.Mathlib.Numerals.{add-one}
use native.Mathlib.Omega.{arith}
use Rattle.sheet_format.specs.Layout.{start}
use Rattle.fields.proofs.Offset.{most, few}
use Rattle.fields.proofs.field.start.Goals as goal
use Rattle.fields.proofs.field.start.Goals.{After-count}

-- the vertex numbers of section q
section : (c : After-count) → (c.loop-q.q + 1) * c.count.result ≤ most
section c = few (c.loop-q.q + 1) c.count.result (omega arith) (omega arith)

pub loop-q-init : goal.loop-q-init
unfolding start
loop-q-init c = (search rules, refl, search rules)

pub overflow_mul-at : goal.overflow_mul-at
overflow_mul-at c = omega (arith, section c)

pub overflow_mul-at-in-loop-q : goal.overflow_mul-at-in-loop-q
overflow_mul-at-in-loop-q c = omega (arith, section c)

pub overflow_add-at-in-loop-q : goal.overflow_add-at-in-loop-q
overflow_add-at-in-loop-q c = omega (arith, section c)

pub loop-q-preserved : goal.loop-q-preserved
unfolding start
loop-q-preserved c = (search rules, simp add-one (cc), omega (arith, section c))

pub returns : goal.returns
returns c =
    let end = le_antisymm c.loop-q.invariant.0 c.loop-q-test.false in
    record { is = rw end at c.loop-q.invariant.1; below = omega arith }
