-- `quotient::quotient` meets its contract: `floor` of 0 is 0, and by 1 the number itself.
use mathlib.Core.Path.{sym, ap, ap₂, subst, ◌∙◌}
use Prim.Native.Nat.{◌≤◌, zero-le}
use lib.IntN.{ℤ, nat_abs}
use mir.Syntax.{w64}
use mir.Facts.{to_z-of_z}
use Rattle.limits.specs.Limits.{entry_limit}
use Rattle.integers.specs.Division.{floor}
use Rattle.integers.proofs.Floor.{floor-zero, floor-one}
use Rattle.machine_words.specs.Read.{of-bits}
use Rattle.machine_words.proofs.Division.{floor-small}
use Rattle.numbers.proofs.quotient.quotient.Goals as goal
use Rattle.numbers.proofs.quotient.quotient.Goals.{Start}

pub returns-then-x-eq0 : goal.returns-then-x-eq0
returns-then-x-eq0 c =
    let s = (goal.at.returns-then-x-eq0 c).Start in
    (sym (ap (λ (x : ℤ). floor x s.args.d) (of-bits s.ranges.x c.if-x-eq0.true) ∙ floor-zero s.args.d), zero-le)

pub returns-then-d-eq1 : goal.returns-then-d-eq1
returns-then-d-eq1 c =
    let s = (goal.at.returns-then-d-eq1 c).Start in
    let same = to_z-of_z s.ranges.x in (
      same ∙ sym (ap (λ (d : ℤ). floor s.args.x d) (of-bits s.ranges.d c.if-d-eq1.true) ∙ floor-one s.args.x),
      subst (λ (x : ℤ). nat_abs x ≤ entry_limit) (sym same) s.requires.1,
    )

pub returns : goal.returns
returns c =
    let s = (goal.at.returns c).Start in
    let e = to_z-of_z {w = w64} {z = c.floor.result} (record { sfits = c.floor.type_inv }) ∙ c.floor.ensures ∙ ap₂ floor (to_z-of_z s.ranges.x) (to_z-of_z s.ranges.d) in
    (e, floor-small s.args.x s.args.d _ s.requires.1 e)
