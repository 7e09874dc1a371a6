-- `rises` meets its contract: each vertex from the second on is above the one before it, or one is not.
use mathlib.Core.Path.{refl}
use Prim.Native.Nat.{◌-◌}
use Rattle.std.proofs.Common.{rules, tests}
use Rattle.std.proofs.lemmas.Iterator.{YieldsList-from_range, cases_from_all}
use Rattle.cells.proofs.Cells.{Up, Down, rises-told}
use Rattle.cells.proofs.cell.rises.Goals as goal

pub returns : goal.returns
returns c =
    let a = c.args in let s = a.s.now in
    rises-told s a.n a.at c.all.result
    (cases_from_all _ _ c.all.result (Up s a.at) (Down s a.at) c.all.ensures.ran (YieldsList-from_range 1 a.n (a.n - 1) refl refl)
    (λ x q k. search (rules, tests)) (λ x q k. search (rules, tests)))
