-- `cells_do_not_rise` meets its contract: the test of each section is that of the definition.
use mathlib.Core.Path.{refl}
use mathlib.Core.Bool.{not}
use Prim.Native.Nat.{suc, pred}
use Rattle.std.proofs.Common.{rules, tests}
use Rattle.std.proofs.lemmas.Iterator.{YieldsList-from_range}
use Rattle.complexes.specs.Cell.{precedes}
use Rattle.complexes.specs.Complex.{count, cell}
use Rattle.sheet_format.specs.Layout.{top}
use Rattle.sheet_format.specs.Check.{sections_of, some, cells_do_not_rise}
use Rattle.checks.proofs.Scan.{any-some}
use Rattle.checks.proofs.check.cells_do_not_rise.Goals as goal

pub returns : goal.returns
unfolding cells_do_not_rise
returns c =
    let K = sections_of c.args.s.now in
    any-some _ _ _ (suc top) (λ p. some (pred (count K p)) (λ i. not (precedes (cell K p i) (cell K p (suc i))))) c.any.ensures.ran
    (YieldsList-from_range 0 (suc top) (suc top) refl refl)
    (λ x q k. search (rules, tests)) (λ x q k. search (rules, tests))
