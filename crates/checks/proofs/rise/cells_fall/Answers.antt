-- `cells_fall` meets its contract: the test of each cell but the last is that of the clause.
use mathlib.Core.Path.{ap, ◌∙◌}
use mathlib.Core.Bool.{Bool, not}
use Prim.Native.Nat.{ℕ, suc}
use native.Mathlib.Numerals.{sub-one}
use Rattle.std.proofs.Common.{rules, tests, refl, arith}
use Rattle.std.proofs.lemmas.Iterator.{YieldsList-from_range}
use Rattle.complexes.specs.Cell.{precedes}
use Rattle.sheet_format.specs.Check.{some}
use Rattle.cells.specs.Section.{cell_in}
use Rattle.checks.proofs.Scan.{any-some}
use Rattle.checks.proofs.Sections.{cells-fall}
use Rattle.checks.proofs.rise.cells_fall.Goals as goal

pub returns : goal.returns
returns c =
    let s = c.args.s.now in let section = c.of-section.result in let pairs = c.saturating_sub.result in
    let falls : ℕ → Bool = λ i. not (precedes (cell_in s section i) (cell_in s section (suc i))) in
    any-some _ _ _ pairs falls c.any.ensures.ran (YieldsList-from_range 0 pairs pairs refl (omega arith))
    (λ x q k. search (rules, tests)) (λ x q k. search (rules, tests))
    ∙ ap (λ n. some n falls) (c.saturating_sub.ensures ∙ sub-one section.many)
    ∙ cells-fall c.of-section.ensures
