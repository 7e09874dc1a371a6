-- `vertices_fall` meets its contract: the test of each cell is that of the clause.
use mathlib.Core.Path.{◌∙◌}
use mathlib.Core.Bool.{not}
use Rattle.std.proofs.Common.{rules, tests, refl, arith}
use Rattle.std.proofs.lemmas.Iterator.{YieldsList-from_range}
use Rattle.complexes.specs.Cell.{rises}
use Rattle.cells.specs.Section.{cell_in}
use Rattle.checks.proofs.Scan.{any-some}
use Rattle.checks.proofs.Sections.{vertices-fall}
use Rattle.checks.proofs.rise.vertices_fall.Goals as goal

pub returns : goal.returns
returns c =
    let s = c.args.s.now in let section = c.of-section.result in
    any-some _ _ _ section.many (λ i. not (rises (cell_in s section i))) c.any.ensures.ran (YieldsList-from_range 0 section.many section.many refl (omega arith))
    (λ x q k. search (rules, tests)) (λ x q k. search (rules, tests))
    ∙ vertices-fall c.of-section.ensures
