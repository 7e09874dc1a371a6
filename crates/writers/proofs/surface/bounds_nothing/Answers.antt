-- `surface::bounds_nothing` meets its contract: the rows are tested one after another.
use Rattle.std.proofs.Common.{◌∙◌, rules, refl, arith, ℕ, Bool, not, ℤ, List}
use borrow.Author.Tests.{tests}
use Rattle.std.proofs.lemmas.Iterator.{YieldsList-from_range}
use Rattle.std.proofs.lemmas.Iterator.Search.{any_from_yields_List}
use Rattle.integers.specs.Division.{divides}
use Rattle.reports.specs.Surface.{bounds_nothing}
use Rattle.matrix_lines.specs.declared.matrix.Matrix.{Matrix}
use Rattle.writers.specs.Written.{kind_in}
use Rattle.writers.proofs.Rows.{some-any}
use Rattle.writers.proofs.Terms.{row_times}
use Rattle.writers.proofs.surface.bounds_nothing.Goals as goal

-- the kind of row i does not divide the row times the chain
abbrev indivisible : Matrix → Matrix → List ℤ → List ℤ → ℕ → Bool
indivisible m q w z i = not (divides (kind_in m w i) (row_times q w z i))

pub returns : goal.returns
unfolding bounds_nothing
returns c =
    let a = c.args in
    let m = a.reduced.workspace.matrix in
    let lines = m.lines in
    let test : ℕ → Bool = indivisible m a.reduced.workspace.row_follower a.w.now a.chain.now in
    any_from_yields_List test _ _ c.any.result c.any.ensures.ran (YieldsList-from_range 0 lines lines refl (omega arith)) (λ x b q k. search (rules, tests))
    ∙ some-any test lines
