-- `scans::remainder::row_indivisible` meets its contract: the entries are tested one after another.
use Rattle.std.proofs.Common.{◌∙◌, sym, refl, rules}
use borrow.Author.Tests.{tests}
use Prim.Native.Nat.{◌-◌}
use Rattle.std.proofs.lemmas.Iterator.{YieldsList-from_range}
use Rattle.std.proofs.lemmas.Iterator.Search.{any_from_yields_List}
use Rattle.matrix_lines.specs.Matrices.{contents}
use Rattle.scans.proofs.Tests.{indivisible, any-range, row_indivisible-any, indivisible-told}
use Rattle.scans.proofs.remainder.row_indivisible.Goals as goal

pub returns : goal.returns
returns c =
    let a = c.args in
    let A = contents a.m a.w.now in
    any_from_yields_List (λ b. indivisible a.d (A a.i b)) _ _ c.any.result c.any.ensures.ran (YieldsList-from_range a.from a.m.width (a.m.width - a.from) refl refl)
    (λ x b q k. (search rules fits 4000, search (rules, tests, indivisible-told a.d c.ranges.d c.requires.i_lt_lines.2) fits 8000))
    ∙ any-range (λ b. indivisible a.d (A a.i b)) (a.m.width - a.from) a.from
    ∙ sym (row_indivisible-any A a.d a.i (a.m.width - a.from) a.from)
