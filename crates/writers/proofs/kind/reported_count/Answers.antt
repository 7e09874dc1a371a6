-- `kind::reported_count` meets its contract: of the rows passed those of another kind than 1 are counted.
use Rattle.std.proofs.Common.{◌∙◌, ap, rules, refl, arith, ℕ, length, ℤ}
use borrow.Author.Tests.{tests}
use Rattle.std.proofs.lemmas.Iterator.{YieldsList-from_range}
use Rattle.std.proofs.lemmas.Iterator.Consumers.{YieldsList-at, YieldsList-from_filter, count_from_yields_List}
use Rattle.writers.specs.Written.{kind_in}
use Rattle.writers.proofs.Rows.{is_reported, reported-filter}
use Rattle.writers.proofs.kind.reported_count.Goals as goal

pub returns : goal.returns
returns c =
    let a = c.args in
    let e : ℕ → ℤ = kind_in a.m a.w.now in
    count_from_yields_List c.filter.result c.count.result c.count.ensures.ran
    (YieldsList-from_filter _ (is_reported e) (YieldsList-at c.filter.ensures.source (YieldsList-from_range 0 a.n a.n refl (omega arith))) c.filter.ensures.closure (λ x b q k. search (rules, tests)))
    ∙ ap length (reported-filter e c.requires.2.nonneg a.n)
