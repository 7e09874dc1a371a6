-- `loose_node` meets its contract: `any` tells whether some vertex is loose.
use borrow.Author.Rules.{rules}
use mathlib.Core.Path.{refl, ap, sym, ◌∙◌}
use Prim.Native.Nat.{ℕ}
use native.Mathlib.Omega.{arith}
use Rattle.std.proofs.lemmas.Iterator.{YieldsList-from_range}
use Rattle.sheet_format.specs.Check.{some, sections_of, loose}
use Rattle.checks.proofs.Scan.{any-some}
use Rattle.loose_nodes.proofs.LooseByMap.{loose_node-is, loose_node-none}
use Rattle.loose_nodes.proofs.loose.loose_node.Goals as goal

pub returns-then-count-eq0 : goal.returns-then-count-eq0
returns-then-count-eq0 c = sym (loose_node-none c.args.s.now (sym c.count.ensures.is ∙ c.if-count-eq0.true))

pub returns : goal.returns
returns c =
    let f = loose (sections_of c.args.s.now) in
    let n = c.count-2.result in
    any-some _ _ _ n f c.any.ensures.ran (YieldsList-from_range 0 n n refl (omega arith)) (λ x q k. search rules) (λ x q k. search rules)
    ∙ ap (λ (m : ℕ). some m f) c.count-2.ensures.is
    ∙ loose_node-is c.args.s.now
