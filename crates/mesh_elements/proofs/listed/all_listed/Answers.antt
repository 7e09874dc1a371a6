-- `all_listed` meets its contract: `all` tells whether the node at each place is listed.
use borrow.Author.Rules.{rules}
use mathlib.Core.Path.{refl}
use mathlib.Core.Bool.{true, false}
use native.Mathlib.Omega.{arith}
use Rattle.std.proofs.lemmas.Iterator.{cases_from_all, YieldsList-from_range}
use Rattle.mesh_elements.proofs.Places.{Tells, all-listed}
use Rattle.mesh_elements.proofs.listed.all_listed.Goals as goal

pub returns : goal.returns
returns c =
    let map = c.args.map.now in
    let w = c.args.word in
    let n = c.args.n in
    all-listed map w n c.all.result (cases_from_all _ _ _ (Tells map w true) (Tells map w false) c.all.ensures.ran (YieldsList-from_range 0 n n refl (omega arith))
    (λ x q k. (search rules, λ j vs p. search rules)) (λ x q k j vs p. search rules))
