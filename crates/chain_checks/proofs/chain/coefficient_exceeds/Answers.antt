-- `chain::coefficient_exceeds` meets its contract: `any` finds a coefficient beyond the limit, or none is.
use Rattle.std.proofs.Common.{◌<◌, ◌≤◌, ltb, lt-ltb, le-ltb, nat_abs, rules, tests}
use Rattle.std.proofs.lemmas.Iterator.{cases_from_any, YieldsList-from_slice}
use Rattle.requests.specs.Chains.{coefficient_exceeds}
use Rattle.chain_checks.proofs.Some.{some-of-any}
use Rattle.chain_checks.proofs.chain.coefficient_exceeds.Goals as goal

pub returns : goal.returns
unfolding coefficient_exceeds
returns c =
    let limit = c.args.limit in
    let chain = c.args.chain.now in
    some-of-any (λ x. ltb limit (nat_abs x)) (λ x. limit < nat_abs x) (λ x. nat_abs x ≤ limit)
    (λ x h. lt-ltb limit (nat_abs x) h) (λ x h. le-ltb limit (nat_abs x) h) chain _
    (cases_from_any _ _ _ (λ x. limit < nat_abs x) (λ x. nat_abs x ≤ limit) c.any.ensures.ran (YieldsList-from_slice chain cc) (λ x q k. search (rules, tests))
    (λ x q k. search (rules, tests)))
