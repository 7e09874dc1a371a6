-- `check::check_within` meets its contract: 11 is told first, then 12.
use mathlib.Core.Path.{◌≡◌, sym, ◌∙◌}
use mathlib.Core.Bool.{false}
use native.Mathlib.Nat.{le_trans}
use Rattle.requests.specs.Chains.{coefficient_exceeds}
use Rattle.requests.proofs.ChainsLaws.{coefficients-iff}
use Rattle.chain_checks.proofs.check.check_within.Goals as goal
use Rattle.chain_checks.proofs.check.check_within.Goals.{Start, Else-coefficient_exceeds}

pub returns-then-coefficient_exceeds : goal.returns-then-coefficient_exceeds
returns-then-coefficient_exceeds c = rw (sym c.coefficient_exceeds.ensures ∙ c.if-coefficient_exceeds.true)

-- 11 does not apply
narrow : (c : Else-coefficient_exceeds) → coefficient_exceeds c.args.limit c.args.chain.now ≡ false
narrow c = sym c.coefficient_exceeds.ensures ∙ c.if-coefficient_exceeds.false

pub boundary_not_zero-requires : goal.boundary_not_zero-requires
boundary_not_zero-requires c =
    let start = (goal.at.boundary_not_zero-requires c).Start in
    let small = (coefficients-iff start.args.limit start.args.chain.now).0 (narrow c) in
    record { accepted = start.requires.accepted; p_le_top = (start.requires.p_le_top.0, start.requires.p_le_top.1); by_index = λ i. le_trans (small i) start.requires.p_le_top.2 }

pub returns-then-boundary_not_zero : goal.returns-then-boundary_not_zero
returns-then-boundary_not_zero c = rw (narrow (goal.at.returns-then-boundary_not_zero c).Else-coefficient_exceeds, sym c.boundary_not_zero.ensures ∙ c.if-boundary_not_zero.true)

pub returns : goal.returns
returns c = rw (narrow (goal.at.returns c).Else-coefficient_exceeds, sym c.boundary_not_zero.ensures ∙ c.if-boundary_not_zero.false)
