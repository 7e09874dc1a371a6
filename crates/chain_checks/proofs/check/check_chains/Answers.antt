use mathlib.Core.Path.{◌≡◌, sym, ap, ◌∙◌}
use mathlib.Core.List.{List}
use Prim.Native.Nat.{ℕ, ◌+◌, ◌*◌, ◌-◌}
use native.Mathlib.Omega.{arith}
use lib.ListN.{take, drop}
use Rattle.std.proofs.lemmas.Result.{err_from_is_err_and}
use lib.IntN.{ℤ}
use Rattle.trials.specs.Trial.{first_refusal}
use Rattle.refusal.specs.Number.{number_of}
use Rattle.refusal.specs.NumberLaws.{number-positive}
use Rattle.sheet_format.specs.Check.{sections_of}
use Rattle.requests.specs.Chains.{cycle_checks, chain_at}
use Rattle.requests.proofs.ChainsLaws.{chain-part, fault, passed-next, cycles-zero, cycles-told}
use Rattle.limits.specs.Limits.{coefficient_limit}
use Rattle.chain_checks.proofs.check.check_chains.Goals as goal
use Rattle.chain_checks.proofs.check.check_chains.Goals.{Start, After-check_within}

-- the checks of chain i are those of the slice's part
checked : (c : After-check_within) → let a = c.args in
    fault coefficient_limit (sections_of a.s.now) a.p a.chains.now c.loop-i.i
    ≡ first_refusal (cycle_checks coefficient_limit (sections_of a.s.now) a.p (take (c.loop-i.i * a.cells + a.cells - c.loop-i.i * a.cells) (drop (c.loop-i.i * a.cells) a.chains.now)))
checked c =
    let start = (goal.at.After-check_within c).Start in
    let a = start.args in
    let i = c.loop-i.i in
    ap (λ (z : List ℤ). first_refusal (cycle_checks coefficient_limit (sections_of a.s.now) a.p z))
    (ap (λ (n : ℕ). chain_at n a.chains.now i) (sym start.requires.p_le_top.1) ∙ sym (chain-part a.cells i a.chains.now))

pub returns-in_err-check_within : goal.returns-in_err-check_within
returns-in_err-check_within c =
    let called = (goal.at.returns-in_err-check_within c).After-check_within in
    let a = called.args in
    let p = err_from_is_err_and c.from_residual.result c.from_residual.ensures.1 in
    rw p.1
    ((cycles-told coefficient_limit (sections_of a.s.now) a.p a.chains.now a.many (number_of p.0) (λ e. absurd (omega (arith, number-positive p.0)))).1
    (record {
      place = called.loop-i.i;
      within = called.loop-i-test.true;
      told = checked called ∙ c.in_err-check_within.ensures ∙ ap number_of (sym p.2);
      earlier = called.loop-i.invariant.1;
    }))

pub loop-i-preserved : goal.loop-i-preserved
loop-i-preserved c =
    let called = (goal.at.loop-i-preserved c).After-check_within in
    (omega (arith, called.loop-i-test.true), passed-next called.loop-i.i called.loop-i.invariant.1 (checked called ∙ c.in_ok-check_within.ensures))

pub returns : goal.returns
returns c =
    let a = c.args in
    (cycles-zero coefficient_limit (sections_of a.s.now) a.p a.chains.now a.many).1 (λ k l. c.loop-i.invariant.1 k (omega (arith, c.loop-i-test.false)))
