use mathlib.Core.Path.{◌≡◌, sym, ap, ◌∙◌}
use mathlib.Core.List.{List}
use Prim.Native.Nat.{ℕ, ◌*◌}
use native.Mathlib.Omega.{arith}
use lib.ListN.{length}
use lib.Seq.{length-take-le}
use lib.IntN.{ℤ}
use Rattle.std.proofs.lemmas.Result.{err_from_is_err_and}
use Rattle.trials.specs.Trial.{first_refusal}
use Rattle.refusal.specs.Number.{number_of}
use Rattle.refusal.specs.NumberLaws.{number-positive}
use Rattle.sheet_format.specs.Check.{sections_of}
use Rattle.requests.specs.Chains.{cycle_checks, chain_at}
use Rattle.host_calls.specs.Bytes.{chain_from}
use Rattle.requests.proofs.ChainsLaws.{fault, passed-next, cycles-zero, cycles-told}
use Rattle.limits.specs.Limits.{coefficient_limit}
use Rattle.fildwuk.specs.Lists.{chain_of}
use Rattle.fildwuk.proofs.ChainBytes.{chain-stands, chain-read}
use Rattle.fildwuk.proofs.coordinate_lists.check_bytes.Goals as goal
use Rattle.fildwuk.proofs.coordinate_lists.check_bytes.Goals.{Start, After-read_chain}

pub loop-i-init : goal.loop-i-init
loop-i-init c = record { sound = λ k l. absurd (omega arith); size = length-take-le c.args.cells _ c.requires.p_le_top.2 }

-- ---- the next chain is read

pub overflow_mul-i : goal.overflow_mul-i
overflow_mul-i c =
    omega (
      arith,
      chain-stands c.args.cells c.args.many c.args.chains.now c.requires.p_le_top.3 c.loop-i.i c.loop-i-test.true,
      c.well_formed,
    )

pub read_chain-requires : goal.read_chain-requires
read_chain-requires c = omega (arith, c.loop-i.invariant.size, chain-stands c.args.cells c.args.many c.args.chains.now c.requires.p_le_top.3 c.loop-i.i c.loop-i-test.true)

module _ (c : After-read_chain) where
  abbrev start : Start
  start = (goal.at.After-read_chain c).Start

  abbrev cells : ℕ
  cells = start.args.cells

  abbrev many : ℕ
  many = start.args.many

  abbrev bytes : List ℕ
  bytes = start.args.chains.now

  abbrev i : ℕ
  i = c.loop-i.i

  read_is : c.read_chain.new.coefficients ≡ chain_of cells many bytes i
  read_is = chain-read cells many bytes start.requires.p_le_top.3 i c.loop-i-test.true c.loop-i.invariant.size c.read_chain.ensures

  read_length : length c.read_chain.new.coefficients ≡ cells
  read_length = c.read_chain.auto.coefficients ∙ c.loop-i.invariant.size

  -- the checks of chain i are those of what is read
  checked : let a = start.args in
      fault coefficient_limit (sections_of a.s.now) a.p (chain_from (many * cells) bytes) i
      ≡ first_refusal (cycle_checks coefficient_limit (sections_of a.s.now) a.p c.read_chain.new.coefficients)
  checked =
      let a = start.args in
      ap (λ (z : List ℤ). first_refusal (cycle_checks coefficient_limit (sections_of a.s.now) a.p z))
      (ap (λ (n : ℕ). chain_at n (chain_from (many * cells) bytes) i) (sym start.requires.p_le_top.1) ∙ sym read_is)

-- ---- and checked

pub check_within-requires : goal.check_within-requires
check_within-requires c =
    let r = (goal.at.check_within-requires c).After-read_chain in
    let pre = (start r).requires in
    record { accepted = pre.accepted; p_le_top = (pre.p_le_top.0, read_length r ∙ pre.p_le_top.1, omega arith) }

pub returns-in_err-check_within : goal.returns-in_err-check_within
returns-in_err-check_within c =
    let r = (goal.at.returns-in_err-check_within c).After-read_chain in
    let a = (start r).args in
    let x = err_from_is_err_and c.from_residual.result c.from_residual.ensures.1 in
    rw x.1
    ((cycles-told coefficient_limit (sections_of a.s.now) a.p (chain_from (many r * cells r) (bytes r)) a.many (number_of x.0)
    (λ e. absurd (omega (arith, number-positive x.0)))).1
    (record {
      place = i r;
      within = r.loop-i-test.true;
      told = checked r ∙ c.in_err-check_within.ensures ∙ ap number_of (sym x.2);
      earlier = r.loop-i.invariant.sound;
    }))

pub loop-i-preserved : goal.loop-i-preserved
loop-i-preserved c =
    let r = (goal.at.loop-i-preserved c).After-read_chain in
    record { sound = passed-next (i r) r.loop-i.invariant.sound (checked r ∙ c.in_ok-check_within.ensures); size = read_length r }

pub returns : goal.returns
returns c =
    let a = c.args in
    (cycles-zero coefficient_limit (sections_of a.s.now) a.p (chain_from (a.many * a.cells) a.chains.now) a.many).1
    (λ k l. c.loop-i.invariant.sound k (omega (arith, c.loop-i-test.false)))
