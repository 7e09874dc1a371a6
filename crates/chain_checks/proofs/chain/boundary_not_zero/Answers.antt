use mathlib.Core.Path.{◌≡◌, refl, sym, ap, subst, ◌∙◌}
use mathlib.Core.Logic.{◌≢◌}
use mathlib.Core.Bool.{Bool, true, false, not}
use mathlib.Core.List.{List}
use Prim.Native.Nat.{ℕ, suc, ◌+◌, ◌*◌, ◌-◌, ◌<◌, ◌≤◌}
use native.Mathlib.Nat as NatL
use native.Mathlib.Numerals.{add-one}
use native.Mathlib.Omega.{arith}
use borrow.Author.Tests.{eq-eqb, ne_eqb}
use lib.Dec.{eqb}
use lib.ListN.{length, get_or, take, replicate, get_or-replicate}
use lib.IntN.{ℤ, pos, nat_abs, ◌*ℤ◌}
use Rattle.std.proofs.Common.{MatchBool, rules, tests}
use Rattle.std.specs.List.{HoldsAt, AllWithin}
use Rattle.std.proofs.lemmas.Iterator.{cases_from_any, YieldsList-from_slice}
use Rattle.std.proofs.lemmas.List.{get_or-take, length-take-le}
use mir.Syntax.{w32, w64}
use mir.Val.{SFits}
use Rattle.integers.proofs.Ring.{mul_comm, mul-zero, add-zero}
use Rattle.integers.proofs.Order.{nat_abs_mul, nat_abs-zero}
use Rattle.matrices.specs.Sum.{sum}
use Rattle.matrices.specs.Vector.{apply}
use Rattle.complexes.specs.Complex.{Sections, count}
use Rattle.complexes.specs.Boundary.{count_below, boundary}
use Rattle.complexes.proofs.ChainComplex.{ChainComplex}
use Rattle.sheet_format.specs.Layout.{top}
use Rattle.sheet_format.specs.Check.{sections_of, some}
use Rattle.sheet_format.specs.CheckLaws.{some_at, some-false}
use Rattle.sheet_format.specs.SheetLaws.{count-sections_of}
use Rattle.sheet_format.proofs.Accept.{accepted-chains}
use Rattle.requests.specs.Chains.{boundary_not_zero}
use Rattle.limits.specs.Limits.{library_limit, coefficient_limit}
use Rattle.machine_words.specs.Read.{read, cast_is, sfits-below, zero-of-bits}
use Rattle.chain_checks.specs.Sums.{Sums, AddsFaces}
use Rattle.matrices.proofs.SumLaws.{nat_abs-sum}
use Rattle.chain_checks.proofs.chain.boundary_not_zero.Invariants.{Summed, partial}
use Rattle.chain_checks.proofs.chain.boundary_not_zero.Goals as goal
use Rattle.chain_checks.proofs.chain.boundary_not_zero.Goals.{Start, Else-p-eq0, At-loop-j, In-loop-j, After-count-rows, then-x-ne0, else-x-ne0}

-- what the function is given
record Given (K : Sections) (p : ℕ) (chain : List ℤ) : Type 0 where
  sheet : ChainComplex library_limit K
  inside : suc p ≤ top
  sized : length chain ≡ count K (suc p)
  small : (i : ℕ) → nat_abs (get_or chain i (pos 0)) ≤ coefficient_limit

begun : (K : Sections) (p : ℕ) (chain : List ℤ) → count K p ≤ library_limit → Summed K p chain 0 (replicate library_limit (pos 0))
unfolding apply sum
begun K p chain few = record { within = omega arith; sized = refl; so_far = λ i l. get_or-replicate library_limit i (pos 0) (pos 0) (omega arith) }

module _ {K : Sections} {p : ℕ} {chain : List ℤ} {j : ℕ} {sums : List ℤ} (given : Given K p chain) (inv : Summed K p chain j sums) where
  partial-small : (i : ℕ) → nat_abs (partial K p chain j i) ≤ j * coefficient_limit
  unfolding apply
  partial-small i = nat_abs-sum j (λ k. boundary K (suc p) i k *ℤ get_or chain k (pos 0)) coefficient_limit one
    where
      one : (k : ℕ) → k < j → nat_abs (boundary K (suc p) i k *ℤ get_or chain k (pos 0)) ≤ coefficient_limit
      one k l =
          omega (
            arith,
            nat_abs_mul (boundary K (suc p) i k) (get_or chain k (pos 0)),
            NatL.mul-le-mul (given.sheet.small (suc p) i k) (given.small k),
          )

  sums-small : Sums K p sums
  sums-small = record {
    sized = inv.sized;
    bounded = λ i l. rw (inv.so_far i l) (omega (arith, partial-small i, inv.within, given.sized, given.sheet.within (suc p)));
  }

  added : j < length chain → {sums' : List ℤ} → AddsFaces K p j (get_or chain j (pos 0)) sums sums' → Summed K p chain (j + 1) sums'
  unfolding apply sum
  added l h = record {
    within = omega arith;
    sized = h.same_length ∙ inv.sized;
    so_far = λ i k.
        h.adds i k
        ∙ rw (inv.so_far i k, add-one j, mul_comm (get_or chain j (pos 0)) (boundary K (suc p) i j));
  }

  skipped : j < length chain → get_or chain j (pos 0) ≡ pos 0 → Summed K p chain (j + 1) sums
  unfolding apply sum
  skipped l e = record {
    within = omega arith;
    sized = inv.sized;
    so_far = λ i k.
        inv.so_far i k
        ∙ rw (add-one j, e, mul-zero (boundary K (suc p) i j)) (sym (add-zero (partial K p chain j i)));
  }

-- ---- the test of the sums

-- check 12 at row i
abbrev nonzero : Sections → ℕ → List ℤ → ℕ → Bool
nonzero K p chain i = not (eqb (nat_abs (partial K p chain (count K (suc p)) i)) 0)

module _ {K : Sections} {p : ℕ} {chain : List ℤ} {j : ℕ} {sums : List ℤ} (given : Given K p chain) (inv : Summed K p chain j sums)
    (done : length chain ≤ j) where
  -- row i of the boundary
  abbrev whole : ℕ → ℤ
  whole i = partial K p chain (count K (suc p)) i

  sum_is : (i : ℕ) → i < count K p → get_or sums i (pos 0) ≡ whole i
  sum_is i l = inv.so_far i l ∙ ap (λ (n : ℕ). partial K p chain n i) (omega (arith, inv.within, given.sized))

  decided : {rows : ℕ} → rows ≡ count K p → rows ≤ length sums → (r : Bool)
      → MatchBool r ((k : ℕ) × (k < length (take rows sums)) × HoldsAt (λ x. x ≢ pos 0) (take rows sums) k) (AllWithin (λ x. x ≡ pos 0) (take rows sums) 0 (length (take rows sums)))
      → r ≡ boundary_not_zero K (suc p) chain
  unfolding boundary_not_zero count_below
  decided {rows} e l true h =
      let below : h.0 < rows = omega (arith, h.1, length-take-le rows sums l) in
      sym (some_at (count K p) (nonzero K p chain) h.0 (omega arith)
      (ap not (ne_eqb (nat_abs (whole h.0)) 0
      (λ z. h.2 (pos 0) (get_or-take rows sums h.0 (pos 0) below ∙ sum_is h.0 (omega arith) ∙ nat_abs-zero (whole h.0) z)))))
  decided {rows} e l false h =
      sym ((some-false (count K p) (nonzero K p chain)).1
      (λ i m.
      let below : i < rows = omega arith in
      ap not (eq-eqb (nat_abs (whole i)) 0
      (ap nat_abs (sym (sum_is i m) ∙ sym (get_or-take rows sums i (pos 0) below) ∙ h i (pos 0) (omega arith) (omega (arith, length-take-le rows sums l)))))))

pub returns-then-p-eq0 : goal.returns-then-p-eq0
unfolding boundary_not_zero count_below some
returns-then-p-eq0 c =
    let args = c.args in
    subst (λ (n : ℕ). false ≡ boundary_not_zero (sections_of args.s.now) n args.chain.now) (sym c.if-p-eq0.true) refl

-- the dimension is not 0
positive : (c : Else-p-eq0) → suc (c.args.p - 1) ≡ c.args.p
positive c = omega (arith, c.if-p-eq0.false)

given : (c : Else-p-eq0) → let args = c.args in Given (sections_of args.s.now) (args.p - 1) args.chain.now
given c =
    let pre = c.requires in
    record {
      sheet = accepted-chains library_limit _ (record { small = λ i. (c.type_inv.s i).fits }) pre.accepted.none-applies;
      inside = omega (arith, positive c, pre.p_le_top.0);
      sized = rw (positive c) pre.p_le_top.1;
      small = pre.by_index;
    }

pub loop-j-init : goal.loop-j-init
loop-j-init c =
    let args = c.args in begun (sections_of args.s.now) (args.p - 1) args.chain.now ((given c).sheet.within (args.p - 1))

-- coefficient j
module _ (c : In-loop-j) where
  abbrev head : At-loop-j
  head = (goal.at.In-loop-j c).At-loop-j

  abbrev start : Start
  start = (goal.at.At-loop-j head).Start

  abbrev x : ℤ
  x = get_or start.args.chain.now head.loop-j.j (pos 0)

  x_fits : SFits w32 x
  x_fits = sfits-below w32 x (omega (arith, start.requires.by_index head.loop-j.j))

  abbrev nonzero-dimension : Else-p-eq0
  nonzero-dimension = (goal.at.At-loop-j head).Else-p-eq0

pub add_faces-requires-clause-sums : goal.add_faces-requires-clause-sums
add_faces-requires-clause-sums c =
    let turn = (goal.at.add_faces-requires-clause-sums c).In-loop-j in
    sums-small (given (nonzero-dimension turn)) (head turn).loop-j.invariant

pub loop-j-preserved : goal.loop-j-preserved
loop-j-preserved c =
    let turn = (goal.at.loop-j-preserved c).In-loop-j in
    let g = given (nonzero-dimension turn) in
    let args = (start turn).args in
    let j = (head turn).loop-j.j in
    let inv = (head turn).loop-j.invariant in
    elim c.if-x-ne0.branch [
      | then-x-ne0 way ↦ subst (λ (sums : List ℤ). Summed (sections_of args.s.now) (args.p - 1) args.chain.now (j + 1) sums) (sym way.sums-is)
          (added g inv turn.loop-j-test.true
          (subst (λ (z : ℤ). AddsFaces (sections_of args.s.now) (args.p - 1) j z (head turn).loop-j.sums way.add_faces.new.sums)
          (ap (read w64) way.from.ensures ∙ cast_is (x turn) (x_fits turn)) way.add_faces.ensures))
      | else-x-ne0 way ↦ subst (λ (sums : List ℤ). Summed (sections_of args.s.now) (args.p - 1) args.chain.now (j + 1) sums) (sym way.sums-is)
          (skipped g inv turn.loop-j-test.true (zero-of-bits (x_fits turn) way.if-x-ne0.false))
    ]

-- the sums of the cells of section p - 1
module _ (c : After-count-rows) where
  abbrev first : Else-p-eq0
  first = (goal.at.After-count-rows c).Else-p-eq0

  rows : c.count-rows.result ≡ count (sections_of first.args.s.now) (first.args.p - 1)
  rows = c.count-rows.ensures.is ∙ sym (count-sections_of first.args.s.now (first.args.p - 1))

  within : c.count-rows.result ≤ length c.loop-j.sums
  within = omega (arith, rows, (given first).sheet.within (first.args.p - 1), c.loop-j.invariant.sized)

pub slice_bounds-sums-end : goal.slice_bounds-sums-end
slice_bounds-sums-end c = within c

pub slice_bounds-iter-end : goal.slice_bounds-iter-end
slice_bounds-iter-end c =
    let counted = (goal.at.slice_bounds-iter-end c).After-count-rows in
    sym (length-take-le counted.count-rows.result counted.loop-j.sums (within counted))

pub returns : goal.returns
returns c =
    let counted = (goal.at.returns c).After-count-rows in
    let at = first counted in
    let sums = take counted.count-rows.result counted.loop-j.sums in
    subst (λ (n : ℕ). c.any.result ≡ boundary_not_zero (sections_of at.args.s.now) n at.args.chain.now) (positive at)
    (decided (given at) counted.loop-j.invariant counted.loop-j-test.false (rows counted) (within counted) _
    (cases_from_any _ _ _ (λ x. x ≢ pos 0) (λ x. x ≡ pos 0) c.any.ensures.ran (YieldsList-from_slice sums cc) (λ x q k. search (rules, tests)) (λ x q k. search (rules, tests))))
