-- The two reductions of a chain complex, by any pivot rule, are too wide exactly when they make an entry beyond the limit (wide-iff); otherwise they
-- are done (outcome).
use mathlib.Core.Path.{◌≡◌, refl, sym, ◌∙◌}
use mathlib.Core.Logic.{◌↔◌}
use mathlib.Core.Bool.{Bool, true, false}
use Prim.Native.Nat.{ℕ, ◌-◌, ◌≤◌}
use Rattle.complexes.specs.Complex.{Sections, count}
use Rattle.complexes.proofs.ChainComplex.{ChainComplex}
use Rattle.reduction_steps.specs.Table.{table_within}
use Rattle.reduction_steps.specs.State.{Sizes, State, within}
use Rattle.reduction_steps.specs.Pivot.{Rule, IsRule}
use Rattle.reduction_steps.specs.Step.{Machine, at, done, wide, a, Ended, reduce, enough, Reaches}
use Rattle.reduction_laws.proofs.Ends.{reduce-ends, reaches-reduce}
use Rattle.reduction_laws.specs.Shape.{Shaped}
use Rattle.reduction_laws.proofs.SmithForm.{Reduced}
use Rattle.reports.specs.Reductions.{Transforms, reductions, too_wide, reduced, first_sizes, first_start, second_sizes, second_start, product, after_second}
use Rattle.reports.proofs.ReductionsLaws.{after-second, first-wide, product_wide, second-wide, too_wide≢reduced}
use Rattle.answers.specs.Wide.{FirstReaches, SecondReaches, GoesWide, in-first, in-product, in-second}
use Rattle.answers.proofs.Starts.{first-shaped, first-within, second-shaped, second-within}
use Rattle.answers.proofs.TwoReductions.{first_reduced}

module _ (limit : ℕ) (rule : Rule) where
  -- the reduction leads from its start to its outcome
  pub reaches-outcome : (z : Sizes) (s : State) (y : Machine) → reduce limit z rule s ≡ y → Reaches limit z rule (at a 0 s) y
  unfolding reduce
  reaches-outcome z s y e = record { steps = enough limit z; leads = e }

  -- what the reductions come to
  pub data Outcome (t : Transforms) (K : Sections) (p : ℕ) : Type 0 where
    widens : GoesWide t limit rule K p → Outcome t K p
    ends : (s r : ℕ) (x : State) → reductions t rule limit K p ≡ reduced s r x → Outcome t K p

module _ {most : ℕ} {K : Sections} (complex : ChainComplex most K) (t : Transforms) (rule : Rule) (is : IsRule rule) (limit p : ℕ) (one : 1 ≤ limit) where
  abbrev first : Machine
  first = reduce limit (first_sizes t K p) rule (first_start t K p)

  start-within : within limit (first_start t K p) ≡ true
  start-within = first-within t complex limit p one

  -- every ended machine that a reduction leads to is its outcome
  pub first-is : (y : Machine) → FirstReaches t limit rule K p y → Ended y → first ≡ y
  first-is y g e = reaches-reduce limit (first_sizes t K p) rule is (first_start t K p) (first-shaped t K p) start-within g e

  first_ends : Ended first
  first_ends = reduce-ends limit (first_sizes t K p) rule is (first_start t K p) (first-shaped t K p) start-within

  module _ (r : ℕ) (s : State) (e : first ≡ done r s) (narrow : table_within limit (product K p r s) ≡ true) where
    abbrev second : Machine
    second = reduce limit (second_sizes t K p r) rule (second_start t K p r s)

    S₁ : Reduced limit (first_sizes t K p) (first_start t K p) r s
    S₁ = first_reduced complex t rule is limit p one r s e

    shaped : Shaped (second_sizes t K p r) (second_start t K p r s)
    shaped = second-shaped t K p r s S₁.shaped

    small : within limit (second_start t K p r s) ≡ true
    small = second-within t K p r s limit one S₁.within narrow

    pub second_is : (y : Machine) → SecondReaches t limit rule K p r s y → Ended y → second ≡ y
    second_is y g h = reaches-reduce limit (second_sizes t K p r) rule is (second_start t K p r s) shaped small g h

    second-ends : Ended second
    second-ends = reduce-ends limit (second_sizes t K p r) rule is (second_start t K p r s) shaped small

  goes-wide : GoesWide t limit rule K p → reductions t rule limit K p ≡ too_wide
  goes-wide (in-first g) = first-wide t rule limit K p (first-is wide g tt)
  goes-wide (in-product r s g e) = product_wide t rule limit K p r s (first-is (done r s) g tt) e
  goes-wide (in-second r s g e h) =
      let f = first-is (done r s) g tt in
      second-wide t rule limit K p r s f e (second_is r s f e wide h tt)

  first-reaches : (y : Machine) → first ≡ y → FirstReaches t limit rule K p y
  first-reaches = reaches-outcome limit rule (first_sizes t K p) (first_start t K p)

  at_second : (r : ℕ) (s : State) (e : first ≡ done r s) (narrow : table_within limit (product K p r s) ≡ true)
      → (y : Machine) → second r s e narrow ≡ y → Ended y → Outcome limit rule t K p
  unfolding after_second
  at_second r s e narrow (at l k x) f h = absurd h
  at_second r s e narrow (done r₂ x) f h = ends (count K p - r) r₂ x (after-second t rule limit K p r s e narrow (done r₂ x) f)
  at_second r s e narrow wide f h = widens (in-second r s (first-reaches (done r s) e) narrow (reaches-outcome limit rule (second_sizes t K p r) (second_start t K p r s) wide f))

  at-product : (r : ℕ) (s : State) → first ≡ done r s → (b : Bool) → table_within limit (product K p r s) ≡ b → Outcome limit rule t K p
  at-product r s e true n = at_second r s e n (second r s e n) refl (second-ends r s e n)
  at-product r s e false n = widens (in-product r s (first-reaches (done r s) e) n)

  at_first : (y : Machine) → first ≡ y → Ended y → Outcome limit rule t K p
  at_first (at l k x) e h = absurd h
  at_first (done r s) e h = at-product r s e (table_within limit (product K p r s)) refl
  at_first wide e h = widens (in-first (first-reaches wide e))

  pub outcome : Outcome limit rule t K p
  outcome = at_first first refl first_ends

  pub wide-iff : (reductions t rule limit K p ≡ too_wide) ↔ GoesWide t limit rule K p
  wide-iff = (λ e. from e outcome, goes-wide)
    where
      from : reductions t rule limit K p ≡ too_wide → Outcome limit rule t K p → GoesWide t limit rule K p
      from e (widens g) = g
      from e (ends s r x f) = absurd (too_wide≢reduced (sym e ∙ f))
