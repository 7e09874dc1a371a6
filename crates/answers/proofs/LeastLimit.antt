-- The two reductions of a dimension at another entry limit, document 02, Note 4: where they are done at some limit, they go too wide at exactly those
-- limits from 1 on that are below their peak (reductions-limit). At limits from 1 on the start lies within the limit.
use mathlib.Core.Path.{◌≡◌, refl, sym, ◌∙◌, ap}
use mathlib.Core.Logic.{◌↔◌}
use mathlib.Core.Bool.{Bool, true, false}
use Prim.Native.Nat.{ℕ, ◌≤◌, ◌<◌}
use native.Mathlib.Decide.{dec_le}
use native.Mathlib.Omega.{arith}
use Rattle.complexes.specs.Complex.{Sections}
use Rattle.complexes.proofs.ChainComplex.{ChainComplex}
use Rattle.reduction_steps.specs.Table.{table_within}
use Rattle.reduction_steps.specs.State.{State, within}
use Rattle.reduction_steps.specs.Pivot.{Rule, IsRule}
use Rattle.reduction_steps.specs.Step.{Machine, done, reduce}
use Rattle.reduction_laws.specs.Shape.{within-iff, within-le}
use Rattle.reduction_laws.proofs.LeastLimit as machine
use Rattle.reduction_laws.proofs.LeastLimit.{reduce-rises, reduce-limit}
use Rattle.reduction_laws.proofs.SmithForm.{Reduced}
use Rattle.reports.specs.Reductions.{Transforms, first_sizes, first_start, second_sizes, second_start, product, too_wide, reduced, after_second, reductions}
use Rattle.reports.proofs.ReductionsLaws.{first-peak, second-peak, BothDone, reductions-done, too_wide≢reduced, first-wide, product_wide, after-second, second-wide}
use Rattle.answers.proofs.Starts.{first-shaped, first-within, second-shaped, second-within}
use Rattle.answers.proofs.TwoReductions.{first_reduced}
use Rattle.answers.specs.Wide.{GoesWide}
use Rattle.answers.proofs.WideLaws.{wide-iff}

-- the two reductions at the limit L, where at some limit they are done with s rows of Q, rank r and the state x
pub record AtLimit (t : Transforms) (rule : Rule) (L : ℕ) (K : Sections) (p s r : ℕ) (x : State) : Type 0 where
  -- they come to the same
  pub same : x.peak ≤ L → reductions t rule L K p ≡ reduced s r x
  -- they go too wide, and only then
  pub wider : L < x.peak → reductions t rule L K p ≡ too_wide
  pub wide : GoesWide t L rule K p ↔ (L < x.peak)

module _ {most : ℕ} {K : Sections} (complex : ChainComplex most K) (t : Transforms) (rule : Rule) (is : IsRule rule) (limit p s r : ℕ) (x : State)
    (e : reductions t rule limit K p ≡ reduced s r x) (L : ℕ) (one : 1 ≤ L) where
  abbrev b : BothDone t rule limit K p s r x
  b = reductions-done t rule limit K p s r x e

  abbrev r₁ : ℕ
  r₁ = b.first_rank

  abbrev x₁ : State
  x₁ = b.first_state

  abbrev start : State
  start = second_start t K p r₁ x₁

  abbrev first : Machine
  first = reduce L (first_sizes t K p) rule (first_start t K p)

  first_small : within L (first_start t K p) ≡ true
  first_small = first-within t complex L p one

  first-limit : machine.AtLimit L (first_start t K p) r₁ x₁ first
  first-limit = reduce-limit limit L (first_sizes t K p) rule is (first_start t K p) (first-shaped t K p) first_small r₁ x₁ b.first

  second-rises : start.peak ≤ x.peak
  second-rises = reduce-rises limit (second_sizes t K p r₁) rule start r x b.second

  -- the first reduction and the product lie within L
  module _ (f : first ≡ done r₁ x₁) (narrow : table_within L (product K p r₁ x₁) ≡ true) where
    S₁ : Reduced L (first_sizes t K p) (first_start t K p) r₁ x₁
    S₁ = first_reduced complex t rule is L p one r₁ x₁ f

    second-small : within L start ≡ true
    second-small = second-within t K p r₁ x₁ L one S₁.within narrow

    second-limit : machine.AtLimit L start r x (reduce L (second_sizes t K p r₁) rule start)
    second-limit = reduce-limit limit L (second_sizes t K p r₁) rule is start (second-shaped t K p r₁ x₁ S₁.shaped) second-small r x b.second

  product_small : start.peak ≤ L → table_within L (product K p r₁ x₁) ≡ true
  unfolding second_start
  product_small h = ((within-iff L start).0 ((within-le L start).1 (omega (arith, second-peak t K p r₁ x₁)))).matrix

  stays : x.peak ≤ L → reductions t rule L K p ≡ reduced s r x
  unfolding after_second
  stays h =
      let f = first-limit.same (omega (arith, second-peak t K p r₁ x₁, second-rises)) in
      let narrow = product_small (omega (arith, second-rises)) in
      after-second t rule L K p r₁ x₁ f narrow (done r x) ((second-limit f narrow).same h) ∙ ap (λ (n : ℕ). reduced n r x) (sym b.rows)

  widens : L < x.peak → reductions t rule L K p ≡ too_wide
  widens l = in-first (dec_le x₁.peak L)
    where
      in-product : first ≡ done r₁ x₁ → x₁.peak ≤ L → (b : Bool) → table_within L (product K p r₁ x₁) ≡ b → reductions t rule L K p ≡ too_wide
      in-product f h true n =
          second-wide t rule L K p r₁ x₁ f n
          ((second-limit f n).wider (omega (arith, second-peak t K p r₁ x₁, (within-le L start).0 (second-small f n))) l)
      in-product f h false n = product_wide t rule L K p r₁ x₁ f n

      in-first : Dec (x₁.peak ≤ L) → reductions t rule L K p ≡ too_wide
      in-first (yes h) = in-product (first-limit.same h) h (table_within L (product K p r₁ x₁)) refl
      in-first (no h) =
          first-wide t rule L K p (first-limit.wider (omega (arith, first-peak t K p, (within-le L (first_start t K p)).0 first_small)) (omega arith))

  pub reductions-limit : AtLimit t rule L K p s r x
  reductions-limit = record {
    same = stays;
    wider = widens;
    wide = (λ g. go (dec_le x.peak L) g, λ l. (wide-iff complex t rule is L p one).0 (widens l));
  }
    where
      go : Dec (x.peak ≤ L) → GoesWide t L rule K p → L < x.peak
      go (yes h) g = absurd (too_wide≢reduced (sym ((wide-iff complex t rule is L p one).1 g) ∙ stays h))
      go (no h) g = omega arith
