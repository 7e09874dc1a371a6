-- What the two reductions of a dimension come to, step by step: first-wide, product_wide, after-second, second-wide, reductions-done. The peak takes in
-- the entries at either start: first-peak, second-peak.
use Rattle.std.specs.Prelude.{◌≡◌, Bool, true, false, ℕ, ◌-◌, max}
use Rattle.std.proofs.Math.Path.{refl, ap}
use Rattle.std.proofs.Common.{sym, ◌∙◌, subst}
use Rattle.complexes.specs.Complex.{Sections, count}
use Rattle.reduction_steps.specs.Table.{table_within}
use Rattle.reduction_steps.specs.State.{State, largest}
use Rattle.reduction_steps.specs.Pivot.{Rule}
use Rattle.reduction_steps.specs.Step.{Machine, at, done, wide, reduce}
use Rattle.reports.specs.Reductions.{Reductions, too_wide, reduced, Transforms, first_sizes, first_start, second_sizes, second_start, product, after_second, second, after_first, reductions}

-- too wide is not reduced
pub too_wide≢reduced : {s r : ℕ} {x : State} → too_wide ≡ reduced s r x → ⊥
too_wide≢reduced e = subst Wide e tt
  where
    Wide : Reductions → Type 0
    Wide too_wide = Unit {0}
    Wide (reduced s r x) = ⊥

-- ---- the peak at either start

pub first-peak : (t : Transforms) (K : Sections) (p : ℕ) → (first_start t K p).peak ≡ max 0 (largest (first_start t K p))
unfolding first_start largest
first-peak t K p = refl

pub second-peak : (t : Transforms) (K : Sections) (p r : ℕ) (s : State) → (second_start t K p r s).peak ≡ max s.peak (largest (second_start t K p r s))
unfolding second_start largest
second-peak t K p r s = refl

-- ---- what they come to

module _ (t : Transforms) (rule : Rule) (limit : ℕ) (K : Sections) (p : ℕ) where
  -- both reductions are done: s rows of Q, the second of rank r leaves x
  pub record BothDone (s r : ℕ) (x : State) : Type 0 where
    pub first_rank : ℕ
    pub first_state : State
    pub first : reduce limit (first_sizes t K p) rule (first_start t K p) ≡ done first_rank first_state
    pub narrow : table_within limit (product K p first_rank first_state) ≡ true
    pub rows : s ≡ count K p - first_rank
    pub second : reduce limit (second_sizes t K p first_rank) rule (second_start t K p first_rank first_state) ≡ done r x

  -- ---- from the machines to the reductions

  pub after_first_lem : (M : Machine) → reduce limit (first_sizes t K p) rule (first_start t K p) ≡ M → reductions t rule limit K p ≡ after_first t rule limit K p M
  unfolding reductions
  after_first_lem M e = ap (after_first t rule limit K p) e

  pub first-wide : reduce limit (first_sizes t K p) rule (first_start t K p) ≡ wide → reductions t rule limit K p ≡ too_wide
  unfolding after_first
  first-wide e = after_first_lem wide e

  module _ (r₁ : ℕ) (x₁ : State) (first : reduce limit (first_sizes t K p) rule (first_start t K p) ≡ done r₁ x₁) where
    -- what follows the check of the product
    abbrev then : Bool → Reductions
    then true = after_second (count K p - r₁) (reduce limit (second_sizes t K p r₁) rule (second_start t K p r₁ x₁))
    then false = too_wide

    pub product_wide : table_within limit (product K p r₁ x₁) ≡ false → reductions t rule limit K p ≡ too_wide
    unfolding after_first second
    product_wide e = after_first_lem (done r₁ x₁) first ∙ ap then e

    pub after-second : table_within limit (product K p r₁ x₁) ≡ true → (M : Machine) → reduce limit (second_sizes t K p r₁) rule (second_start t K p r₁ x₁) ≡ M
        → reductions t rule limit K p ≡ after_second (count K p - r₁) M
    unfolding after_first second
    after-second e M f = after_first_lem (done r₁ x₁) first ∙ ap then e ∙ ap (after_second (count K p - r₁)) f

    pub second-wide : table_within limit (product K p r₁ x₁) ≡ true → reduce limit (second_sizes t K p r₁) rule (second_start t K p r₁ x₁) ≡ wide
        → reductions t rule limit K p ≡ too_wide
    unfolding after_second
    second-wide e f = after-second e wide f

  -- ---- from the reductions to the machines

  module _ (s r : ℕ) (x : State) where
    from_second : (r₁ : ℕ) (x₁ : State) → reduce limit (first_sizes t K p) rule (first_start t K p) ≡ done r₁ x₁ → table_within limit (product K p r₁ x₁) ≡ true
        → (M : Machine) → reduce limit (second_sizes t K p r₁) rule (second_start t K p r₁ x₁) ≡ M → after_second (count K p - r₁) M ≡ reduced s r x → BothDone s r x
    unfolding after_second
    from_second r₁ x₁ e f (at l k y) g h = absurd (too_wide≢reduced h)
    from_second r₁ x₁ e f (done r₂ x₂) g h = record {
      first_rank = r₁;
      first_state = x₁;
      first = e;
      narrow = f;
      rows = cc;
      second = g ∙ cc;
    }
    from_second r₁ x₁ e f wide g h = absurd (too_wide≢reduced h)

    from-product : (r₁ : ℕ) (x₁ : State) → reduce limit (first_sizes t K p) rule (first_start t K p) ≡ done r₁ x₁ → (b : Bool)
        → table_within limit (product K p r₁ x₁) ≡ b → reductions t rule limit K p ≡ reduced s r x → BothDone s r x
    from-product r₁ x₁ e true f h =
        let M = reduce limit (second_sizes t K p r₁) rule (second_start t K p r₁ x₁) in
        from_second r₁ x₁ e f M refl (sym (after-second r₁ x₁ e f M refl) ∙ h)
    from-product r₁ x₁ e false f h = absurd (too_wide≢reduced (sym (product_wide r₁ x₁ e f) ∙ h))

    from_first : (M : Machine) → reduce limit (first_sizes t K p) rule (first_start t K p) ≡ M → reductions t rule limit K p ≡ reduced s r x → BothDone s r x
    unfolding after_first
    from_first (at l k y) e h = absurd (too_wide≢reduced (sym (after_first_lem (at l k y) e) ∙ h))
    from_first (done r₁ x₁) e h = from-product r₁ x₁ e (table_within limit (product K p r₁ x₁)) refl h
    from_first wide e h = absurd (too_wide≢reduced (sym (after_first_lem wide e) ∙ h))

    pub reductions-done : reductions t rule limit K p ≡ reduced s r x → BothDone s r x
    reductions-done = from_first (reduce limit (first_sizes t K p) rule (first_start t K p)) refl
