-- The two reductions are too wide exactly where the work does not come to its end: `wide-end`; `end-wide` is the one direction.
use Rattle.std.specs.Prelude.{Bool, ◌≡◌, ℕ}
use Rattle.std.proofs.Math.Bool.{true, false}
use Rattle.std.proofs.lemmas.Bool.{false≢true}
use Rattle.std.proofs.Math.Path.{refl, ap}
use Rattle.std.proofs.Common.{sym, ◌∙◌}
use Rattle.complexes.specs.Complex.{Sections}
use Rattle.reduction_steps.specs.Table.{table_within}
use Rattle.reduction_steps.specs.State.{State}
use Rattle.reduction_steps.specs.Pivot.{Rule}
use Rattle.reduction_steps.specs.Step.{Machine, at, done, wide, reduce}
use Rattle.reports.specs.Reductions.{Reductions, too_wide, reduced, Transforms, first_sizes, first_start, second_sizes, product, second_start, after_second, after_first, reductions}
use Rattle.reports.proofs.ReductionsLaws.{after_first_lem, first-wide, product_wide, after-second}
use Rattle.reports.specs.WideEnd.{End, end_of_second, end_of_product, end_of_first, end, is_wide, ends_wide}

after-all : (s : ℕ) (m : Machine) → is_wide (after_second s m) ≡ ends_wide (end_of_second m)
unfolding after_second end_of_second is_wide ends_wide
after-all s (at l k x) = refl
after-all s (done r x) = refl
after-all s wide = refl

-- what holds of equal reductions and an equal end holds of these
agree : (x : Reductions) (y : End) {x' : Reductions} {y' : End} → x ≡ x' → y ≡ y' → is_wide x' ≡ ends_wide y' → is_wide x ≡ ends_wide y
agree x y e f h = ap is_wide e ∙ h ∙ sym (ap ends_wide f)

module _ (t : Transforms) (rule : Rule) (limit : ℕ) (K : Sections) (p : ℕ) where
  Agree : Type 0
  Agree = is_wide (reductions t rule limit K p) ≡ ends_wide (end t rule limit K p)

  abbrev first_machine : Machine
  first_machine = reduce limit (first_sizes t K p) rule (first_start t K p)

  module _ (r : ℕ) (x : State) (first : first_machine ≡ done r x) where
    abbrev second_machine : Machine
    second_machine = reduce limit (second_sizes t K p r) rule (second_start t K p r x)

    after-product : (b : Bool) → table_within limit (product K p r x) ≡ b → end t rule limit K p ≡ end_of_product b second_machine
    unfolding end end_of_first
    after-product b e = ap (end_of_first t rule limit K p) first ∙ ap (λ (u : Bool). end_of_product u second_machine) e

    from-product : (b : Bool) → table_within limit (product K p r x) ≡ b → Agree
    unfolding Agree end_of_product is_wide ends_wide
    from-product true e = agree _ _ (after-second t rule limit K p r x first e second_machine refl) (after-product true e) (after-all _ second_machine)
    from-product false e = agree _ _ (product_wide t rule limit K p r x first e) (after-product false e) refl

  from_first : (m : Machine) → first_machine ≡ m → Agree
  unfolding Agree end end_of_first after_first is_wide ends_wide
  from_first (at l k x) e = agree _ _ (after_first_lem t rule limit K p (at l k x) e) (ap (end_of_first t rule limit K p) e) refl
  from_first (done r x) e = from-product r x e (table_within limit (product K p r x)) refl
  from_first wide e = agree _ _ (first-wide t rule limit K p e) (ap (end_of_first t rule limit K p) e) refl

  pub wide-end : is_wide (reductions t rule limit K p) ≡ ends_wide (end t rule limit K p)
  unfolding Agree
  wide-end = from_first first_machine refl

  -- what does not come to its end is too wide
  pub end-wide : (e : End) → end t rule limit K p ≡ e → ends_wide e ≡ true → reductions t rule limit K p ≡ too_wide
  unfolding is_wide
  end-wide e f w = narrow (reductions t rule limit K p) (wide-end ∙ ap ends_wide f ∙ w)
    where
      narrow : (x : Reductions) → is_wide x ≡ true → x ≡ too_wide
      narrow too_wide h = refl
      narrow (reduced s r x) h = absurd (false≢true h)
