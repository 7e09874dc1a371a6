-- What it means that the two reductions of a dimension go too wide: document 01, "The reduction". The transforms that they keep count too.
use Rattle.std.specs.Prelude.{◌≡◌, true, false, ℕ}
use Rattle.complexes.specs.Complex.{Sections}
use Rattle.reduction_steps.specs.Table.{table_within}
use Rattle.reduction_steps.specs.State.{State}
use Rattle.reduction_steps.specs.Pivot.{Rule}
use Rattle.reduction_steps.specs.Step.{Machine, at, done, wide, a, Reaches}
use Rattle.reports.specs.Reductions.{Transforms, first_sizes, first_start, second_sizes, second_start, product}

module _ (t : Transforms) (limit : ℕ) (rule : Rule) (K : Sections) (p : ℕ) where
  -- the first reduction leads from its start to x
  abbrev pub FirstReaches : Machine → Type 0
  FirstReaches x = Reaches limit (first_sizes t K p) rule (at a 0 (first_start t K p)) x

  -- the second, after a first of rank r that left s
  abbrev pub SecondReaches : ℕ → State → Machine → Type 0
  SecondReaches r s x = Reaches limit (second_sizes t K p r) rule (at a 0 (second_start t K p r s)) x

  -- they make an entry beyond the limit: in the first, in the product, or in the second
  pub data GoesWide : Type 0 where
    in-first : FirstReaches wide → GoesWide
    in-product : (r : ℕ) (s : State) → FirstReaches (done r s) → table_within limit (product K p r s) ≡ false → GoesWide
    in-second : (r : ℕ) (s : State) → FirstReaches (done r s) → table_within limit (product K p r s) ≡ true → SecondReaches r s wide → GoesWide
