-- Where the work of a dimension ends, for examples that go too wide: document 01, "The reduction".
-- `proofs/WideEndLaws.antt`: the two reductions are too wide exactly where the work does not come to its end.
use Rattle.std.specs.Prelude.{Bool, ℕ}
use Rattle.std.proofs.Math.Bool.{true, false}
use Rattle.complexes.specs.Complex.{Sections}
use Rattle.reduction_steps.specs.Table.{table_within}
use Rattle.reduction_steps.specs.Pivot.{Rule}
use Rattle.reduction_steps.specs.Step.{Machine, at, done, wide, reduce}
use Rattle.reports.specs.Reductions.{Reductions, too_wide, reduced, Transforms, first_sizes, first_start, second_sizes, product, second_start}

-- in the first reduction, after the product, in the second reduction, or at its end
pub data End : Type 0 where
  in_first in_product in_second at_end : End

unfoldable pub end_of_second : Machine → End
end_of_second (at l k x) = in_second
end_of_second (done r x) = at_end
end_of_second wide = in_second

-- after the product, which is within the limit or not
unfoldable pub end_of_product : Bool → Machine → End
end_of_product true m = end_of_second m
end_of_product false m = in_product

module _ (t : Transforms) (rule : Rule) (limit : ℕ) (K : Sections) (p : ℕ) where
  unfoldable pub end_of_first : Machine → End
  end_of_first (at l k x) = in_first
  end_of_first (done r x) =
      end_of_product (table_within limit (product K p r x)) (reduce limit (second_sizes t K p r) rule (second_start t K p r x))
  end_of_first wide = in_first

  unfoldable pub end : End
  end = end_of_first (reduce limit (first_sizes t K p) rule (first_start t K p))

unfoldable pub is_wide : Reductions → Bool
is_wide too_wide = true
is_wide (reduced s r x) = false

unfoldable pub ends_wide : End → Bool
ends_wide in_first = true
ends_wide in_product = true
ends_wide in_second = true
ends_wide at_end = false
