-- What a call is asked about: a sheet and a dimension. Its cells, its pivot rule and its two reductions are functions of the question, so that all that is
-- said of one question is said of the same cells under the same rule. The count limit is the call's and stands outside.
use Rattle.std.specs.Prelude.{List, ℕ, suc}
use Rattle.complexes.specs.Complex.{Sections, count}
use Rattle.sheet_format.specs.Check.{sections_of}
use Rattle.reduction_steps.specs.Pivot.{Rule, pivot_rule}
use Rattle.reports.specs.Reductions.{Reductions, Transforms, reductions_of}

pub record Question : Type 0 where
  pub sheet : List ℕ
  pub dimension : ℕ

abbrev pub asked : List ℕ → ℕ → Question
asked b p = record { sheet = b; dimension = p }

module _ (q : Question) where
  -- the cells that chains, matrices and counts use from check 9 on: all of the sheet's
  unfoldable pub cells : Sections
  cells = sections_of q.sheet

  -- n_p
  abbrev pub cell_count : ℕ
  cell_count = count cells q.dimension

  -- n_(p+1)
  abbrev pub next_count : ℕ
  next_count = count cells (suc q.dimension)

  -- the rule by which the reductions choose a pivot
  unfoldable pub rule : Rule
  rule = pivot_rule

  -- what the two reductions of the dimension come to, with the transforms that they keep
  unfoldable pub two : Transforms → Reductions
  two t = reductions_of t rule cells q.dimension
