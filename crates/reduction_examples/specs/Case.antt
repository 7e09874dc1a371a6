-- A case: a matrix with its companions, and what the reduction is to make of them.
use Rattle.std.specs.Prelude.{Bool, ◌≡◌, ℕ, T, ℤ, pos, neg_ℤ}
use Rattle.matrices.specs.Matrix.{identity}
use Rattle.reduction_steps.specs.Table.{Table, table}
use Rattle.reduction_steps.specs.State.{Sizes, State, noted}
use Rattle.reduction_steps.specs.Pivot.{release1}
use Rattle.reduction_steps.specs.Step.{Machine, reduce}
use Rattle.reduction_examples.specs.Same.{same_machine, same_machine-eq}

pub record Case : Type 0 where
  pub limit : ℕ
  pub sizes : Sizes
  pub start : State
  pub expected : Machine

-- what the reduction makes of a case
unfoldable pub outcome : Case → Machine
outcome c = reduce c.limit c.sizes release1 c.start

unfoldable pub good : Case → Bool
good c = same_machine (outcome c) c.expected

-- a good case has the outcome expected
pub good-eq : (c : Case) → T (good c) → reduce c.limit c.sizes release1 c.start ≡ c.expected
unfolding good outcome
good-eq c t = same_machine-eq (reduce c.limit c.sizes release1 c.start) c.expected t

-- ---- short forms for the table

abbrev pub minus : ℕ → ℤ
minus n = neg_ℤ (pos n)

-- m rows and n columns with four square companions, with those of the rows, with those of the columns, and without any
abbrev pub with_all : ℕ → ℕ → Sizes
with_all m n = record { rows = m; columns = n; row_follower = m; row_inverse = m; column_follower = n; column_inverse = n }

abbrev pub with_rows : ℕ → ℕ → Sizes
with_rows m n = record { rows = m; columns = n; row_follower = m; row_inverse = m; column_follower = 0; column_inverse = 0 }

abbrev pub with_columns : ℕ → ℕ → Sizes
with_columns m n = record { rows = m; columns = n; row_follower = 0; row_inverse = 0; column_follower = n; column_inverse = n }

abbrev pub alone : ℕ → ℕ → Sizes
alone m n = record { rows = m; columns = n; row_follower = 0; row_inverse = 0; column_follower = 0; column_inverse = 0 }

-- a matrix whose companions, of these sizes, are identities, and the peak
abbrev pub identities : Sizes → Table → ℕ → State
identities z A n = record {
  matrix = A;
  row_follower = table z.rows z.row_follower identity;
  row_inverse = table z.rows z.row_inverse identity;
  column_follower = table z.columns z.column_follower identity;
  column_inverse = table z.columns z.column_inverse identity;
  peak = n;
}

-- a case that starts so, with the peak of its own entries
abbrev pub from_identities : ℕ → Sizes → Table → Machine → Case
from_identities limit z A expected = record { limit = limit; sizes = z; start = noted (identities z A 0); expected = expected }

-- m rows and n columns without companions, and the peak
abbrev pub bare : ℕ → ℕ → Table → ℕ → State
bare m n A peak = identities (alone m n) A peak
