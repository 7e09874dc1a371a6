-- The two reductions of a dimension p: document 01, "The reduction"; the peak of both, document 02, Note 4; the
-- transforms that may be kept besides, Note 6.
use Rattle.std.specs.Prelude.{Bool, true, false, cond, ℕ, suc, ◌+◌, ◌-◌, ltb, drop}
use Rattle.limits.specs.Limits.{entry_limit}
use Rattle.matrices.specs.Matrix.{mul, identity, null}
use Rattle.complexes.specs.Complex.{Sections, count}
use Rattle.complexes.specs.Boundary.{count_below, boundary}
use Rattle.reduction_steps.specs.Table.{Table, entry, table, table_within}
use Rattle.reduction_steps.specs.State.{Sizes, State, noted}
use Rattle.reduction_steps.specs.Pivot.{Rule}
use Rattle.reduction_steps.specs.Step.{Machine, at, done, wide, reduce}

-- ---- the companions

-- The transforms that are kept besides V and its inverse in the first reduction, and besides Q and G in the second: that of the rows of the first, with
-- its inverse; that of the rows of the second, with its inverse; that of the columns of the second; the inverse of the last.
pub record Transforms : Type 0 where
  pub first_rows : Bool
  pub second_rows : Bool
  pub second_columns : Bool
  pub second_columns_inverse : Bool

-- that of the columns of the second alone, or none
abbrev pub second_columns_only : Bool → Transforms
second_columns_only kept = record { first_rows = false; second_rows = false; second_columns = kept; second_columns_inverse = false }

-- the report and the coordinates need none
abbrev pub no_transforms : Transforms
no_transforms = second_columns_only false

-- a companion that is absent
abbrev pub absent : ℕ → Table
absent lines = table lines 0 null

-- a transform of n lines, and their length: it starts as the identity, or is absent
abbrev pub transform : Bool → ℕ → Table
transform kept n = cond kept (table n n identity) (absent n)

abbrev pub width : Bool → ℕ → ℕ
width kept n = cond kept n 0

-- a companion T of m lines of length n with such a transform to the right of it, and the length of the lines
abbrev pub beside : Bool → ℕ → ℕ → Table → Table
beside kept m n T = cond kept (table m (n + m) (λ i j. cond (ltb j n) (entry T i j) (identity i (j - n)))) T

abbrev pub width_beside : Bool → ℕ → ℕ → ℕ
width_beside kept m n = cond kept (n + m) n

-- ---- the first reduction: the boundary matrix of p, with V and its inverse

abbrev pub first_sizes : Transforms → Sections → ℕ → Sizes
first_sizes t K p =
    record {
      rows = count_below K p;
      columns = count K p;
      row_follower = width t.first_rows (count_below K p);
      row_inverse = width t.first_rows (count_below K p);
      column_follower = count K p;
      column_inverse = count K p;
    }

unfoldable pub first_start : Transforms → Sections → ℕ → State
first_start t K p =
    noted (record {
      matrix = table (count_below K p) (count K p) (boundary K p);
      row_follower = transform t.first_rows (count_below K p);
      row_inverse = transform t.first_rows (count_below K p);
      column_follower = table (count K p) (count K p) identity;
      column_inverse = table (count K p) (count K p) identity;
      peak = 0;
    })

-- ---- the second: with rank r, Q is the rows of the inverse from r on and G the columns of V from r on; the matrix is Q times that of p + 1

abbrev pub second_sizes : Transforms → Sections → ℕ → ℕ → Sizes
second_sizes t K p r =
    record {
      rows = count K p - r;
      columns = count K (suc p);
      row_follower = width_beside t.second_rows (count K p - r) (count K p);
      row_inverse = width_beside t.second_rows (count K p - r) (count K p);
      column_follower = width t.second_columns (count K (suc p));
      column_inverse = width t.second_columns_inverse (count K (suc p));
    }

-- Q times the matrix of dimension p + 1
unfoldable pub product : Sections → ℕ → ℕ → State → Table
product K p r s = table (count K p - r) (count K (suc p)) (mul (count K p) (entry (drop r s.column_inverse)) (boundary K (suc p)))

unfoldable pub second_start : Transforms → Sections → ℕ → ℕ → State → State
second_start t K p r s =
    noted (record {
      matrix = product K p r s;
      row_follower = beside t.second_rows (count K p - r) (count K p) (drop r s.column_inverse);
      row_inverse = beside t.second_rows (count K p - r) (count K p) (drop r s.column_follower);
      column_follower = transform t.second_columns (count K (suc p));
      column_inverse = transform t.second_columns_inverse (count K (suc p));
      peak = s.peak;
    })

-- What the two come to: too wide, or the number of rows of Q, the rank of the second reduction and what it leaves.
pub data Reductions : Type 0 where
  too_wide : Reductions
  reduced : ℕ → ℕ → State → Reductions

-- after the second reduction of s rows; it has ended (`reduce-ends`), so that the first case does not occur
unfoldable pub after_second : ℕ → Machine → Reductions
after_second s (at l k x) = too_wide
after_second s (done r x) = reduced s r x
after_second s wide = too_wide

module _ (t : Transforms) (rule : Rule) (limit : ℕ) (K : Sections) (p : ℕ) where
  -- after the product, every entry lies within the limit; then the second reduction
  unfoldable pub second : ℕ → State → Reductions
  second r s =
      elim (table_within limit (product K p r s)) [
        | true ↦ after_second (count K p - r) (reduce limit (second_sizes t K p r) rule (second_start t K p r s))
        | false ↦ too_wide
      ]

  -- after the first reduction; it has ended (`reduce-ends`), so that the first case does not occur
  unfoldable pub after_first : Machine → Reductions
  after_first (at l k x) = too_wide
  after_first (done r x) = second r x
  after_first wide = too_wide

  -- the two reductions of dimension p
  unfoldable pub reductions : Reductions
  reductions = after_first (reduce limit (first_sizes t K p) rule (first_start t K p))

-- with document 01's entry limit
abbrev pub reductions_of : Transforms → Rule → Sections → ℕ → Reductions
reductions_of t rule K p = reductions t rule entry_limit K p
