-- What the scans of the matrix answer.
use Rattle.std.specs.Prelude.{◌≡◌, ◌≢◌, ℕ, ◌<◌, nat_abs, Option, Some, None}
use Rattle.matrices.specs.Matrix.{Matrix}
use Rattle.reduction_steps.specs.Pivot.{Choice, none, place}
use Rattle.reduction_steps.specs.Step.{Row, no_row, row}
use Rattle.scans.specs.declared.pivot.Best.{Best}

-- the place that the scan has chosen so far
abbrev pub choice_of : Option Best → Choice
choice_of (Some b) = place b.row b.column
choice_of None = none

-- its size is the absolute value of the entry there, which is not 0
pub record Sized (A : Matrix) (b : Best) : Type 0 where
  pub size : b.size ≡ nat_abs (A b.row b.column)
  pub nonzero : b.size ≢ 0

abbrev pub IsBest : Matrix → Option Best → Type 0
IsBest A (Some b) = Sized A b
IsBest A None = Unit {0}

abbrev pub pivot_choice : Option (ℕ × ℕ) → Choice
pivot_choice (Some p) = place p.0 p.1
pivot_choice None = none

abbrev pub indivisible_row : Option ℕ → Row
indivisible_row (Some i) = row i
indivisible_row None = no_row

-- below row k, column k of a matrix of so many rows holds numbers of lesser absolute value than the pivot
pub record ColumnReduced (A : Matrix) (k rows : ℕ) : Type 0 where
  pub less : (i : ℕ) → k < i → i < rows → nat_abs (A i k) < nat_abs (A k k)
