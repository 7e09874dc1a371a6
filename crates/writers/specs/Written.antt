-- What the writers of the report, of the coordinates and of the surface leave.
use Rattle.std.specs.Prelude.{◌≡◌, List, ℕ, ◌+◌, ◌*◌, ◌^◌, ◌≤◌, ◌<◌, length, ℤ, pos, nat_abs, ◌≤ℤ◌, ◌<ℤ◌}
use Rattle.lists.specs.Splice.{splice}
use Rattle.reduction_steps.specs.Table.{entry}
use Rattle.reports.specs.Report as report
use Rattle.reports.specs.Report.{counts_of, report_list, coordinate_list}
use Rattle.lists.specs.Splice.{written}
use Rattle.requests.specs.Chains.{chain_at}
use Rattle.limits.specs.Limits.{library_limit, entry_limit, coefficient_limit, surface_coefficient_limit}
use Rattle.integers.specs.Slot.{slot}
use Rattle.matrix_lines.specs.Slice.{Small}
use Rattle.matrix_lines.specs.Matrices.{Held}
use Rattle.matrix_lines.specs.declared.matrix.Matrix.{Matrix}
use Rattle.operations.specs.Laid.{Laid, lines_of}
use Rattle.two_reductions.specs.Slices.{state_in}
use Rattle.two_reductions.specs.declared.reduced.Reduced.{Reduced}
use Rattle.writers.specs.declared.counts.Counts.{Counts}

-- the kind of row i: the entry on the diagonal, 0 past it
abbrev pub kind_in : Matrix → List ℤ → ℕ → ℤ
kind_in M w i = entry (lines_of M w) i i

-- no kind is negative
pub record Kinds (M : Matrix) (w : List ℤ) : Type 0 where
  pub nonneg : (i : ℕ) → pos 0 ≤ℤ kind_in M w i

-- the numbers stand from slot `from` on; r is the slot after them, and nothing else has changed
pub record WrittenFrom (from : ℕ) (numbers slice : List ℤ) (r : ℕ) (slice' : List ℤ) : Type 0 where
  pub next : r ≡ from + length numbers
  pub is : slice' ≡ splice from numbers slice

-- what the counts are read from
pub record CanCount (x : Reduced) (w : List ℤ) : Type 0 where
  pub laid : Laid (length w) x.workspace
  pub kinds : Kinds x.workspace.matrix w
  pub rank_below : x.rank ≤ x.workspace.matrix.lines

-- counts as those of the report's definition
abbrev pub counts_in : Counts → report.Counts
counts_in r = record { free = r.free; torsion = r.torsion; peak = r.peak; bits = r.bits }

-- r are the report's counts
abbrev pub Counted : Reduced → List ℤ → Counts → Type 0
Counted x w r = counts_in r ≡ counts_of x.workspace.matrix.lines x.rank (state_in x w)

-- what the report is written from: no kind is negative, Q has no more rows than there are cells, and there is room for the report
pub record CanReport (x : Reduced) (w : List ℤ) (m : ℕ) : Type 0 where
  pub laid : Laid (length w) x.workspace
  pub kinds : Kinds x.workspace.matrix w
  pub rank_below : x.rank ≤ x.workspace.matrix.lines
  pub lines-below : x.workspace.matrix.lines ≤ x.workspace.row_inverse.width
  pub room : 2 + x.rank + x.workspace.matrix.lines * x.workspace.row_inverse.width ≤ m

pub record WroteReport (x : Reduced) (w slice : List ℤ) (r : Counts) (slice' : List ℤ) : Type 0 where
  pub counts : Counted x w r
  pub is : slice' ≡ written (report_list x.workspace.row_inverse.width x.workspace.matrix.lines x.rank (state_in x w)) slice

-- what the coordinates are written from: no kind is negative, there is room for them from slot `from` on, and the chain is one of the dimension
pub record CanCoordinate (x : Reduced) (w z : List ℤ) (from m : ℕ) : Type 0 where
  pub laid : Laid (length w) x.workspace
  pub small : Small w
  pub kinds : Kinds x.workspace.matrix w
  pub room : from + x.workspace.matrix.lines ≤ m
  pub width : x.workspace.row_follower.width ≡ length z
  pub width-within : length z ≤ library_limit
  pub coefficients : (j : ℕ) → nat_abs (slot z j) ≤ coefficient_limit

-- the coordinates of the chain z
abbrev pub coordinates_of : Reduced → List ℤ → List ℤ → List ℤ
coordinates_of x w z = coordinate_list x.workspace.row_follower.width x.workspace.matrix.lines (state_in x w) z

-- what the coordinates of many chains are written from
pub record CanList (x : Reduced) (w : List ℤ) (cells many : ℕ) (chains : List ℤ) (m : ℕ) : Type 0 where
  pub size : length chains ≡ many * cells
  pub room : many * cells ≤ m
  pub each : (i : ℕ) → i < many → CanCoordinate x w (chain_at cells chains i) (i * cells) m

-- ---- the surface

-- what a surface is written from: no kind is negative, those of the pivots are above 0, the chain is one of the dimension, and its coefficients lie
-- within the limit of the surface call
pub record CanSurface (x : Reduced) (w z : List ℤ) : Type 0 where
  pub laid : Laid (length w) x.workspace
  pub small : Small w
  pub kinds : Kinds x.workspace.matrix w
  pub rank_below : x.rank ≤ x.workspace.matrix.lines
  pub pivots : (i : ℕ) → i < x.rank → pos 0 <ℤ kind_in x.workspace.matrix w i
  pub width : x.workspace.row_follower.width ≡ length z
  pub width-within : length z ≤ library_limit
  pub rank-within : x.rank ≤ library_limit
  pub coefficients : (j : ℕ) → nat_abs (slot z j) ≤ surface_coefficient_limit

-- the greatest absolute value of a row of Q times the chain, and of that times an entry
abbrev pub row_limit : ℕ
row_limit = library_limit * (entry_limit * surface_coefficient_limit)

abbrev pub term_limit : ℕ
term_limit = row_limit * entry_limit

-- y times line i of the matrix can be added to the sums in the slice: none wraps
pub record CanAdd (M : Matrix) (w : List ℤ) (i : ℕ) (y : ℤ) (slice : List ℤ) : Type 0 where
  pub held : Held (length w) M
  pub small : Small w
  pub line : i < M.lines
  pub factor : nat_abs y ≤ row_limit
  pub size : length slice ≡ M.width
  pub headroom : (j : ℕ) → j < M.width → nat_abs (slot slice j) + term_limit < 2 ^ 63
