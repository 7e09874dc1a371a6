-- What a surface is written from, `CanSurface`, row by row: `row-asked`, what the product of a row with the chain asks; `column-line`, a pivot has
-- a line of the columns' follower. `term` is what the pivot i adds to coefficient j: `quotient-small`, and `terms-small` of the first so many.
use mathlib.Core.Path.{◌≡◌, sym, subst}
use mathlib.Core.List.{List}
use Prim.Native.Nat.{ℕ, ◌*◌, ◌≤◌, ◌<◌}
use native.Mathlib.Nat.{le_trans, mul-le-mul, mul-le-mul_right}
use native.Mathlib.Decide.{dec_lt}
use native.Mathlib.Omega.{arith}
use lib.ListN.{length}
use lib.IntN.{ℤ, nat_abs, ◌*ℤ◌}
use lib.Signed.{<ℤ_irrefl}
use Rattle.integers.specs.Division.{floor}
use Rattle.integers.specs.Slot.{slot}
use Rattle.integers.proofs.Floor.{nat_abs-floor}
use Rattle.integers.proofs.Order.{nat_abs_mul}
use Rattle.limits.specs.Limits.{library_limit, entry_limit, coefficient_limit, surface_coefficient_limit}
use Rattle.matrices.specs.Sum.{sum}
use Rattle.matrices.specs.Vector.{apply}
use Rattle.matrices.proofs.SumLaws.{nat_abs-sum}
use Rattle.matrix_lines.specs.Slice.{Small}
use Rattle.matrix_lines.specs.Matrices.{Held}
use Rattle.matrix_lines.specs.declared.matrix.Matrix.{Matrix}
use Rattle.operations.specs.Laid.{lines_of}
use Rattle.reduction_steps.specs.Table.{entry}
use Rattle.two_reductions.specs.declared.reduced.Reduced.{Reduced}
use Rattle.writers.specs.Written.{kind_in, CanSurface, row_limit, term_limit}
use Rattle.writers.proofs.Held.{row-follower-held}
use Rattle.writers.proofs.Entries.{entry-lines, entry-lines-past}

-- row i of Q times the chain
abbrev pub row_times : Matrix → List ℤ → List ℤ → ℕ → ℤ
row_times q w z = apply q.width (entry (lines_of q w)) (slot z)

-- the same over the pivot
abbrev pub quotient_at : Matrix → Matrix → List ℤ → List ℤ → ℕ → ℤ
quotient_at m q w z i = floor (row_times q w z i) (kind_in m w i)

abbrev pub term : Matrix → Matrix → Matrix → List ℤ → List ℤ → ℕ → ℕ → ℤ
term m q columns w z j i = quotient_at m q w z i *ℤ entry (lines_of columns w) i j

-- an entry lies within the limit
entry-small : (M : Matrix) (w : List ℤ) (i j : ℕ) → Small w → i < M.lines → j < M.width → nat_abs (entry (lines_of M w) i j) ≤ entry_limit
entry-small M w i j small a b = rw (entry-lines M w i j a b) (small.bound _)

module _ {x : Reduced} {w z : List ℤ} (can : CanSurface x w z) where
  abbrev m : Matrix
  m = x.workspace.matrix

  abbrev q : Matrix
  q = x.workspace.row_follower

  abbrev columns : Matrix
  columns = x.workspace.column_follower

  -- ---- the rows

  module _ {i : ℕ} (below : i < m.lines) where
    row_line : i < q.lines
    row_line = subst (λ (n : ℕ). i < n) (sym can.laid.row-follower-lines) below

    width_small : q.width ≤ library_limit
    width_small = subst (λ (n : ℕ). n ≤ library_limit) (sym can.width) can.width-within

    pub row-asked :
        (Held (length w) q × (i < q.lines) × (q.width ≡ length z) × (q.width ≤ library_limit) × Small w)
        × ((j : ℕ) → nat_abs (slot z j) ≤ coefficient_limit)
    row-asked =
        ((row-follower-held can.laid, row_line, can.width, width_small, can.small), λ j. omega (arith, can.coefficients j))

    row_small : nat_abs (row_times q w z i) ≤ row_limit
    unfolding apply
    row_small =
        le_trans
        (nat_abs-sum q.width (λ j. entry (lines_of q w) i j *ℤ slot z j) (entry_limit * surface_coefficient_limit) (λ j l.
        rw (nat_abs_mul (entry (lines_of q w) i j) (slot z j))
        (mul-le-mul (entry-small q w i j can.small row_line l) (can.coefficients j))))
        (mul-le-mul_right (entry_limit * surface_coefficient_limit) width_small)

    pub quotient-small : nat_abs (quotient_at m q w z i) ≤ row_limit
    quotient-small = le_trans (nat_abs-floor (row_times q w z i) (kind_in m w i)) row_small

  -- ---- the pivots

  pub column-line : (i : ℕ) → i < x.rank → i < columns.lines
  column-line i l = rw can.laid.column-follower-lines (pick (dec_lt i m.width))
    where
      pick : Dec (i < m.width) → i < m.width
      pick (yes below) = below
      pick (no past) = absurd (<ℤ_irrefl (rw (entry-lines-past m w i i (omega arith)) at (can.pivots i l)))

  pub terms-small : (n j : ℕ) → n ≤ x.rank → j < columns.width → nat_abs (sum n (term m q columns w z j)) ≤ n * term_limit
  terms-small n j h l =
      nat_abs-sum n (term m q columns w z j) term_limit (λ i k.
      rw (nat_abs_mul (quotient_at m q w z i) (entry (lines_of columns w) i j))
      (mul-le-mul (quotient-small (omega (arith, can.rank_below))) (entry-small columns w i j can.small (column-line i (omega arith)) l)))
