-- The matrices of the two reductions follow one another in a slice with room for them (room-kept): first-laid, second-laid.
use mathlib.Core.Path.{◌≡◌, refl, sym, ◌∙◌, ap}
use mathlib.Core.Bool.{Bool, true, false}
use Prim.Native.Nat.{ℕ, suc, ◌+◌, ◌*◌, ◌-◌, ◌≤◌, max}
use native.Mathlib.Nat.{mul_comm, mul-zero, mul-add, add-mul, mul-le-mul, le_refl, le-max_left, le-max_right}
use native.Mathlib.Omega.{arith}
use Rattle.complexes.specs.Complex.{Sections, count}
use Rattle.reports.specs.Reductions.{second_columns_only, width}
use Rattle.requests.specs.Call.{work_slots, work_slots_for}
use Rattle.matrix_lines.specs.Matrices.{Held}
use Rattle.operations.specs.Laid.{Laid}
use Rattle.operations.specs.declared.workspace.Workspace.{Workspace}
use Rattle.operations.proofs.Regions.{Disjoint}
use Rattle.two_reductions.specs.Workspaces.{first_workspace, second_workspace}

-- the room of the matrices, the transform of the columns included where it is kept
pub room-kept : (K : Sections) (p : ℕ) (kept : Bool) → work_slots_for (second_columns_only kept) K p ≡ work_slots K p + count K (suc p) * width kept (count K (suc p))
room-kept K p true = refl
room-kept K p false = omega (arith, mul-zero (count K (suc p)))

module _ {n : ℕ} (cells rows columns : ℕ) (slots : cells * (2 * cells + max rows columns) ≤ n) where
  -- the room for the matrix, then two squares
  parts : cells * max rows columns + 2 * (cells * cells) ≤ n
  parts = omega (arith, mul-add cells (2 * cells) (max rows columns), twice)
    where
      twice : cells * (2 * cells) ≡ 2 * (cells * cells)
      twice = omega (arith, mul_comm cells (2 * cells), mul_comm (cells * cells) 2)

  rows_fit : rows * cells ≤ cells * max rows columns
  rows_fit = omega (arith, mul_comm rows cells, mul-le-mul (le_refl cells) (le-max_left rows columns))

  pub first-laid : Laid n (first_workspace cells rows columns)
  unfolding first_workspace
  first-laid = record {
    row-inverse-lines = refl;
    row-follower-lines = refl;
    column-follower-lines = refl;
    column-inverse-lines = refl;
    after-matrix = omega (arith, rows_fit);
    after-row-inverse = omega (arith, mul-zero rows);
    after-row-follower = omega (arith, mul-zero rows);
    after-column-follower = omega arith;
    after-column-inverse = omega (arith, parts);
  }

-- the second keeps columns of length `kept`
module _ {n : ℕ} (cells rows columns kept : ℕ) (slots : cells * (2 * cells + max rows columns) + columns * kept ≤ n) where
  parts-kept : cells * max rows columns + 2 * (cells * cells) + columns * kept ≤ n
  parts-kept =
      omega (arith, parts {n = cells * (2 * cells + max rows columns)} cells rows columns (le_refl (cells * (2 * cells + max rows columns))))

  module _ (rank : ℕ) (within : rank ≤ cells) where
    -- the lines before the rank and those from it on
    square : rank * cells + (cells - rank) * cells ≡ cells * cells
    square = sym (add-mul rank (cells - rank) cells) ∙ ap (λ (x : ℕ). x * cells) (omega arith)

    product-fits : (cells - rank) * columns ≤ cells * max rows columns
    product-fits = mul-le-mul (omega arith) (le-max_right rows columns)

    pub second-laid : Laid n (second_workspace cells rows columns kept rank)
    unfolding second_workspace
    second-laid = record {
      row-inverse-lines = refl;
      row-follower-lines = refl;
      column-follower-lines = refl;
      column-inverse-lines = refl;
      after-matrix = omega (arith, product-fits);
      after-row-inverse = omega (arith, square);
      after-row-follower = omega (arith, square);
      after-column-follower = omega arith;
      after-column-inverse = omega (arith, parts-kept, mul-zero columns);
    }

-- ---- each matrix lies within the slice

module _ {n : ℕ} {W : Workspace} (l : Laid n W) where
  pub held-matrix : Held n W.matrix
  held-matrix = record { ends = omega arith }

  pub held-row-follower : Held n W.row_follower
  held-row-follower = record { ends = omega arith }

  pub held-column-follower : Held n W.column_follower
  held-column-follower = record { ends = omega arith }

  pub held-column-inverse : Held n W.column_inverse
  held-column-inverse = record { ends = omega arith }

  -- the matrix shares no place with its companions, nor do those of the column operations
  pub matrix-row-inverse : Disjoint W.matrix W.row_inverse
  matrix-row-inverse = record { none = λ p s t. omega arith }

  pub matrix-row-follower : Disjoint W.matrix W.row_follower
  matrix-row-follower = record { none = λ p s t. omega arith }

  pub matrix-column-follower : Disjoint W.matrix W.column_follower
  matrix-column-follower = record { none = λ p s t. omega arith }

  pub matrix-column-inverse : Disjoint W.matrix W.column_inverse
  matrix-column-inverse = record { none = λ p s t. omega arith }

  pub column-follower-inverse : Disjoint W.column_follower W.column_inverse
  column-follower-inverse = record { none = λ p s t. omega arith }
