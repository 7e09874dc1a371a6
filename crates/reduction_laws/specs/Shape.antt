-- Tables of the right sizes: `Shaped`. An operation on such a state makes every table that it changes from the entries (rows-anew, columns-anew) and
-- keeps the sizes (shaped-rows, shaped-columns); what the matrix holds after it (matrix-rows, matrix-columns). largest-iff: the largest absolute value
-- of an entry is at most the limit where each table lies within it; within-iff: so with the test of the limit.
use Rattle.std.specs.Prelude.{◌≡◌, ◌↔◌, true, ℕ, ◌≤◌, max, nat_abs}
use Rattle.std.proofs.Common.{sym, ◌∙◌, ap, subst, arith, leb-true, le-leb}
use Rattle.std.proofs.Math.Nat.{max-le}
use Rattle.matrices.specs.Operation.{Operation, on_rows, on_columns, inverse}
use Rattle.matrices.specs.Within.{Within}
use Rattle.reduction_steps.specs.Table.{Table, entry, table, table_largest, table_within}
use Rattle.reduction_steps.specs.State.{Sizes, State, noted, row_operation, column_operation, largest, within}
use Rattle.reduction_laws.specs.Tables.{table-entry, table_within-le, table_within-iff}
use Rattle.reduction_laws.specs.Bounded.{Bounded, bounded-table, entry-bounded, bounded-rows, bounded-columns}
use Rattle.reduction_laws.specs.LinesLaws.{on_lines-is, on_entries-is}

-- every table of the state is the table of its own entries, at its size
pub record Shaped (z : Sizes) (s : State) : Type 0 where
  pub matrix : s.matrix ≡ table z.rows z.columns (entry s.matrix)
  pub row_follower : s.row_follower ≡ table z.rows z.row_follower (entry s.row_follower)
  pub row_inverse : s.row_inverse ≡ table z.rows z.row_inverse (entry s.row_inverse)
  pub column_follower : s.column_follower ≡ table z.columns z.column_follower (entry s.column_follower)
  pub column_inverse : s.column_inverse ≡ table z.columns z.column_inverse (entry s.column_inverse)

-- ---- an operation, every table of it made anew

-- so many lines, so long, after an operation on them
abbrev pub lines_anew : ℕ → ℕ → Operation → Table → Table
lines_anew lines long op T = table lines long (on_rows op (entry T))

abbrev pub rows_anew : Sizes → Operation → State → State
rows_anew z op s =
    noted (record {
      matrix = lines_anew z.rows z.columns op s.matrix;
      row_follower = lines_anew z.rows z.row_follower op s.row_follower;
      row_inverse = lines_anew z.rows z.row_inverse (inverse op) s.row_inverse;
      column_follower = s.column_follower;
      column_inverse = s.column_inverse;
      peak = s.peak;
    })

abbrev pub columns_anew : Sizes → Operation → State → State
columns_anew z op s =
    noted (record {
      matrix = table z.rows z.columns (on_columns op (entry s.matrix));
      row_follower = s.row_follower;
      row_inverse = s.row_inverse;
      column_follower = lines_anew z.columns z.column_follower op s.column_follower;
      column_inverse = lines_anew z.columns z.column_inverse (inverse op) s.column_inverse;
      peak = s.peak;
    })

module _ {z : Sizes} {s : State} (op : Operation) (h : Shaped z s) where
  pub rows-anew : row_operation z op s ≡ rows_anew z op s
  unfolding row_operation
  rows-anew =
      rw (
        on_lines-is z.rows z.columns s.matrix h.matrix op,
        on_lines-is z.rows z.row_follower s.row_follower h.row_follower op,
        on_lines-is z.rows z.row_inverse s.row_inverse h.row_inverse (inverse op),
      )

  pub columns-anew : column_operation z op s ≡ columns_anew z op s
  unfolding column_operation
  columns-anew =
      rw (
        on_entries-is z.rows z.columns s.matrix h.matrix op,
        on_lines-is z.columns z.column_follower s.column_follower h.column_follower op,
        on_lines-is z.columns z.column_inverse s.column_inverse h.column_inverse (inverse op),
      )

  pub shaped-rows : Shaped z (row_operation z op s)
  shaped-rows =
      subst (Shaped z) (sym rows-anew) (record {
        matrix = sym (table-entry z.rows z.columns (on_rows op (entry s.matrix)));
        row_follower = sym (table-entry z.rows z.row_follower (on_rows op (entry s.row_follower)));
        row_inverse = sym (table-entry z.rows z.row_inverse (on_rows (inverse op) (entry s.row_inverse)));
        column_follower = h.column_follower;
        column_inverse = h.column_inverse;
      })

  pub shaped-columns : Shaped z (column_operation z op s)
  shaped-columns =
      subst (Shaped z) (sym columns-anew) (record {
        matrix = sym (table-entry z.rows z.columns (on_columns op (entry s.matrix)));
        row_follower = h.row_follower;
        row_inverse = h.row_inverse;
        column_follower = sym (table-entry z.columns z.column_follower (on_rows op (entry s.column_follower)));
        column_inverse = sym (table-entry z.columns z.column_inverse (on_rows (inverse op) (entry s.column_inverse)));
      })

-- ---- the matrix after an operation

pub shaped-bounded : {z : Sizes} {s : State} → Shaped z s → Bounded z.rows z.columns (entry s.matrix)
shaped-bounded {z} {s} h =
    subst (λ (T : Table). Bounded z.rows z.columns (entry T)) (sym h.matrix) (bounded-table z.rows z.columns (entry s.matrix))

module _ {z : Sizes} {s : State} (op : Operation) (h : Shaped z s) where
  -- the entries of the matrix after an operation, also outside the range
  pub matrix-rows : Within z.rows op → entry (row_operation z op s).matrix ≡ on_rows op (entry s.matrix)
  matrix-rows w =
      ap (λ (u : State). entry u.matrix) (rows-anew op h)
      ∙ entry-bounded z.rows z.columns (on_rows op (entry s.matrix)) (bounded-rows op w (shaped-bounded h))

  pub matrix-columns : Within z.columns op → entry (column_operation z op s).matrix ≡ on_columns op (entry s.matrix)
  matrix-columns w =
      ap (λ (u : State). entry u.matrix) (columns-anew op h)
      ∙ entry-bounded z.rows z.columns (on_columns op (entry s.matrix)) (bounded-columns op w (shaped-bounded h))

-- ---- the test of the limit

pub record AllWithin (limit : ℕ) (s : State) : Type 0 where
  pub matrix : table_within limit s.matrix ≡ true
  pub row_follower : table_within limit s.row_follower ≡ true
  pub row_inverse : table_within limit s.row_inverse ≡ true
  pub column_follower : table_within limit s.column_follower ≡ true
  pub column_inverse : table_within limit s.column_inverse ≡ true

pub largest-iff : (limit : ℕ) (s : State) → (largest s ≤ limit) ↔ AllWithin limit s
unfolding largest
largest-iff limit s = (forth, back)
  where
    M : ℕ
    M = table_largest s.matrix

    R : ℕ
    R = table_largest s.row_follower

    I : ℕ
    I = table_largest s.row_inverse

    C : ℕ
    C = table_largest s.column_follower

    J : ℕ
    J = table_largest s.column_inverse

    forth : max M (max R (max I (max C J))) ≤ limit → AllWithin limit s
    forth h = record {
      matrix = (table_within-le limit s.matrix).1 (omega arith);
      row_follower = (table_within-le limit s.row_follower).1 (omega arith);
      row_inverse = (table_within-le limit s.row_inverse).1 (omega arith);
      column_follower = (table_within-le limit s.column_follower).1 (omega arith);
      column_inverse = (table_within-le limit s.column_inverse).1 (omega arith);
    }

    back : AllWithin limit s → max M (max R (max I (max C J))) ≤ limit
    back h =
        max-le ((table_within-le limit s.matrix).0 h.matrix)
        (max-le ((table_within-le limit s.row_follower).0 h.row_follower)
        (max-le ((table_within-le limit s.row_inverse).0 h.row_inverse)
        (max-le ((table_within-le limit s.column_follower).0 h.column_follower) ((table_within-le limit s.column_inverse).0 h.column_inverse))))

pub within-le : (limit : ℕ) (s : State) → (within limit s ≡ true) ↔ (largest s ≤ limit)
unfolding within
within-le limit s = (leb-true (largest s) limit, le-leb (largest s) limit)

pub within-iff : (limit : ℕ) (s : State) → (within limit s ≡ true) ↔ AllWithin limit s
within-iff limit s = (λ e. (largest-iff limit s).0 ((within-le limit s).0 e), λ h. (within-le limit s).1 ((largest-iff limit s).1 h))

-- every entry of the matrix lies within the limit
pub within-entry : (limit : ℕ) (s : State) → within limit s ≡ true → (i j : ℕ) → nat_abs (entry s.matrix i j) ≤ limit
within-entry limit s e i j = (table_within-iff limit s.matrix).0 ((within-iff limit s).0 e).matrix i j
