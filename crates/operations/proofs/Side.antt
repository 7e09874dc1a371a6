-- The operations on rows and those on columns, told alike. An operation on a side changes the matrix, the side's follower and its
-- inverse companion, and keeps the two companions of the other side. `shaped-state`: the tables of a slice have the sizes of its workspace.
use mathlib.Core.Path.{◌≡◌, refl, sym, ◌∙◌, ap}
use mathlib.Core.Logic.{◌⊎◌}
use mathlib.Core.List.{List}
use Prim.Native.Nat.{ℕ, ◌≤◌, max}
use native.Mathlib.Omega.{arith}
use lib.IntN.{ℤ}
use Rattle.matrices.specs.Matrix as theory
use Rattle.matrices.specs.Operation.{Operation, on_rows, on_columns, inverse}
use Rattle.reduction_steps.specs.Table.{Table, entry, table, table_largest}
use Rattle.reduction_steps.specs.State.{State, Outcome, largest, noted, checked, on_row, on_column}
use Rattle.reduction_laws.specs.Tables.{table-entry}
use Rattle.reduction_laws.specs.Shape.{Shaped, lines_anew, rows-anew, columns-anew}
use Rattle.matrix_lines.specs.Slice.{entry_limit}
use Rattle.matrix_lines.specs.Matrices.{end, Held, contents, Entries, EntryOf}
use Rattle.elementary_operations.specs.Operations.{Fits, Writes}
use Rattle.matrix_lines.specs.declared.matrix.Matrix.{Matrix}
use Rattle.elementary_operations.proofs.Operations.{Fits-inverse}
use Rattle.operations.specs.Laid.{Laid, sizes_of, lines_of, state_of}
use Rattle.operations.specs.declared.workspace.Workspace.{Workspace}
use Rattle.operations.proofs.Regions.{Disjoint}

pub data Side : Type 0 where
  rows : Side
  columns : Side

abbrev pub across : Side → Side
across rows = columns
across columns = rows

-- how many lines the side's companions have
abbrev pub count : Side → Workspace → ℕ
count rows W = W.matrix.lines
count columns W = W.matrix.width

abbrev pub follower : Side → Workspace → Matrix
follower rows W = W.row_follower
follower columns W = W.column_follower

abbrev pub undone : Side → Workspace → Matrix
undone rows W = W.row_inverse
undone columns W = W.column_inverse

-- what an operation on the side makes of the matrix
abbrev pub on_side : Side → Operation → theory.Matrix → theory.Matrix
on_side rows op A = on_rows op A
on_side columns op A = on_columns op A

-- the entries of the matrix that it writes
abbrev pub written : Side → Operation → Entries
written rows op i j = Writes op i
written columns op i j = Writes op j

-- n is the absolute value of an entry that it writes
abbrev pub SideEntry : Side → Workspace → Operation → List ℤ → ℕ → Type 0
SideEntry x W op w n =
    EntryOf W.matrix (written x op) (contents W.matrix w) n
    ⊎ (EntryOf (follower x W) (λ i j. Writes op i) (contents (follower x W) w) n
    ⊎ EntryOf (undone x W) (λ i j. Writes (inverse op) i) (contents (undone x W) w) n)

-- its outcome
abbrev pub outcome_on : Side → Workspace → Operation → State → Outcome
outcome_on rows W op s = on_row entry_limit (sizes_of W) op s
outcome_on columns W op s = on_column entry_limit (sizes_of W) op s

-- the state with the matrix, the side's follower and inverse companion, those of the other side, and the peak
abbrev pub put : Side → Table → Table → Table → Table → Table → ℕ → State
put rows a b c d e peak = record { matrix = a; row_follower = b; row_inverse = c; column_follower = d; column_inverse = e; peak = peak }
put columns a b c d e peak = record { matrix = a; row_follower = d; row_inverse = e; column_follower = b; column_inverse = c; peak = peak }

pub state-put :
    (x : Side) (W : Workspace) (peak : ℕ) (w : List ℤ)
    → state_of W peak w ≡ put x (lines_of W.matrix w) (lines_of (follower x W) w) (lines_of (undone x W) w) (lines_of (follower (across x) W) w) (lines_of (undone (across x) W) w) peak
state-put rows W peak w = refl
state-put columns W peak w = refl

pub noted-put :
    (x : Side) (a b c d e : Table) (peak : ℕ) → noted (put x a b c d e peak) ≡ put x a b c d e (max peak (largest (put x a b c d e peak)))
noted-put rows a b c d e peak = refl
noted-put columns a b c d e peak = refl

-- a table is the table of its own entries, with its number of lines written in another way
table-lines : {m m' : ℕ} → m ≡ m' → (n : ℕ) (A : theory.Matrix) → table m n A ≡ table m' n (entry (table m n A))
table-lines {m} e n A = sym (table-entry m n A) ∙ ap (λ (x : ℕ). table x n (entry (table m n A))) e

pub shaped-state : {n : ℕ} {W : Workspace} (peak : ℕ) (w : List ℤ) → Laid n W → Shaped (sizes_of W) (state_of W peak w)
unfolding lines_of
shaped-state {n} {W} peak w h = record {
  matrix = table-lines refl W.matrix.width (contents W.matrix w);
  row_follower = table-lines h.row-follower-lines W.row_follower.width (contents W.row_follower w);
  row_inverse = table-lines h.row-inverse-lines W.row_inverse.width (contents W.row_inverse w);
  column_follower = table-lines h.column-follower-lines W.column_follower.width (contents W.column_follower w);
  column_inverse = table-lines h.column-inverse-lines W.column_inverse.width (contents W.column_inverse w);
}

pub outcome-put :
    (x : Side) {n : ℕ} {W : Workspace} → Laid n W → (op : Operation) (peak : ℕ) (w : List ℤ)
    → outcome_on x W op (state_of W peak w)
    ≡ checked entry_limit (noted (put x
    (table W.matrix.lines W.matrix.width (on_side x op (entry (lines_of W.matrix w))))
    (lines_anew (count x W) (follower x W).width op (lines_of (follower x W) w))
    (lines_anew (count x W) (undone x W).width (inverse op) (lines_of (undone x W) w))
    (lines_of (follower (across x) W) w)
    (lines_of (undone (across x) W) w)
    peak))
unfolding on_row on_column
outcome-put rows l op peak w = ap (checked entry_limit) (rows-anew op (shaped-state peak w l))
outcome-put columns l op peak w = ap (checked entry_limit) (columns-anew op (shaped-state peak w l))

-- the largest entry of a state, whatever its peak
pub record Largest (a b c n : ℕ) : Type 0 where
  pub matrix : a ≤ n
  pub follower : b ≤ n
  pub undone : c ≤ n

pub largest-put : (x : Side) (a b c d e : Table) (peak : ℕ) → Largest (table_largest a) (table_largest b) (table_largest c) (largest (put x a b c d e peak))
unfolding largest
largest-put rows a b c d e peak = record { matrix = omega arith; follower = omega arith; undone = omega arith }
largest-put columns a b c d e peak = record { matrix = omega arith; follower = omega arith; undone = omega arith }

pub largest-peak : (x : Side) (a b c d e : Table) (p q : ℕ) → largest (put x a b c d e p) ≡ largest (put x a b c d e q)
unfolding largest
largest-peak rows a b c d e p q = refl
largest-peak columns a b c d e p q = refl

-- ---- how the matrices lie

-- the three matrices that an operation changes share no place with one another, nor with the two that it keeps
pub record Separate (a b c d e : Matrix) : Type 0 where
  pub ab : Disjoint a b
  pub ac : Disjoint a c
  pub ad : Disjoint a d
  pub ae : Disjoint a e
  pub bc : Disjoint b c
  pub bd : Disjoint b d
  pub be : Disjoint b e
  pub cd : Disjoint c d
  pub ce : Disjoint c e

module _ {n : ℕ} {W : Workspace} (l : Laid n W) where
  pub separate : (x : Side) → Separate W.matrix (follower x W) (undone x W) (follower (across x) W) (undone (across x) W)
  separate rows = record {
    ab = record { none = λ p s t. omega arith };
    ac = record { none = λ p s t. omega arith };
    ad = record { none = λ p s t. omega arith };
    ae = record { none = λ p s t. omega arith };
    bc = record { none = λ p s t. omega arith };
    bd = record { none = λ p s t. omega arith };
    be = record { none = λ p s t. omega arith };
    cd = record { none = λ p s t. omega arith };
    ce = record { none = λ p s t. omega arith };
  }
  separate columns = record {
    ab = record { none = λ p s t. omega arith };
    ac = record { none = λ p s t. omega arith };
    ad = record { none = λ p s t. omega arith };
    ae = record { none = λ p s t. omega arith };
    bc = record { none = λ p s t. omega arith };
    bd = record { none = λ p s t. omega arith };
    be = record { none = λ p s t. omega arith };
    cd = record { none = λ p s t. omega arith };
    ce = record { none = λ p s t. omega arith };
  }

  pub follower-lines : (x : Side) → (follower x W).lines ≡ count x W
  follower-lines rows = l.row-follower-lines
  follower-lines columns = l.column-follower-lines

  pub undone-lines : (x : Side) → (undone x W).lines ≡ count x W
  undone-lines rows = l.row-inverse-lines
  undone-lines columns = l.column-inverse-lines

  pub follower-inside : (x : Side) → end (follower x W) ≤ n
  follower-inside rows = omega arith
  follower-inside columns = omega arith

  pub undone-inside : (x : Side) → end (undone x W) ≤ n
  undone-inside rows = omega arith
  undone-inside columns = omega arith

  -- an operation on the side fits its companions
  pub follower-fits : (x : Side) {op : Operation} → Fits (count x W) op → Fits (follower x W).lines op
  follower-fits x f = rw (follower-lines x) f

  pub undone-fits : (x : Side) {op : Operation} → Fits (count x W) op → Fits (undone x W).lines (inverse op)
  undone-fits x {op} f = rw (undone-lines x) (Fits-inverse op f)

  pub matrix-held : Held n W.matrix
  matrix-held = record { ends = omega arith }
