-- The loops of the passes: what is left of the pass from the present state is the whole pass from the start (RowPassing, ColumnPassing).
use mathlib.Core.Path.{◌≡◌, refl, sym, ◌∙◌, ap, subst}
use mathlib.Core.Logic.{◌≢◌}
use mathlib.Core.List.{List}
use Prim.Native.Nat.{ℕ, zero, suc, ◌+◌, ◌-◌, ◌≤◌, ◌<◌}
use native.Mathlib.Nat as Nat
use native.Mathlib.Numerals.{add-one}
use native.Mathlib.Omega.{arith}
use native.Mathlib.Decide.{dec_lt}
use lib.IntN.{ℤ, pos}
use lib.Signed.{◌<ℤ◌}
use lib.ListN.{length, replicate}
use Rattle.integers.specs.Division.{floor}
use Rattle.matrices.specs.Matrix as theory
use Rattle.matrices.specs.Matrix.{transpose}
use Rattle.matrices.specs.Operation.{subtract, on_rows, on_columns}
use Rattle.matrices.proofs.OperationLaws.{on_rows-subtract-other}
use Rattle.reduction_steps.specs.Table.{entry}
use Rattle.reduction_steps.specs.State.{Sizes, State, Outcome, too_wide, made, and_then, on_row, on_column}
use Rattle.reduction_steps.specs.Step.{quotient, row_pass, column_pass}
use Rattle.reduction_laws.specs.Letters.{ReadyC}
use Rattle.reduction_laws.specs.Led.{Led, led-row, led-column}
use Rattle.integers.specs.Slot.{slot}
use Rattle.matrix_lines.specs.Slice.{entry_limit, line_at, Under, FirstNonzero}
use Rattle.matrix_lines.specs.Matrices.{contents}
use Rattle.operations.specs.Laid.{Laid, sizes_of, state_of}
use Rattle.operations.specs.declared.workspace.Workspace.{Workspace}
use Rattle.integers.proofs.Floor.{floor-zero}
use Rattle.operations.proofs.Unchanged.{columns-unchanged}
use Rattle.operations.proofs.Side.{shaped-state}
use Rattle.refusal.specs.declared.Refusal.TheVariants as Refusal
use Rattle.passes.specs.PassAnswers.{Placed, ColumnClear, row_pass_of, column_pass_of, PassMade, PassRefused}
use Rattle.matrix_lines.proofs.Spans.{line-span, span-inside}
use Rattle.passes.proofs.States.{held-matrix, entry-state, rows_done-moves}

-- ---- one operation of a pass

module _ (limit : ℕ) (z : Sizes) (k more i : ℕ) (s : State) where
  row_pass-made : (t : State) → on_row limit z (subtract i k (quotient limit z k s i k)) s ≡ made t → row_pass limit z k (suc more) i s ≡ row_pass limit z k more (suc i) t
  unfolding row_pass and_then
  row_pass-made t e = rw e

  row_pass-wide : on_row limit z (subtract i k (quotient limit z k s i k)) s ≡ too_wide → row_pass limit z k (suc more) i s ≡ too_wide
  unfolding row_pass and_then
  row_pass-wide e = rw e

  column_pass-made : (t : State) → on_column limit z (subtract i k (quotient limit z k s k i)) s ≡ made t → column_pass limit z k (suc more) i s ≡ column_pass limit z k more (suc i) t
  unfolding column_pass and_then
  column_pass-made t e = rw e

  column_pass-wide : on_column limit z (subtract i k (quotient limit z k s k i)) s ≡ too_wide → column_pass limit z k (suc more) i s ≡ too_wide
  unfolding column_pass and_then
  column_pass-wide e = rw e

-- the quotient of the pass, read from the slice
quotient-state :
    (W : Workspace) (peak : ℕ) (w : List ℤ) (k i j : ℕ) → i < W.matrix.lines → j < W.matrix.width → k < W.matrix.lines → k < W.matrix.width
    → floor (contents W.matrix w i j) (contents W.matrix w k k) ≡ quotient entry_limit (sizes_of W) k (state_of W peak w) i j
unfolding quotient
quotient-state W peak w k i j a b c d = cc (entry-state W w i j a b, entry-state W w k k c d)

-- an operation went too wide, and the slice was cleared
pub pass-refused : {o : Outcome} {n : ℕ} (w : List ℤ) {w' : List ℤ} → o ≡ too_wide → w' ≡ replicate (length w) (pos 0) → length w ≡ n → PassRefused o n Refusal.TooWide w'
pass-refused w e z l = record { outcome = e; cleared = record { number = refl; zeros = z ∙ ap (λ (n : ℕ). replicate n (pos 0)) l } }

-- ---- step c

-- before row i
pub record RowPassing (W : Workspace) (k peak₀ : ℕ) (w₀ : List ℤ) (i peak : ℕ) (w : List ℤ) : Type 0 where
  pub same_length : length w ≡ length w₀
  pub from : k < i
  pub placed : Placed W k peak w
  pub rest :
      row_pass entry_limit (sizes_of W) k (W.matrix.lines - i) i (state_of W peak w)
      ≡ row_pass_of W k peak₀ w₀

module _ {W : Workspace} {k peak₀ : ℕ} {w₀ : List ℤ} {i peak : ℕ} {w : List ℤ} (h : RowPassing W k peak₀ w₀ i peak w) (below : i < W.matrix.lines) where
  -- the operation of the pass is the one that the code makes
  row-operation :
      {q : ℤ} → q ≡ floor (contents W.matrix w i k) (contents W.matrix w k k)
      → on_row entry_limit (sizes_of W) (subtract i k (quotient entry_limit (sizes_of W) k (state_of W peak w) i k)) (state_of W peak w) ≡ on_row entry_limit (sizes_of W) (subtract i k q) (state_of W peak w)
  row-operation e =
      ap (λ (x : ℤ). on_row entry_limit (sizes_of W) (subtract i k x) (state_of W peak w))
      (sym (e ∙ quotient-state W peak w k i k below h.placed.ready.column h.placed.ready.row h.placed.ready.column))

  row-rest : row_pass entry_limit (sizes_of W) k (suc (W.matrix.lines - suc i)) i (state_of W peak w) ≡ row_pass_of W k peak₀ w₀
  row-rest = subst (λ (n : ℕ). row_pass entry_limit (sizes_of W) k n i (state_of W peak w) ≡ row_pass_of W k peak₀ w₀) (omega arith) h.rest

  pub rows_next :
      {q : ℤ} {peak' : ℕ} {w' : List ℤ} → q ≡ floor (contents W.matrix w i k) (contents W.matrix w k k) → length w' ≡ length w → Under peak' w'
      → on_row entry_limit (sizes_of W) (subtract i k q) (state_of W peak w) ≡ made (state_of W peak' w') → RowPassing W k peak₀ w₀ (i + 1) peak' w'
  rows_next {q} {peak'} {w'} e l s o = record {
    same_length = l ∙ h.same_length;
    from = omega (arith, h.from);
    placed = record {
      laid = laid;
      under = s;
      ready = record {
        shaped = shaped-state peak' w' laid;
        row = h.placed.ready.row;
        column = h.placed.ready.column;
        positive = subst (λ (x : ℤ). pos 0 <ℤ x) (sym pivot) h.placed.ready.positive;
      };
      rows-done = rows_done-moves led.moves h.placed.ready.shaped h.placed.rows-done;
    };
    rest =
        ap (λ (n : ℕ). row_pass entry_limit (sizes_of W) k (W.matrix.lines - n) n (state_of W peak' w')) (add-one i)
        ∙ sym (row_pass-made entry_limit (sizes_of W) k (W.matrix.lines - suc i) i (state_of W peak w) (state_of W peak' w') (row-operation e ∙ o))
        ∙ row-rest;
  }
    where
      laid : Laid (length w') W
      laid = subst (λ (n : ℕ). Laid n W) (sym l) h.placed.laid

      led : Led entry_limit (sizes_of W) k (state_of W peak w) (state_of W peak' w') (on_rows (subtract i k q) (entry (state_of W peak w).matrix))
      led = led-row entry_limit (sizes_of W) k (subtract i k q) (state_of W peak w) (state_of W peak' w') h.placed.ready.shaped (omega (arith, h.from)) (omega (arith, h.from, h.placed.ready.row)) o

      pivot : entry (state_of W peak' w').matrix k k ≡ entry (state_of W peak w).matrix k k
      pivot = ap (λ (A : theory.Matrix). A k k) led.matrix ∙ on_rows-subtract-other i k q (entry (state_of W peak w).matrix) k k (omega (arith, h.from))

  pub rows-wide :
      {q : ℤ} → q ≡ floor (contents W.matrix w i k) (contents W.matrix w k k)
      → on_row entry_limit (sizes_of W) (subtract i k q) (state_of W peak w) ≡ too_wide
      → row_pass_of W k peak₀ w₀ ≡ too_wide
  rows-wide {q} e o =
      sym row-rest
      ∙ row_pass-wide entry_limit (sizes_of W) k (W.matrix.lines - suc i) i (state_of W peak w)
      (row-operation e ∙ o)

-- after the last row
pub rows_end : {W : Workspace} {k peak₀ : ℕ} {w₀ : List ℤ} {i peak : ℕ} {w : List ℤ} → RowPassing W k peak₀ w₀ i peak w → W.matrix.lines ≤ i → PassMade W (row_pass_of W k peak₀ w₀) (length w₀) peak w
unfolding row_pass
rows_end {W} {k} {peak₀} {w₀} {i} {peak} {w} h l = record {
  outcome = sym h.rest ∙ ap (λ (n : ℕ). row_pass entry_limit (sizes_of W) k n i (state_of W peak w)) none_left;
  kept = record { same_length = h.same_length; under = h.placed.under };
}
  where
    none_left : W.matrix.lines - i ≡ 0
    none_left = omega arith

-- ---- step d

-- before column j
pub record ColumnPassing (W : Workspace) (k peak₀ : ℕ) (w₀ : List ℤ) (j peak : ℕ) (w : List ℤ) : Type 0 where
  pub same_length : length w ≡ length w₀
  pub from : k < j
  pub clear : ColumnClear W k peak w
  pub rest :
      column_pass entry_limit (sizes_of W) k (W.matrix.width - j) j (state_of W peak w)
      ≡ column_pass_of W k peak₀ w₀

pub columns-start : {W : Workspace} {k peak : ℕ} {w : List ℤ} → ColumnClear W k peak w → ColumnPassing W k peak w (k + 1) peak w
columns-start {W} {k} {w = w} h = record {
  same_length = refl;
  from = omega arith;
  clear = h;
  rest = rw (add-one k);
}

-- column k is zero off the pivot
pub column-zero : {W : Workspace} {k peak : ℕ} {w : List ℤ} → ColumnClear W k peak w → (i : ℕ) → i < W.matrix.lines → i ≢ k → contents W.matrix w i k ≡ pos 0
column-zero {W} {k} {peak} {w} h i below other = sym (entry-state W w i k below h.ready.ready.column) ∙ go (dec_lt i k)
  where
    go : Dec (i < k) → entry (state_of W peak w).matrix i k ≡ pos 0
    go (yes l) = h.rows-done.zero i k l (Nat.le_refl k) h.ready.ready.column
    go (no l) = h.ready.below i (omega arith) below

module _ {W : Workspace} {k peak₀ : ℕ} {w₀ : List ℤ} {j peak : ℕ} {w : List ℤ} (h : ColumnPassing W k peak₀ w₀ j peak w) (below : j < W.matrix.width) where
  ready : ReadyC (sizes_of W) k (state_of W peak w)
  ready = h.clear.ready.ready

  column-operation :
      {q : ℤ} → q ≡ floor (contents W.matrix w k j) (contents W.matrix w k k)
      → on_column entry_limit (sizes_of W) (subtract j k (quotient entry_limit (sizes_of W) k (state_of W peak w) k j)) (state_of W peak w) ≡ on_column entry_limit (sizes_of W) (subtract j k q) (state_of W peak w)
  column-operation e =
      ap (λ (x : ℤ). on_column entry_limit (sizes_of W) (subtract j k x) (state_of W peak w)) (sym (e ∙ quotient-state W peak w k k j ready.row below ready.row ready.column))

  column-rest : column_pass entry_limit (sizes_of W) k (suc (W.matrix.width - suc j)) j (state_of W peak w) ≡ column_pass_of W k peak₀ w₀
  column-rest = subst (λ (n : ℕ). column_pass entry_limit (sizes_of W) k n j (state_of W peak w) ≡ column_pass_of W k peak₀ w₀) (omega arith) h.rest

  pub columns-next :
      {q : ℤ} {peak' : ℕ} {w' : List ℤ} → q ≡ floor (contents W.matrix w k j) (contents W.matrix w k k) → length w' ≡ length w → Under peak' w'
      → on_column entry_limit (sizes_of W) (subtract j k q) (state_of W peak w) ≡ made (state_of W peak' w') → ColumnPassing W k peak₀ w₀ (j + 1) peak' w'
  unfolding on_columns
  columns-next {q} {peak'} {w'} e l s o = record {
    same_length = l ∙ h.same_length;
    from = omega (arith, h.from);
    clear = record {
      laid = laid;
      under = s;
      ready = record {
        ready = record {
          shaped = shaped-state peak' w' laid;
          row = ready.row;
          column = ready.column;
          positive = subst (λ (x : ℤ). pos 0 <ℤ x) (sym (stays k)) ready.positive;
        };
        below = λ i a b. stays i ∙ h.clear.ready.below i a b;
      };
      rows-done = rows_done-moves led.moves ready.shaped h.clear.rows-done;
    };
    rest =
        ap (λ (n : ℕ). column_pass entry_limit (sizes_of W) k (W.matrix.width - n) n (state_of W peak' w')) (add-one j)
        ∙ sym (column_pass-made entry_limit (sizes_of W) k (W.matrix.width - suc j) j (state_of W peak w) (state_of W peak' w') (column-operation e ∙ o))
        ∙ column-rest;
  }
    where
      laid : Laid (length w') W
      laid = subst (λ (n : ℕ). Laid n W) (sym l) h.clear.laid

      led : Led entry_limit (sizes_of W) k (state_of W peak w) (state_of W peak' w') (on_columns (subtract j k q) (entry (state_of W peak w).matrix))
      led = led-column entry_limit (sizes_of W) k (subtract j k q) (state_of W peak w) (state_of W peak' w') ready.shaped (omega (arith, h.from)) (omega (arith, h.from, ready.column)) o

      stays : (i : ℕ) → entry (state_of W peak' w').matrix i k ≡ entry (state_of W peak w).matrix i k
      stays i = ap (λ (A : theory.Matrix). A i k) led.matrix ∙ on_rows-subtract-other j k q (transpose (entry (state_of W peak w).matrix)) k i (omega (arith, h.from))

  pub columns-wide :
      {q : ℤ} → q ≡ floor (contents W.matrix w k j) (contents W.matrix w k k)
      → on_column entry_limit (sizes_of W) (subtract j k q) (state_of W peak w) ≡ too_wide
      → column_pass_of W k peak₀ w₀ ≡ too_wide
  columns-wide {q} e o =
      sym column-rest
      ∙ column_pass-wide entry_limit (sizes_of W) k (W.matrix.width - suc j) j (state_of W peak w)
      (column-operation e ∙ o)

-- row k lies within the slice
module _ {W : Workspace} {k n : ℕ} {s : State} (laid : Laid n W) (ready : ReadyC (sizes_of W) k s) where
  pub row_inside : {a : ℕ} → a ≡ line_at W.matrix.at W.matrix.width k → a + W.matrix.width ≤ n
  row_inside {a} e = span-inside (line-span W.matrix a k e ready.row) (held-matrix laid)

-- a column whose entry in row k is 0
pub columns-zero :
    {W : Workspace} {k peak₀ : ℕ} {w₀ : List ℤ} {j peak : ℕ} {w : List ℤ} → ColumnPassing W k peak₀ w₀ j peak w → j < W.matrix.width → contents W.matrix w k j ≡ pos 0
    → ColumnPassing W k peak₀ w₀ (j + 1) peak w
columns-zero {W} {k} {peak₀} {w₀} {j} {peak} {w} h below e =
    columns-next h below (sym (ap (λ (x : ℤ). floor x (contents W.matrix w k k)) e ∙ floor-zero (contents W.matrix w k k))) refl h.clear.under
    (columns-unchanged W peak w h.clear.laid h.clear.under (subtract j k (pos 0)) refl (record {
      within = record { changed = below; taken = h.clear.ready.ready.column; distinct = λ same. omega (arith, h.from) };
      factor = omega arith;
    }))

pub columns-zeros :
    {W : Workspace} {k peak₀ : ℕ} {w₀ : List ℤ} {j peak : ℕ} {w : List ℤ} → ColumnPassing W k peak₀ w₀ j peak w → (t : ℕ) → j + t ≤ W.matrix.width
    → ((s : ℕ) → s < t → contents W.matrix w k (j + s) ≡ pos 0) → ColumnPassing W k peak₀ w₀ (j + t) peak w
columns-zeros {W} {k} {peak₀} {w₀} {j} {peak} {w} h zero l zeros = subst (λ (x : ℕ). ColumnPassing W k peak₀ w₀ x peak w) (omega arith) h
columns-zeros {W} {k} {peak₀} {w₀} {j} {peak} {w} h (suc t) l zeros =
    subst (λ (x : ℕ). ColumnPassing W k peak₀ w₀ x peak w) (omega arith)
    (columns-zero (columns-zeros h t (omega arith) (λ s m. zeros s (omega arith))) (omega arith) (zeros t (omega arith)))

-- the first nonzero entry of row k, which stands at a, from column j on
pub columns-first :
    {W : Workspace} {k peak₀ : ℕ} {w₀ : List ℤ} {j peak : ℕ} {w : List ℤ} → ColumnPassing W k peak₀ w₀ j peak w → {a r : ℕ} → a ≡ line_at W.matrix.at W.matrix.width k
    → FirstNonzero w a j W.matrix.width r → ColumnPassing W k peak₀ w₀ r peak w
columns-first {W} {k} {peak₀} {w₀} {j} {peak} {w} h {a} {r} e first =
    subst (λ (x : ℕ). ColumnPassing W k peak₀ w₀ x peak w) (omega (arith, first.passed.begins))
    (columns-zeros h (r - j) (omega (arith, first.passed.begins, first.passed.ends))
    (λ s l. ap (λ (x : ℕ). slot w (x + (j + s))) (sym e) ∙ first.passed.zeros (j + s) (omega arith) (omega arith)))

-- after the last column
pub columns-end : {W : Workspace} {k peak₀ : ℕ} {w₀ : List ℤ} {j peak : ℕ} {w : List ℤ} → ColumnPassing W k peak₀ w₀ j peak w → W.matrix.width ≤ j → PassMade W (column_pass_of W k peak₀ w₀) (length w₀) peak w
unfolding column_pass
columns-end {W} {k} {peak₀} {w₀} {j} {peak} {w} h l = record {
  outcome = sym h.rest ∙ ap (λ (n : ℕ). column_pass entry_limit (sizes_of W) k n j (state_of W peak w)) none_left;
  kept = record { same_length = h.same_length; under = h.clear.under };
}
  where
    none_left : W.matrix.width - j ≡ 0
    none_left = omega arith
