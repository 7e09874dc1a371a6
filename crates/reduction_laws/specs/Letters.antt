-- What each letter of stage k starts from (`ReadyC`, `ReadyD`, `ReadyE`) and what it leaves. After a: `ReadyC` with a pivot of the chosen
-- entry's size (after-a). After c: `ReadyD`, or a nonzero entry smaller than the pivot (after-c, after-c-clear, after-c-keeps). After d:
-- `ReadyE`, or a smaller entry (after-d, after-d-clear, after-d-keeps). After e with a row: `ReadyD` with the same pivot and an entry in row k
-- that it does not divide (after-e).
use Rattle.std.specs.Prelude.{◌≡◌, ◌≢◌, true, false, [], ◌∷◌, ℕ, suc, ◌+◌, ◌-◌, ◌≤◌, ◌<◌, ℤ, pos, negsuc, nat_abs, ◌+ℤ◌, ◌-ℤ◌, ◌*ℤ◌, ◌<ℤ◌}
use Rattle.std.proofs.Common.{sym, ◌∙◌, ap, subst, subst₂, arith}
use Rattle.integers.proofs.Ring as Ring
use Rattle.integers.proofs.Solve.{solve, terms}
use Rattle.integers.specs.Division.{◌∣ℤ◌, modulo}
use Rattle.integers.proofs.Floor.{nat_abs-modulo}
use Rattle.matrices.specs.Matrix.{Matrix, transpose}
use Rattle.matrices.specs.Operation.{subtract, on_rows}
use Rattle.matrices.proofs.OperationLaws.{on_rows-subtract-at, on_rows-subtract-other}
use Rattle.reduction_steps.specs.Table.{entry}
use Rattle.reduction_steps.specs.State.{Sizes, State, made, on_row}
use Rattle.reduction_steps.specs.Pivot.{Least}
use Rattle.reduction_steps.specs.Step.{bring, row_pass, column_pass, column_keeps, row_keeps, row}
use Rattle.reduction_laws.specs.Scans.{column_keeps-true, column_keeps-false, row_keeps-true, row_keeps-false, first_indivisible-row, Indivisible, FirstRow}
use Rattle.reduction_laws.specs.Steps.{indivisible_row}
use Rattle.reduction_laws.specs.Pass.{pass, pass-above, pass-remainder}
use Rattle.reduction_laws.specs.Shape.{Shaped}
use Rattle.reduction_laws.specs.Moves.{Moves}
use Rattle.reduction_laws.specs.Led.{Led, led-shaped, led-row, row_pass-led, column_pass-led, shaped-moves, bring-made}

-- a nonzero entry from row and column k on whose absolute value is below p
pub record Smaller (m n k p : ℕ) (A : Matrix) : Type 0 where
  pub row : ℕ
  pub column : ℕ
  pub row_from : k ≤ row
  pub row_below : row < m
  pub column-from : k ≤ column
  pub column-below : column < n
  pub nonzero : A row column ≢ pos 0
  pub less : nat_abs (A row column) < p

pub smaller-weaken : {m n k p q : ℕ} {A : Matrix} → p ≤ q → Smaller m n k p A → Smaller m n k q A
smaller-weaken l x = record {
  row = x.row;
  column = x.column;
  row_from = x.row_from;
  row_below = x.row_below;
  column-from = x.column-from;
  column-below = x.column-below;
  nonzero = x.nonzero;
  less = omega (arith, x.less);
}

-- ---- what the letters start from

-- letter c: the pivot is positive
pub record ReadyC (z : Sizes) (k : ℕ) (s : State) : Type 0 where
  pub shaped : Shaped z s
  pub row : k < z.rows
  pub column : k < z.columns
  pub positive : pos 0 <ℤ entry s.matrix k k

-- letter d: column k is zero below the pivot
pub record ReadyD (z : Sizes) (k : ℕ) (s : State) : Type 0 where
  pub ready : ReadyC z k s
  pub below : (i : ℕ) → k < i → i < z.rows → entry s.matrix i k ≡ pos 0

-- letter e: row k is zero right of the pivot
pub record ReadyE (z : Sizes) (k : ℕ) (s : State) : Type 0 where
  pub ready : ReadyD z k s
  pub right : (j : ℕ) → k < j → j < z.columns → entry s.matrix k j ≡ pos 0

module _ (limit : ℕ) (z : Sizes) (k : ℕ) where
  -- ---- step a

  -- the pivot stands at (k, k) and has size p
  pub record AfterA (s t : State) (p : ℕ) : Type 0 where
    pub moves : Moves limit z k s t
    pub ready : ReadyC z k t
    pub size : nat_abs (entry t.matrix k k) ≡ p

  pub after-a :
      (i j : ℕ) (s t : State) → Shaped z s → Least z.rows z.columns k (entry s.matrix) i j → bring limit z k i j s ≡ made t
      → AfterA s t (nat_abs (entry s.matrix i j))
  after-a i j s t h l e =
      let b = bring-made limit z k i j s t h l.row_from l.row_below l.column-from l.column-below l.nonzero e in
      record {
        moves = b.moves;
        ready = record { shaped = shaped-moves limit z k b.moves h; row = omega arith; column = omega arith; positive = b.positive };
        size = b.size;
      }

  -- moves that leave the pivot
  ready-led : {s t : State} {B : Matrix} → ReadyC z k s → Led limit z k s t B → entry t.matrix k k ≡ entry s.matrix k k → ReadyC z k t
  ready-led h l pivot = record {
    shaped = led-shaped limit z k h.shaped l;
    row = h.row;
    column = h.column;
    positive = subst (λ (x : ℤ). pos 0 <ℤ x) (sym pivot) h.positive;
  }

  -- a nonzero remainder by the pivot is smaller than it
  remainder-smaller :
      (s t : State) → ReadyC z k s → (i j : ℕ) → k ≤ i → i < z.rows → k ≤ j → j < z.columns → entry t.matrix i j ≢ pos 0
      → entry t.matrix i j ≡ modulo (entry s.matrix i j) (entry s.matrix k k)
      → Smaller z.rows z.columns k (nat_abs (entry s.matrix k k)) (entry t.matrix)
  remainder-smaller s t h i j a b c d nonzero is = record {
    row = i;
    column = j;
    row_from = a;
    row_below = b;
    column-from = c;
    column-below = d;
    nonzero = nonzero;
    less = subst (λ (x : ℤ). nat_abs x < nat_abs (entry s.matrix k k)) (sym is) (nat_abs-modulo (entry s.matrix i j) (entry s.matrix k k) h.positive);
  }

  -- ---- step c

  -- the pivot stays, and column k keeps the remainders
  pub record AfterC (s t : State) : Type 0 where
    pub moves : Moves limit z k s t
    pub ready : ReadyC z k t
    pub pivot : entry t.matrix k k ≡ entry s.matrix k k
    pub remainder : (i : ℕ) → k < i → i < z.rows → entry t.matrix i k ≡ modulo (entry s.matrix i k) (entry s.matrix k k)

  pub after-c : (s t : State) → ReadyC z k s → row_pass limit z k (z.rows - suc k) (suc k) s ≡ made t → AfterC s t
  after-c s t h e = record {
    moves = l.moves;
    ready = ready-led h l pivot;
    pivot = pivot;
    remainder = λ i a b. at i k ∙ pass-remainder k (z.rows - suc k) (suc k) A i (omega arith) a (omega (arith, h.row));
  }
    where
      A : Matrix
      A = entry s.matrix

      l : Led limit z k s t (pass k (z.rows - suc k) (suc k) A)
      l = row_pass-led limit z k (z.rows - suc k) (suc k) s t h.shaped (omega arith) (omega (arith, h.row)) e

      at : (i j : ℕ) → entry t.matrix i j ≡ pass k (z.rows - suc k) (suc k) A i j
      at i j = ap (λ (B : Matrix). B i j) l.matrix

      pivot : entry t.matrix k k ≡ A k k
      pivot = at k k ∙ pass-above k (z.rows - suc k) (suc k) A k k (omega arith)

  -- column k keeps a nonzero below
  pub after-c-keeps :
      (s t : State) → ReadyC z k s → AfterC s t → column_keeps (entry t.matrix) k (z.rows - suc k) (suc k) ≡ true
      → Smaller z.rows z.columns k (nat_abs (entry s.matrix k k)) (entry t.matrix)
  after-c-keeps s t h c e =
      let f = column_keeps-true (entry t.matrix) k (z.rows - suc k) (suc k) e in
      remainder-smaller s t h f.place k (omega arith) (omega (arith, h.row)) (omega arith) h.column f.nonzero
      (c.remainder f.place f.from (omega (arith, h.row, f.below)))

  pub after-c-clear : (s t : State) → AfterC s t → column_keeps (entry t.matrix) k (z.rows - suc k) (suc k) ≡ false → ReadyD z k t
  after-c-clear s t c e = record {
    ready = c.ready;
    below = λ i a b. column_keeps-false (entry t.matrix) k (z.rows - suc k) (suc k) e i a (omega (arith, c.ready.row));
  }

  -- ---- step d

  -- the pivot and column k stay, and row k keeps the remainders
  pub record AfterD (s t : State) : Type 0 where
    pub moves : Moves limit z k s t
    pub ready : ReadyD z k t
    pub pivot : entry t.matrix k k ≡ entry s.matrix k k
    pub remainder : (j : ℕ) → k < j → j < z.columns → entry t.matrix k j ≡ modulo (entry s.matrix k j) (entry s.matrix k k)

  pub after-d : (s t : State) → ReadyD z k s → column_pass limit z k (z.columns - suc k) (suc k) s ≡ made t → AfterD s t
  after-d s t h e = record {
    moves = l.moves;
    ready = record {
      ready = ready-led c l (stays k);
      below = λ i a b. stays i ∙ h.below i a b;
    };
    pivot = stays k;
    remainder = λ j a b. at k j ∙ pass-remainder k (z.columns - suc k) (suc k) (transpose A) j (omega arith) a (omega (arith, c.column));
  }
    where
      A : Matrix
      A = entry s.matrix

      c : ReadyC z k s
      c = h.ready

      l : Led limit z k s t (transpose (pass k (z.columns - suc k) (suc k) (transpose A)))
      l = column_pass-led limit z k (z.columns - suc k) (suc k) s t c.shaped (omega arith) (omega (arith, c.column)) e

      at : (i j : ℕ) → entry t.matrix i j ≡ pass k (z.columns - suc k) (suc k) (transpose A) j i
      at i j = ap (λ (B : Matrix). B i j) l.matrix

      stays : (i : ℕ) → entry t.matrix i k ≡ A i k
      stays i = at i k ∙ pass-above k (z.columns - suc k) (suc k) (transpose A) k i (omega arith)

  -- row k keeps a nonzero to the right
  pub after-d-keeps :
      (s t : State) → ReadyD z k s → AfterD s t → row_keeps (entry t.matrix) k (z.columns - suc k) (suc k) ≡ true
      → Smaller z.rows z.columns k (nat_abs (entry s.matrix k k)) (entry t.matrix)
  after-d-keeps s t h c e =
      let f = row_keeps-true (entry t.matrix) k (z.columns - suc k) (suc k) e in
      remainder-smaller s t h.ready k f.place (omega arith) h.ready.row (omega arith) (omega (arith, h.ready.column)) f.nonzero
      (c.remainder f.place f.from (omega (arith, h.ready.column, f.below)))

  pub after-d-clear : (s t : State) → AfterD s t → row_keeps (entry t.matrix) k (z.columns - suc k) (suc k) ≡ false → ReadyE z k t
  after-d-clear s t c e = record {
    ready = c.ready;
    right = λ j a b. row_keeps-false (entry t.matrix) k (z.columns - suc k) (suc k) e j a (omega (arith, c.ready.ready.column));
  }

  -- ---- step e

  -- the pivot stays, and row k has an entry that it does not divide
  pub record AfterE (s t : State) : Type 0 where
    pub moves : Moves limit z k s t
    pub ready : ReadyD z k t
    pub pivot : entry t.matrix k k ≡ entry s.matrix k k
    pub remains : Indivisible (entry t.matrix) (entry t.matrix k k) k (suc k) z.columns

  pub after-e : (i : ℕ) (s t : State) → ReadyE z k s → indivisible_row z k s ≡ row i → on_row limit z (subtract k i (negsuc 0)) s ≡ made t → AfterE s t
  after-e i s t h e m = record {
    moves = l.moves;
    ready = record {
      ready = ready-led c l pivot;
      below = λ a p q. at a k ∙ on_rows-subtract-other k i (negsuc 0) A a k (omega arith) ∙ h.ready.below a p q;
    };
    pivot = pivot;
    remains = record {
      place = f.here.place;
      from = f.here.from;
      below = omega (arith, f.here.below, c.column);
      indivisible = λ d. f.here.indivisible (subst₂ (λ (x y : ℤ). x ∣ℤ y) pivot (moved f.here.place f.here.from (omega (arith, f.here.below, c.column))) d);
    };
  }
    where
      A : Matrix
      A = entry s.matrix

      c : ReadyC z k s
      c = h.ready.ready

      f : FirstRow A (A k k) (suc k) (suc k + (z.rows - suc k)) (suc k) (suc k + (z.columns - suc k)) i
      f = first_indivisible-row A (A k k) (suc k) (z.columns - suc k) (z.rows - suc k) (suc k) i e

      lower : k < i
      lower = f.from

      in_rows : i < z.rows
      in_rows = omega (arith, f.below, c.row)

      l : Led limit z k s t (on_rows (subtract k i (negsuc 0)) A)
      l = led-row limit z k (subtract k i (negsuc 0)) s t c.shaped (omega (arith, lower)) (omega (arith, c.row, lower, in_rows)) m

      at : (a b : ℕ) → entry t.matrix a b ≡ on_rows (subtract k i (negsuc 0)) A a b
      at a b = ap (λ (B : Matrix). B a b) l.matrix

      add : (x y : ℤ) → x -ℤ negsuc 0 *ℤ y ≡ x +ℤ y
      add x y = solve (x ∷ y ∷ []) (search terms depth 16) tt

      -- row i is added to row k
      added : (b : ℕ) → entry t.matrix k b ≡ A k b +ℤ A i b
      added b = at k b ∙ on_rows-subtract-at k i (negsuc 0) A b ∙ add (A k b) (A i b)

      pivot : entry t.matrix k k ≡ A k k
      pivot = added k ∙ ap (λ (x : ℤ). A k k +ℤ x) (h.ready.below i lower in_rows) ∙ Ring.add-zero (A k k)

      moved : (b : ℕ) → k < b → b < z.columns → entry t.matrix k b ≡ A i b
      moved b p q = added b ∙ ap (λ (x : ℤ). x +ℤ A i b) (h.right b p q) ∙ Ring.zero-add (A i b)
