-- The steps a to e of document 01, "The reduction", as a machine: one step for each letter.
use Rattle.std.specs.Prelude.{Bool, true, false, cond, not, ◌||◌, ◌≡◌, ℕ, zero, suc, ◌-◌, ◌*◌, min, eqb, ℤ, negsuc, nat_abs}
use Rattle.std.specs.Int.Signed.{non_neg}
use Rattle.integers.specs.Division.{floor, divides}
use Rattle.matrices.specs.Matrix.{Matrix}
use Rattle.matrices.specs.Operation.{subtract, swap, negate}
use Rattle.reduction_steps.specs.Table.{entry}
use Rattle.reduction_steps.specs.State.{Sizes, State, Outcome, too_wide, made, and_then, on_row, on_column}
use Rattle.reduction_steps.specs.Pivot.{Rule, none, place}

-- the letter that comes next; b belongs to a
pub data Letter : Type 0 where
  a c d e : Letter

-- at a letter of stage k, or ended: done with the rank, or too wide
pub data Machine : Type 0 where
  at : Letter → ℕ → State → Machine
  done : ℕ → State → Machine
  wide : Machine

-- some entry of column k from row i on, of `more` rows, is not zero
unfoldable pub column_keeps : Matrix → ℕ → ℕ → ℕ → Bool
column_keeps A k zero i = false
column_keeps A k (suc more) i = not (eqb (nat_abs (A i k)) 0) || column_keeps A k more (suc i)

-- some entry of row k from column j on, of `more` columns, is not zero
unfoldable pub row_keeps : Matrix → ℕ → ℕ → ℕ → Bool
row_keeps A k zero j = false
row_keeps A k (suc more) j = not (eqb (nat_abs (A k j)) 0) || row_keeps A k more (suc j)

-- some entry of row i from column j on, of `more` columns, is not divisible by the pivot
unfoldable pub row_indivisible : Matrix → ℤ → ℕ → ℕ → ℕ → Bool
row_indivisible A pivot i zero j = false
row_indivisible A pivot i (suc more) j = not (divides pivot (A i j)) || row_indivisible A pivot i more (suc j)

-- a row, or none
pub data Row : Type 0 where
  no_row : Row
  row : ℕ → Row

-- the first row from i on, of `more` rows, with such an entry among `across` columns from j on
unfoldable pub first_indivisible : Matrix → ℤ → ℕ → ℕ → ℕ → ℕ → Row
first_indivisible A pivot j across zero i = no_row
first_indivisible A pivot j across (suc more) i =
    elim (row_indivisible A pivot i across j) [ true ↦ row i | false ↦ first_indivisible A pivot j across more (suc i) ]

-- the machine has ended: done, or too wide
abbrev pub Ended : Machine → Type 0
Ended (at l k s) = ⊥
Ended (done r s) = Unit {0}
Ended wide = Unit {0}

module _ (limit : ℕ) (z : Sizes) where
  -- row k is negated where its pivot is negative
  unfoldable pub positive : ℕ → State → Outcome
  positive k s = elim (non_neg (entry s.matrix k k)) [ true ↦ made s | false ↦ on_row limit z (negate k) s ]

  -- step b: the entry at (i, j) goes to (k, k), which is then made positive
  unfoldable pub bring : ℕ → ℕ → ℕ → State → Outcome
  bring k i j s = and_then (on_row limit z (swap i k) s) (λ s₁. and_then (on_column limit z (swap j k) s₁) (λ s₂. positive k s₂))

  -- the quotient of an entry by the pivot, rounded towards minus infinity
  unfoldable pub quotient : ℕ → State → ℕ → ℕ → ℤ
  quotient k s i j = floor (entry s.matrix i j) (entry s.matrix k k)

  -- step c: for `more` rows from i on in rising order, subtract quotient times row k
  unfoldable pub row_pass : ℕ → ℕ → ℕ → State → Outcome
  row_pass k zero i s = made s
  row_pass k (suc more) i s = and_then (on_row limit z (subtract i k (quotient k s i k)) s) (λ s₁. row_pass k more (suc i) s₁)

  -- step d: for `more` columns from j on in rising order, subtract quotient times column k
  unfoldable pub column_pass : ℕ → ℕ → ℕ → State → Outcome
  column_pass k zero j s = made s
  column_pass k (suc more) j s = and_then (on_column limit z (subtract j k (quotient k s k j)) s) (λ s₁. column_pass k more (suc j) s₁)

  -- where the work goes on after an operation or a pass
  unfoldable pub next : Outcome → (State → Machine) → Machine
  next too_wide to = wide
  next (made s) to = to s

  -- One letter. a (with b): the pivot among rows and columns from k on is brought to (k, k); if there is none, the rank is k. c: the row pass; if column
  -- k keeps a nonzero below, back to a. d: the column pass; if row k keeps a nonzero to the right, back to a. e: the row of the first entry that the
  -- pivot does not divide is added to row k, and back to d; if there is none, k rises by one.
  unfoldable pub step : Rule → Machine → Machine
  step rule (at a k s) =
      elim (rule z.rows z.columns k (entry s.matrix)) [
        | none ↦ done k s
        | place i j ↦ next (bring k i j s) (λ s₁. at c k s₁)
      ]
  step rule (at c k s) =
      next (row_pass k (z.rows - suc k) (suc k) s)
      (λ s₁. at (cond (column_keeps (entry s₁.matrix) k (z.rows - suc k) (suc k)) a d) k s₁)
  step rule (at d k s) =
      next (column_pass k (z.columns - suc k) (suc k) s)
      (λ s₁. at (cond (row_keeps (entry s₁.matrix) k (z.columns - suc k) (suc k)) a e) k s₁)
  step rule (at e k s) =
      elim (first_indivisible (entry s.matrix) (entry s.matrix k k) (suc k) (z.columns - suc k) (z.rows - suc k) (suc k)) [
        | no_row ↦ at a (suc k) s
        | row i ↦ next (on_row limit z (subtract k i (negsuc 0)) s) (λ s₁. at d k s₁)
      ]
  step rule (done r s) = done r s
  step rule wide = wide

  -- n steps; an ended machine stays as it is
  unfoldable pub run : Rule → ℕ → Machine → Machine
  run rule zero x = x
  run rule (suc n) (at l k s) = run rule n (step rule (at l k s))
  run rule (suc n) (done r s) = done r s
  run rule (suc n) wide = wide

  -- finitely many steps lead from x to y
  pub record Reaches (rule : Rule) (x y : Machine) : Type 0 where
    pub steps : ℕ
    pub leads : run rule steps x ≡ y

  -- steps enough for every start within the limit: a stage meets a pivot of each size once, and a pivot takes five letters at most
  abbrev pub enough : ℕ
  enough = suc (min z.rows z.columns) * (5 * suc limit)

  -- the reduction: stage k starts at 0
  unfoldable pub reduce : Rule → State → Machine
  reduce rule s = run rule enough (at a 0 s)
