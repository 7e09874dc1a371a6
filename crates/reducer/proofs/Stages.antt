-- Where the functions of a stage go, with what holds there (`Onward`): to-rows, rows-to-choice, rows-to-columns, columns-to-choice, row-clear,
-- columns-again. How a stage ends: onward-ends where it goes on, again where no round is left, exhausted, cleared, and pass-stops and add-stops where
-- it goes too wide.
use mathlib.Core.Path.{◌≡◌, refl, sym, ap, ◌∙◌, subst, subst₂}
use mathlib.Core.Bool.{Bool, true, false}
use mathlib.Core.List.{List}
use Prim.Native.Nat.{ℕ, suc, ◌+◌, ◌-◌, ◌≤◌, ◌<◌}
use native.Mathlib.Nat as Nat
use native.Mathlib.Decide.{ℕ_discrete}
use native.Mathlib.Omega.{arith}
use lib.IntN.{ℤ, pos, negsuc, nat_abs}
use lib.ListN.{length, replicate}
use Rattle.std.specs.Prelude.{Result, Ok, Err}
use Rattle.integers.specs.Division.{◌∣ℤ◌}
use Rattle.integers.proofs.Floor.{dvd-iff-modulo, nat_abs-modulo}
use Rattle.matrices.specs.Operation.{subtract}
use Rattle.reduction_steps.specs.State.{Outcome, too_wide, made, on_row}
use Rattle.reduction_steps.specs.Pivot.{Choice, none, place, Rule, IsRule, Least}
use Rattle.reduction_steps.specs.Step.{Letter, Machine, at, wide, column_keeps, row_keeps, first_indivisible, Row, no_row, row}
use Rattle.reduction_laws.proofs.Run.{reaches-refl, reaches-next, reaches-trans}
use Rattle.reduction_laws.specs.Shape.{Shaped}
use Rattle.reduction_laws.specs.Steps.{step-a-none, step-a-wide, step-a-made, step-c-wide, step-c-made, step-d-wide, step-d-made, step-e-none, step-e-wide, step-e-made}
use Rattle.reduction_laws.specs.Scans.{FirstRow, first_indivisible-row}
use Rattle.reduction_laws.specs.Letters.{ReadyC, ReadyE, AfterA, after-a, AfterC, after-c, after-c-keeps, after-c-clear, AfterD, after-d, after-d-keeps, after-d-clear, AfterE, after-e}
use Rattle.matrix_lines.specs.Slice.{entry_limit, Under}
use Rattle.matrix_lines.specs.Matrices.{contents}
use Rattle.refusal.specs.declared.Refusal.{Refusal}
use Rattle.refusal.specs.declared.Refusal.TheVariants as refusal
use Rattle.operations.specs.Laid.{Laid, sizes_of, state_of}
use Rattle.scans.specs.Scan.{ColumnReduced}
use Rattle.operations.specs.declared.workspace.Workspace.{Workspace}
use Rattle.operations.proofs.Side.{shaped-state}
use Rattle.reducer.specs.declared.stage.Stage.{Stage}
use Rattle.reducer.specs.declared.stage.Stage.TheVariants as stage
use Rattle.passes.specs.PassAnswers.{matrix_of, RowsDone, Placed, ColumnClear, bring_of, row_pass_of, column_pass_of, Passed, PassMade, PassRefused}
use Rattle.reducer.specs.StageAnswers.{Begun, chosen_size, pivot_size, Goes, StageCleared, StageAgain, StageExhausted, StageRefused, StageEnds}
use Rattle.passes.proofs.States.{laid_kept, entry-state, rows_done-moves}
use Rattle.reducer.proofs.Tests.{column_keeps-cong, row_keeps-cong, first_indivisible-cong}
use Rattle.reducer.proofs.Measures.{column_calls, calls-fall, chosen_at, smaller-chosen}

-- From the machine x the workspace has come to letter l with the slice w', of which P holds. The absolute value to be brought down, which was `bound`, has
-- fallen by `spent` at least.
pub record Onward (rule : Rule) (P : Workspace → ℕ → ℕ → List ℤ → Type 0) (size : Workspace → ℕ → List ℤ → ℕ) (l : Letter) (W : Workspace) (k : ℕ) (x : Machine) (n spent bound peak' : ℕ) (w' : List ℤ) : Type 0 where
  pub holds : P W k peak' w'
  pub falls : size W k w' + spent ≤ bound
  pub goes : Goes rule W x (at l k (state_of W peak' w'))
  pub same_length : length w' ≡ n

-- from the choice to the row pass
abbrev pub ToRows : Rule → Workspace → ℕ → ℕ → List ℤ → ℕ → List ℤ → Type 0
ToRows rule W k peak w peak' w' = Onward rule Placed pivot_size Letter.c W k (at Letter.a k (state_of W peak w)) (length w) 0 (chosen_size rule W k w) peak' w'

-- from letter l back to the choice
abbrev pub ToChoice : Rule → Letter → Workspace → ℕ → ℕ → List ℤ → ℕ → List ℤ → Type 0
ToChoice rule l W k peak w peak' w' = Onward rule Begun (chosen_size rule) Letter.a W k (at l k (state_of W peak w)) (length w) 1 (pivot_size W k w) peak' w'

-- from letter l to the column pass: from the row pass, or after step e
abbrev pub ToColumns : Rule → Letter → Workspace → ℕ → ℕ → List ℤ → ℕ → List ℤ → Type 0
ToColumns rule l W k peak w peak' w' = Onward rule ColumnClear pivot_size Letter.d W k (at l k (state_of W peak w)) (length w) 0 (pivot_size W k w) peak' w'

-- a stage that goes on from y ends as one from x that comes to y
pub stage-after :
    {rule : Rule} (W : Workspace) (k rounds' rounds size' size : ℕ) (x y : Machine) (n : ℕ) (w : List ℤ) (r : Result Stage Refusal) (w' : List ℤ) → size' + rounds ≤ size + rounds' → Goes rule W x y → length w ≡ n
    → StageEnds rule W k rounds' size' y (length w) r w' → StageEnds rule W k rounds size x n r w'
stage-after {rule} W k rounds' rounds size' size x y n w (Ok (stage.Cleared peak)) w' b g l e = record {
  goes = reaches-trans entry_limit (sizes_of W) rule g e.goes;
  begun = e.begun;
  same_length = e.same_length ∙ l;
}
stage-after {rule} W k rounds' rounds size' size x y n w (Ok (stage.Exhausted peak)) w' b g l e = record {
  goes = reaches-trans entry_limit (sizes_of W) rule g e.goes;
  kept = record { same_length = e.kept.same_length ∙ l; under = e.kept.under };
}
stage-after {rule} W k rounds' rounds size' size x y n w (Ok (stage.Again peak)) w' b g l e = record {
  goes = reaches-trans entry_limit (sizes_of W) rule g e.goes;
  begun = e.begun;
  falls = omega (arith, e.falls);
  same_length = e.same_length ∙ l;
}
stage-after {rule} W k rounds' rounds size' size x y n w (Err z) w' b g l e = record {
  goes = reaches-trans entry_limit (sizes_of W) rule g e.goes;
  cleared = record { number = e.cleared.number; zeros = e.cleared.zeros ∙ ap (λ (n : ℕ). replicate n (pos 0)) l };
}

-- what is spent is the rounds that the callee does not count
pub onward-ends :
    {rule : Rule} {P : Workspace → ℕ → ℕ → List ℤ → Type 0} {size : Workspace → ℕ → List ℤ → ℕ} {l : Letter} {W : Workspace} {k : ℕ} {x : Machine} {n spent bound peak : ℕ} {w : List ℤ}
    → Onward rule P size l W k x n spent bound peak w → (rounds' rounds : ℕ) → rounds ≤ rounds' + spent → (r : Result Stage Refusal) (w' : List ℤ)
    → StageEnds rule W k rounds' (size W k w) (at l k (state_of W peak w)) (length w) r w' → StageEnds rule W k rounds bound x n r w'
onward-ends {rule} {P} {size} {l} {W} {k} {x} {n} {spent} {bound} {peak} {w} o rounds' rounds b r w' e =
    stage-after W k rounds' rounds (size W k w) bound x (at l k (state_of W peak w)) n w r w' (omega (arith, o.falls)) o.goes o.same_length e

-- no round is left, and the stage stays at letter a
pub again : {rule : Rule} {W : Workspace} {k peak : ℕ} {w : List ℤ} → Begun W k peak w → (rounds : ℕ) → rounds ≡ 0 → StageAgain rule W k rounds (chosen_size rule W k w) (at Letter.a k (state_of W peak w)) (length w) peak w
again {rule} {W} {k} {peak} {w} h rounds e = record {
  goes = reaches-refl entry_limit (sizes_of W) rule (at Letter.a k (state_of W peak w));
  begun = h;
  falls = omega arith;
  same_length = refl;
}

-- what a pass answered
pub passed-made : {W : Workspace} {o : Outcome} {n : ℕ} {r : Result ℕ Refusal} {peak' : ℕ} {w' : List ℤ} → r ≡ Ok peak' → Passed W o n r w' → PassMade W o n peak' w'
passed-made {W} {o} {n} {r} {w' = w'} e h = subst (λ (x : Result ℕ Refusal). Passed W o n x w') e h

-- a pass that went too wide ends the stage
pub pass-stops :
    {rule : Rule} (W : Workspace) (x : Machine) {o : Outcome} {n : ℕ} (r : Result ℕ Refusal) {y : Refusal} (w' : List ℤ) → (o ≡ too_wide → Goes rule W x wide) → r ≡ Err y → Passed W o n r w'
    → StageRefused rule W x n y w'
pass-stops W x {o} {n} r {y} w' f e h =
    let p : PassRefused o n y w' = subst (λ (x : Result ℕ Refusal). Passed W o n x w') e h in
    record { goes = f p.outcome; cleared = p.cleared }

-- ---- letter a

module _ {rule : Rule} (is : IsRule rule) (W : Workspace) (k peak : ℕ) (w : List ℤ) where
  -- the rule's choice, read from the slice
  choice-state : rule W.matrix.lines W.matrix.width k (contents W.matrix w) ≡ rule W.matrix.lines W.matrix.width k (matrix_of W w)
  choice-state = is.block W.matrix.lines W.matrix.width k (contents W.matrix w) (matrix_of W w) (λ i j _ a _ b. sym (entry-state W w i j a b))

  -- the choice that the code makes
  abbrev pub Chosen : Choice → Type 0
  Chosen c = c ≡ rule W.matrix.lines W.matrix.width k (contents W.matrix w)

  pub exhausted : Begun W k peak w → Chosen none → StageExhausted rule W k (at Letter.a k (state_of W peak w)) (length w) peak w
  exhausted h e = record {
    goes = reaches-next entry_limit (sizes_of W) rule (step-a-none entry_limit (sizes_of W) rule k (state_of W peak w) (sym choice-state ∙ sym e));
    kept = record { same_length = refl; under = h.under };
  }

  module _ (i j : ℕ) (e : Chosen (place i j)) where
    pub chosen-least : Least W.matrix.lines W.matrix.width k (matrix_of W w) i j
    chosen-least = is.chosen W.matrix.lines W.matrix.width k (matrix_of W w) i j (sym choice-state ∙ sym e)

    pub bring-goes : bring_of W k i j peak w ≡ too_wide → Goes rule W (at Letter.a k (state_of W peak w)) wide
    bring-goes o = reaches-next entry_limit (sizes_of W) rule (step-a-wide entry_limit (sizes_of W) rule k (state_of W peak w) i j (sym choice-state ∙ sym e) o)

    pub to-rows :
        {peak' : ℕ} {w' : List ℤ} → Begun W k peak w → PassMade W (bring_of W k i j peak w) (length w) peak' w'
        → ToRows rule W k peak w peak' w'
    to-rows {peak'} {w'} h p = record {
      holds = record { laid = laid_kept w' h.laid p.kept.same_length; under = p.kept.under; ready = after.ready; rows-done = rows_done-moves after.moves shaped h.rows-done };
      falls = omega (arith, after.size, chosen_at is W.matrix.lines W.matrix.width k (matrix_of W w) i j (sym choice-state ∙ sym e));
      goes = reaches-next entry_limit (sizes_of W) rule (step-a-made entry_limit (sizes_of W) rule k (state_of W peak w) i j (state_of W peak' w') (sym choice-state ∙ sym e) p.outcome);
      same_length = p.kept.same_length;
    }
      where
        shaped : Shaped (sizes_of W) (state_of W peak w)
        shaped = shaped-state peak w h.laid

        after : AfterA entry_limit (sizes_of W) k (state_of W peak w) (state_of W peak' w') (nat_abs (matrix_of W w i j))
        after = after-a entry_limit (sizes_of W) k i j (state_of W peak w) (state_of W peak' w') shaped chosen-least p.outcome

-- ---- letter c

module _ {rule : Rule} (is : IsRule rule) {W : Workspace} {k peak : ℕ} {w : List ℤ} (h : Placed W k peak w) where
  pub rows-go : row_pass_of W k peak w ≡ too_wide → Goes rule W (at Letter.c k (state_of W peak w)) wide
  rows-go o = reaches-next entry_limit (sizes_of W) rule (step-c-wide entry_limit (sizes_of W) rule k (state_of W peak w) o)

  module _ {peak' : ℕ} {w' : List ℤ} (p : PassMade W (row_pass_of W k peak w) (length w) peak' w') where
    after-rows : AfterC entry_limit (sizes_of W) k (state_of W peak w) (state_of W peak' w')
    after-rows = after-c entry_limit (sizes_of W) k (state_of W peak w) (state_of W peak' w') h.ready p.outcome

    rows-laid : Laid (length w') W
    rows-laid = laid_kept w' h.laid p.kept.same_length

    rows-still-done : RowsDone W k w'
    rows-still-done = rows_done-moves after-rows.moves h.ready.shaped h.rows-done

    -- the pass has left remainders
    pub column-reduced : ColumnReduced (contents W.matrix w') k W.matrix.lines
    column-reduced = record {
      less = λ i a b. subst₂ (λ (x y : ℤ). nat_abs x < nat_abs y)
          (sym (after-rows.remainder i a b) ∙ entry-state W w' i k b h.ready.column)
          (sym after-rows.pivot ∙ entry-state W w' k k h.ready.row h.ready.column)
          (nat_abs-modulo (matrix_of W w i k) (matrix_of W w k k) h.ready.positive);
    }

    -- the test, read from the slice
    column-test : (b : Bool) → b ≡ column_keeps (contents W.matrix w') k (W.matrix.lines - suc k) (suc k) → column_keeps (matrix_of W w') k (W.matrix.lines - suc k) (suc k) ≡ b
    column-test b e =
        column_keeps-cong (matrix_of W w') (contents W.matrix w') k (W.matrix.lines - suc k) (suc k)
        (λ i _ l. entry-state W w' i k (omega (arith, h.ready.row)) h.ready.column)
        ∙ sym e

    rows-goes : (b : Bool) → b ≡ column_keeps (contents W.matrix w') k (W.matrix.lines - suc k) (suc k) → Goes rule W (at Letter.c k (state_of W peak w)) (at (elim b [ true ↦ Letter.a | false ↦ Letter.d ]) k (state_of W peak' w'))
    rows-goes true e = reaches-next entry_limit (sizes_of W) rule (step-c-made entry_limit (sizes_of W) rule k (state_of W peak w) (state_of W peak' w') true p.outcome (column-test true e))
    rows-goes false e = reaches-next entry_limit (sizes_of W) rule (step-c-made entry_limit (sizes_of W) rule k (state_of W peak w) (state_of W peak' w') false p.outcome (column-test false e))

    pub rows-to-choice :
        true ≡ column_keeps (contents W.matrix w') k (W.matrix.lines - suc k) (suc k)
        → ToChoice rule Letter.c W k peak w peak' w'
    rows-to-choice e = record {
      holds = record { laid = rows-laid; under = p.kept.under; row-bound = Nat.le_of_lt h.ready.row; column-bound = Nat.le_of_lt h.ready.column; rows-done = rows-still-done };
      falls = smaller-chosen is W.matrix.lines W.matrix.width k (matrix_of W w') (pivot_size W k w)
          (after-c-keeps entry_limit (sizes_of W) k (state_of W peak w) (state_of W peak' w') h.ready after-rows (column-test true e));
      goes = rows-goes true e;
      same_length = p.kept.same_length;
    }

    pub rows-to-columns :
        false ≡ column_keeps (contents W.matrix w') k (W.matrix.lines - suc k) (suc k)
        → ToColumns rule Letter.c W k peak w peak' w'
    rows-to-columns e = record {
      holds = record { laid = rows-laid; under = p.kept.under; ready = after-c-clear entry_limit (sizes_of W) k (state_of W peak w) (state_of W peak' w') after-rows (column-test false e); rows-done = rows-still-done };
      falls = omega (arith, ap nat_abs after-rows.pivot);
      goes = rows-goes false e;
      same_length = p.kept.same_length;
    }

-- ---- letter d

-- after a column pass that has cleared row k: letter e
pub record RowClear (rule : Rule) (W : Workspace) (k peak : ℕ) (w : List ℤ) (peak' : ℕ) (w' : List ℤ) : Type 0 where
  pub laid : Laid (length w') W
  pub under : Under peak' w'
  pub ready : ReadyE (sizes_of W) k (state_of W peak' w')
  pub rows-done : RowsDone W k w'
  pub goes : Goes rule W (at Letter.d k (state_of W peak w)) (at Letter.e k (state_of W peak' w'))
  pub pivot : matrix_of W w' k k ≡ matrix_of W w k k
  pub divided : (j : ℕ) → k < j → j < W.matrix.width → matrix_of W w k k ∣ℤ matrix_of W w k j
  pub same_length : length w' ≡ length w

module _ {rule : Rule} (is : IsRule rule) {W : Workspace} {k peak : ℕ} {w : List ℤ} (h : ColumnClear W k peak w) where
  pub columns-go : column_pass_of W k peak w ≡ too_wide → Goes rule W (at Letter.d k (state_of W peak w)) wide
  columns-go o = reaches-next entry_limit (sizes_of W) rule (step-d-wide entry_limit (sizes_of W) rule k (state_of W peak w) o)

  module _ {peak' : ℕ} {w' : List ℤ} (p : PassMade W (column_pass_of W k peak w) (length w) peak' w') where
    after-columns : AfterD entry_limit (sizes_of W) k (state_of W peak w) (state_of W peak' w')
    after-columns = after-d entry_limit (sizes_of W) k (state_of W peak w) (state_of W peak' w') h.ready p.outcome

    columns-laid : Laid (length w') W
    columns-laid = laid_kept w' h.laid p.kept.same_length

    columns-rows-done : RowsDone W k w'
    columns-rows-done = rows_done-moves after-columns.moves h.ready.ready.shaped h.rows-done

    row-test : (b : Bool) → b ≡ row_keeps (contents W.matrix w') k (W.matrix.width - suc k) (suc k) → row_keeps (matrix_of W w') k (W.matrix.width - suc k) (suc k) ≡ b
    row-test b e =
        row_keeps-cong (matrix_of W w') (contents W.matrix w') k (W.matrix.width - suc k) (suc k)
        (λ j _ l. entry-state W w' k j h.ready.ready.row (omega (arith, h.ready.ready.column)))
        ∙ sym e

    pub columns-to-choice :
        true ≡ row_keeps (contents W.matrix w') k (W.matrix.width - suc k) (suc k)
        → ToChoice rule Letter.d W k peak w peak' w'
    columns-to-choice e = record {
      holds = record { laid = columns-laid; under = p.kept.under; row-bound = Nat.le_of_lt h.ready.ready.row; column-bound = Nat.le_of_lt h.ready.ready.column; rows-done = columns-rows-done };
      falls = smaller-chosen is W.matrix.lines W.matrix.width k (matrix_of W w') (pivot_size W k w)
          (after-d-keeps entry_limit (sizes_of W) k (state_of W peak w) (state_of W peak' w') h.ready after-columns (row-test true e));
      goes = reaches-next entry_limit (sizes_of W) rule (step-d-made entry_limit (sizes_of W) rule k (state_of W peak w) (state_of W peak' w') true p.outcome (row-test true e));
      same_length = p.kept.same_length;
    }

    pub row-clear : false ≡ row_keeps (contents W.matrix w') k (W.matrix.width - suc k) (suc k) → RowClear rule W k peak w peak' w'
    row-clear e = record {
      laid = columns-laid;
      under = p.kept.under;
      ready = ready;
      rows-done = columns-rows-done;
      goes = reaches-next entry_limit (sizes_of W) rule (step-d-made entry_limit (sizes_of W) rule k (state_of W peak w) (state_of W peak' w') false p.outcome (row-test false e));
      pivot = after-columns.pivot;
      divided = λ j a b. (dvd-iff-modulo (matrix_of W w k j) (matrix_of W w k k) h.ready.ready.positive).1 (sym (after-columns.remainder j a b) ∙ ready.right j a b);
      same_length = p.kept.same_length;
    }
      where
        ready : ReadyE (sizes_of W) k (state_of W peak' w')
        ready = after-d-clear entry_limit (sizes_of W) k (state_of W peak w) (state_of W peak' w') after-columns (row-test false e)

-- ---- letter e

-- from the column pass to the column pass after step e, which calls no further one
pub record ColumnsAgain (rule : Rule) (W : Workspace) (k peak : ℕ) (w : List ℤ) (peak' : ℕ) (w' : List ℤ) : Type 0 where
  pub onward : ToColumns rule Letter.d W k peak w peak' w'
  pub calls : column_calls W.matrix.width k (matrix_of W w') < column_calls W.matrix.width k (matrix_of W w)

module _ {rule : Rule} {W : Workspace} {k peak : ℕ} {w : List ℤ} {peak' : ℕ} {w' : List ℤ} (h : RowClear rule W k peak w peak' w') where
  ready-pivot : ReadyC (sizes_of W) k (state_of W peak' w')
  ready-pivot = h.ready.ready.ready

  -- the row that the code finds
  abbrev pub Found : Row → Type 0
  Found r = r ≡ first_indivisible (contents W.matrix w') (contents W.matrix w' k k) (suc k) (W.matrix.width - suc k) (W.matrix.lines - suc k) (suc k)

  found-state : (r : Row) → Found r → first_indivisible (matrix_of W w') (matrix_of W w' k k) (suc k) (W.matrix.width - suc k) (W.matrix.lines - suc k) (suc k) ≡ r
  found-state r e =
      first_indivisible-cong (matrix_of W w') (contents W.matrix w') (matrix_of W w' k k) (contents W.matrix w' k k) (suc k) (W.matrix.width - suc k) (W.matrix.lines - suc k) (suc k)
      (entry-state W w' k k ready-pivot.row ready-pivot.column)
      (λ i j _ a _ b. entry-state W w' i j (omega (arith, ready-pivot.row)) (omega (arith, ready-pivot.column)))
      ∙ sym e

  pub cleared : Found no_row → StageCleared rule W k (at Letter.d k (state_of W peak w)) (length w) peak' w'
  cleared e = record {
    goes = reaches-trans entry_limit (sizes_of W) rule h.goes (reaches-next entry_limit (sizes_of W) rule (step-e-none entry_limit (sizes_of W) rule k (state_of W peak' w') (found-state no_row e)));
    begun = record {
      laid = h.laid;
      under = h.under;
      row-bound = ready-pivot.row;
      column-bound = ready-pivot.column;
      rows-done = record { zero = λ i j a b l. finished i j a b l (ℕ_discrete i k) };
    };
    same_length = h.same_length;
  }
    where
      finished : (i j : ℕ) → i < suc k → suc k ≤ j → j < W.matrix.width → Dec (i ≡ k) → matrix_of W w' i j ≡ pos 0
      finished i j a b l (yes e) = subst (λ (x : ℕ). matrix_of W w' x j ≡ pos 0) (sym e) (h.ready.right j b l)
      finished i j a b l (no f) = h.rows-done.zero i j (omega arith) (omega arith) l

  module _ (i : ℕ) (e : Found (row i)) where
    found-row : FirstRow (matrix_of W w') (matrix_of W w' k k) (suc k) (suc k + (W.matrix.lines - suc k)) (suc k) (suc k + (W.matrix.width - suc k)) i
    found-row = first_indivisible-row (matrix_of W w') (matrix_of W w' k k) (suc k) (W.matrix.width - suc k) (W.matrix.lines - suc k) (suc k) i (found-state (row i) e)

    pub row-lower : k < i
    row-lower = found-row.from

    pub row_within : i < W.matrix.lines
    row_within = omega (arith, found-row.below, ready-pivot.row)

    add_goes : on_row entry_limit (sizes_of W) (subtract k i (negsuc 0)) (state_of W peak' w') ≡ too_wide → Goes rule W (at Letter.d k (state_of W peak w)) wide
    add_goes o = reaches-trans entry_limit (sizes_of W) rule h.goes (reaches-next entry_limit (sizes_of W) rule (step-e-wide entry_limit (sizes_of W) rule k (state_of W peak' w') i (found-state (row i) e) o))

    -- the addition went too wide, and the slice was cleared
    pub add-stops :
        (u : List ℤ) {w'' : List ℤ} → on_row entry_limit (sizes_of W) (subtract k i (negsuc 0)) (state_of W peak' w') ≡ too_wide → w'' ≡ replicate (length u) (pos 0) → length u ≡ length w'
        → StageRefused rule W (at Letter.d k (state_of W peak w)) (length w) refusal.TooWide w''
    add-stops u o z l = record { goes = add_goes o; cleared = record { number = refl; zeros = z ∙ ap (λ (n : ℕ). replicate n (pos 0)) (l ∙ h.same_length) } }

    pub columns-again :
        {peak'' : ℕ} {w'' : List ℤ} → on_row entry_limit (sizes_of W) (subtract k i (negsuc 0)) (state_of W peak' w') ≡ made (state_of W peak'' w'') → Under peak'' w'' → length w'' ≡ length w'
        → ColumnsAgain rule W k peak w peak'' w''
    columns-again {peak''} {w''} o s l = record {
      onward = record {
        holds = record { laid = laid_kept w'' h.laid l; under = s; ready = after.ready; rows-done = rows_done-moves after.moves ready-pivot.shaped h.rows-done };
        falls = omega (arith, ap nat_abs (after.pivot ∙ h.pivot));
        goes = reaches-trans entry_limit (sizes_of W) rule h.goes (reaches-next entry_limit (sizes_of W) rule (step-e-made entry_limit (sizes_of W) rule k (state_of W peak' w') i (state_of W peak'' w'') (found-state (row i) e) o));
        same_length = l ∙ h.same_length;
      };
      calls = calls-fall W.matrix.width k (matrix_of W w) (matrix_of W w'') ready-pivot.column h.divided after.remains;
    }
      where
        after : AfterE entry_limit (sizes_of W) k (state_of W peak' w') (state_of W peak'' w'')
        after = after-e entry_limit (sizes_of W) k i (state_of W peak' w') (state_of W peak'' w'') h.ready (found-state (row i) e) o
