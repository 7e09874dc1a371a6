-- Single steps of the machine: what each letter of document 01, "The reduction", makes of a small matrix, and which letter comes next.
--     step-examples    each case leads where the table says, with the peak that document 02, Note 4, asks for
use Rattle.std.specs.Prelude.{List, [], ◌∷◌, ◌≡◌, refl, ℕ, ℤ, pos, neg_ℤ}
use Rattle.integers.specs.Division.{floor, divides}
use Rattle.lists.specs.Tabulate.{tabulate}
use Rattle.matrices.specs.Operation.{inverse}
use Rattle.reduction_steps.specs.Table.{Table, table, row_largest, table_largest}
use Rattle.reduction_steps.specs.Lines.{on_list, line_less, on_lines, on_entries}
use Rattle.reduction_steps.specs.State.{Sizes, State, largest, row_operation, column_operation, within, checked, and_then, on_row, on_column}
use Rattle.reduction_steps.specs.Pivot.{better, along_row, down_rows, release1}
use Rattle.reduction_steps.specs.Step.{Machine, at, a, c, d, e, done, wide, column_keeps, row_keeps, row_indivisible, first_indivisible, positive, bring, quotient, row_pass, column_pass, next, step}

abbrev minus : ℕ → ℤ
minus n = neg_ℤ (pos n)

-- two rows and two columns with four companions
abbrev sizes : Sizes
sizes = record { rows = 2; columns = 2; row_follower = 2; row_inverse = 2; column_follower = 2; column_inverse = 2 }

abbrev square : ℤ → ℤ → ℤ → ℤ → Table
square w x y z = (w ∷ x ∷ []) ∷ (y ∷ z ∷ []) ∷ []

abbrev unit : Table
unit = square (pos 1) (pos 0) (pos 0) (pos 1)

-- a matrix whose companions start as identities, and the peak
abbrev fresh : Table → ℕ → State
fresh A n = record { matrix = A; row_follower = unit; row_inverse = unit; column_follower = unit; column_inverse = unit; peak = n }

-- a matrix after row operations alone, and after column operations alone
abbrev by_rows : Table → Table → Table → ℕ → State
by_rows A follower inverted n = record { matrix = A; row_follower = follower; row_inverse = inverted; column_follower = unit; column_inverse = unit; peak = n }

abbrev by_columns : Table → Table → Table → ℕ → State
by_columns A follower inverted n = record { matrix = A; row_follower = unit; row_inverse = unit; column_follower = follower; column_inverse = inverted; peak = n }

-- one step from `before`, at the entry limit 6
pub record Case : Type 0 where
  pub before : Machine
  pub after : Machine

abbrev pub cases : List Case
cases =
    -- a: of -2 in row 0 and 2 in row 1 the lowest row is chosen; its column comes to column 0, and row 0 is negated
    record {
      before = at a 0 (fresh (square (pos 3) (minus 2) (pos 2) (pos 5)) 5);
      after = at c 0 (record {
        matrix = square (pos 2) (minus 3) (pos 5) (pos 2);
        row_follower = square (minus 1) (pos 0) (pos 0) (pos 1);
        row_inverse = square (minus 1) (pos 0) (pos 0) (pos 1);
        column_follower = square (pos 0) (pos 1) (pos 1) (pos 0);
        column_inverse = square (pos 0) (pos 1) (pos 1) (pos 0);
        peak = 5;
      });
    }
    -- a: of 2 and -2 in row 0 the lowest column is chosen
    ∷ record { before = at a 0 (fresh (square (pos 2) (minus 2) (pos 2) (pos 3)) 3); after = at c 0 (fresh (square (pos 2) (minus 2) (pos 2) (pos 3)) 3) }
    -- a: none is left, so the rank is the stage
    ∷ record { before = at a 1 (fresh (square (pos 2) (pos 0) (pos 0) (pos 0)) 2); after = done 1 (fresh (square (pos 2) (pos 0) (pos 0) (pos 0)) 2) }
    -- c: the quotient of -3 by 2 is -2; a remainder leads back to a
    ∷ record {
      before = at c 0 (fresh (square (pos 2) (pos 1) (minus 3) (pos 0)) 3);
      after = at a 0 (by_rows (square (pos 2) (pos 1) (pos 1) (pos 2)) (square (pos 1) (pos 0) (pos 2) (pos 1)) (square (pos 1) (minus 2) (pos 0) (pos 1)) 3);
    }
    -- c: no remainder leads to d
    ∷ record {
      before = at c 0 (fresh (square (pos 2) (pos 1) (pos 4) (pos 0)) 4);
      after = at d 0 (by_rows (square (pos 2) (pos 1) (pos 0) (minus 2)) (square (pos 1) (pos 0) (minus 2) (pos 1)) (square (pos 1) (pos 2) (pos 0) (pos 1)) 4);
    }
    -- c: an entry at the limit is not too wide, one beyond it is
    ∷ record {
      before = at c 0 (fresh (square (pos 1) (pos 2) (minus 1) (pos 4)) 4);
      after = at d 0 (by_rows (square (pos 1) (pos 2) (pos 0) (pos 6)) (square (pos 1) (pos 0) (pos 1) (pos 1)) (square (pos 1) (minus 1) (pos 0) (pos 1)) 6);
    }
    ∷ record { before = at c 0 (fresh (square (pos 1) (pos 2) (minus 1) (pos 5)) 5); after = wide }
    -- d: the quotient of -3 by 2 is -2; a remainder leads back to a
    ∷ record {
      before = at d 0 (fresh (square (pos 2) (minus 3) (pos 0) (pos 1)) 3);
      after = at a 0 (by_columns (square (pos 2) (pos 1) (pos 0) (pos 1)) (square (pos 1) (pos 0) (pos 2) (pos 1)) (square (pos 1) (minus 2) (pos 0) (pos 1)) 3);
    }
    -- d: no remainder leads to e
    ∷ record {
      before = at d 0 (fresh (square (pos 2) (pos 4) (pos 0) (pos 1)) 4);
      after = at e 0 (by_columns (square (pos 2) (pos 0) (pos 0) (pos 1)) (square (pos 1) (pos 0) (minus 2) (pos 1)) (square (pos 1) (pos 2) (pos 0) (pos 1)) 4);
    }
    -- e: the row of 3, which 2 does not divide, is added to row 0, and the work goes to d
    ∷ record {
      before = at e 0 (fresh (square (pos 2) (pos 0) (pos 0) (pos 3)) 3);
      after = at d 0 (by_rows (square (pos 2) (pos 3) (pos 0) (pos 3)) (square (pos 1) (pos 1) (pos 0) (pos 1)) (square (pos 1) (pos 0) (minus 1) (pos 1)) 3);
    }
    -- e: 2 divides all that is beyond, so the next stage begins
    ∷ record { before = at e 0 (fresh (square (pos 2) (pos 0) (pos 0) (pos 4)) 4); after = at a 1 (fresh (square (pos 2) (pos 0) (pos 0) (pos 4)) 4) }
    -- c: the entry 6 becomes 0, and the peak stays 6 where no entry exceeds 3
    ∷ record {
      before = at c 0 (fresh (square (pos 3) (pos 0) (pos 6) (pos 1)) 6);
      after = at d 0 (by_rows (square (pos 3) (pos 0) (pos 0) (pos 1)) (square (pos 1) (pos 0) (minus 2) (pos 1)) (square (pos 1) (pos 2) (pos 0) (pos 1)) 6);
    }
    -- e: a peak of earlier operations stays
    ∷ record {
      before = at e 0 (fresh (square (pos 2) (pos 0) (pos 0) (pos 3)) 5);
      after = at d 0 (by_rows (square (pos 2) (pos 3) (pos 0) (pos 3)) (square (pos 1) (pos 1) (pos 0) (pos 1)) (square (pos 1) (pos 0) (minus 1) (pos 1)) 5);
    }
    -- c and d with quotient 2: each companion in turn holds the peak alone
    ∷ record {
      before = at c 0 (by_rows (square (pos 1) (pos 0) (pos 2) (pos 1)) (square (pos 2) (pos 0) (pos 0) (pos 1)) unit 2);
      after = at d 0 (by_rows unit (square (pos 2) (pos 0) (minus 4) (pos 1)) (square (pos 1) (pos 2) (pos 0) (pos 1)) 4);
    }
    ∷ record {
      before = at c 0 (by_rows (square (pos 1) (pos 0) (pos 2) (pos 1)) unit (square (pos 1) (pos 0) (pos 0) (pos 2)) 2);
      after = at d 0 (by_rows unit (square (pos 1) (pos 0) (minus 2) (pos 1)) (square (pos 1) (pos 4) (pos 0) (pos 2)) 4);
    }
    ∷ record {
      before = at d 0 (by_columns (square (pos 1) (pos 2) (pos 0) (pos 1)) (square (pos 2) (pos 0) (pos 0) (pos 1)) unit 2);
      after = at e 0 (by_columns unit (square (pos 2) (pos 0) (minus 4) (pos 1)) (square (pos 1) (pos 2) (pos 0) (pos 1)) 4);
    }
    ∷ record {
      before = at d 0 (by_columns (square (pos 1) (pos 2) (pos 0) (pos 1)) unit (square (pos 1) (pos 0) (pos 0) (pos 2)) 2);
      after = at e 0 (by_columns unit (square (pos 1) (pos 0) (minus 2) (pos 1)) (square (pos 1) (pos 4) (pos 0) (pos 2)) 4);
    }
    ∷ []

-- each case leads where it should
abbrev pub Right : List Case → Type 0
Right [] = Unit {0}
Right (x ∷ l) = (step 6 sizes release1 x.before ≡ x.after) × Right l

pub step-examples : Right cases
unfolding step next bring positive quotient row_pass column_pass column_keeps row_keeps row_indivisible first_indivisible release1 down_rows along_row better
    on_row on_column checked and_then within largest table_largest row_largest row_operation column_operation on_lines on_entries on_list line_less table inverse floor divides tabulate
step-examples = (refl, (refl, (refl, (refl, (refl, (refl, (refl, (refl, (refl, (refl, (refl, (refl, (refl, (refl, (refl, (refl, (refl, tt)))))))))))))))))
