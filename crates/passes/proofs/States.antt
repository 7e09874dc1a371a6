-- The state that a slice holds: entry-state, held-matrix, laid_kept. operated-done, operated-under, operated-wide: what an operation
-- came to. rows_done-moves: a stage's operations keep its finished rows.
use mathlib.Core.Path.{◌≡◌, sym, ◌∙◌, ap, subst}
use mathlib.Core.List.{List}
use Prim.Native.Nat.{ℕ, ◌<◌, max}
use native.Mathlib.Omega.{arith}
use lib.ListN.{length}
use lib.IntN.{ℤ}
use Rattle.std.specs.Prelude.{Result, Ok, Err}
use Rattle.matrices.specs.Matrix as theory
use Rattle.reduction_steps.specs.Table.{entry}
use Rattle.reduction_steps.specs.State.{Sizes, State, Outcome, made, too_wide}
use Rattle.reduction_laws.specs.Tables.{entry-table}
use Rattle.reduction_laws.specs.Shape.{Shaped, shaped-rows, shaped-columns, matrix-rows, matrix-columns}
use Rattle.reduction_laws.specs.Moves.{Moves, Keeps, moves-keep}
use Rattle.reduction_laws.specs.StageLaws as stage_laws
use Rattle.matrix_lines.specs.Slice.{Under}
use Rattle.matrix_lines.specs.Matrices.{Held, contents}
use Rattle.matrix_lines.specs.declared.line.TooWide.{TooWide}
use Rattle.operations.specs.Laid.{Laid, lines_of, state_of, outcome_of, Wrote, Answered, Operated}
use Rattle.matrix_lines.proofs.Peaks.{under-covered}
use Rattle.operations.specs.declared.workspace.Workspace.{Workspace}

-- ---- the state of a slice

pub entry-state : (W : Workspace) (w : List ℤ) (i j : ℕ) → i < W.matrix.lines → j < W.matrix.width → entry (lines_of W.matrix w) i j ≡ contents W.matrix w i j
unfolding lines_of
entry-state W w i j a b = entry-table W.matrix.lines W.matrix.width (contents W.matrix w) i j a b

-- the workspace after an operation or a pass
pub laid_kept : {W : Workspace} {n : ℕ} (w' : List ℤ) → Laid n W → length w' ≡ n → Laid (length w') W
laid_kept {W} w' h l = subst (λ (n : ℕ). Laid n W) (sym l) h

pub held-matrix : {n : ℕ} {W : Workspace} → Laid n W → Held n W.matrix
held-matrix h = record { ends = omega (arith, h.after-matrix, h.after-row-inverse, h.after-row-follower, h.after-column-follower, h.after-column-inverse) }

-- ---- what an operation came to

module _ {W : Workspace} {o : ℕ → Outcome} {written : List ℤ → ℕ → Type 0} {r : Result ℕ TooWide} {w w' : List ℤ} (h : Operated W o written w r w') where
  -- the peak after it is the larger one of the peak before and the answer
  pub operated-done : {a : ℕ} → r ≡ Ok a → {peak n : ℕ} → Under peak w → n ≡ max peak a → o peak ≡ made (state_of W n w')
  operated-done e {peak} u is =
      sym (h.outcome peak u) ∙ ap (λ (x : Result ℕ TooWide). outcome_of W peak x w') e ∙ ap (λ (n : ℕ). made (state_of W n w')) (sym is)

  pub operated-under : {a : ℕ} → r ≡ Ok a → {peak n : ℕ} → Under peak w → n ≡ max peak a → Under n w'
  operated-under {a} e u is =
      subst (λ (n : ℕ). Under n w') (sym is) (under-covered u wrote.covered wrote.bounded)
    where
      wrote : Wrote written w a w'
      wrote = subst (λ (x : Result ℕ TooWide). Answered written w x w') e h.answer

  pub operated-wide : {wide : TooWide} → r ≡ Err wide → {peak : ℕ} → Under peak w → o peak ≡ too_wide
  operated-wide e {peak} u = sym (h.outcome peak u) ∙ ap (λ (x : Result ℕ TooWide). outcome_of W peak x w') e

-- ---- what a stage's operations keep

-- the shape, and the finished rows
record Underway (z : Sizes) (k : ℕ) (s : State) : Type 0 where
  pub shaped : Shaped z s
  pub rows-done : stage_laws.RowsDone z.columns k (entry s.matrix)

underway-keeps : (limit : ℕ) (z : Sizes) (k : ℕ) → Keeps limit z k (Underway z k)
underway-keeps limit z k = record {
  on_rows = λ op t f w h p. record {
    shaped = shaped-rows op p.shaped;
    rows-done = subst (λ (A : theory.Matrix). stage_laws.RowsDone z.columns k A) (sym (matrix-rows op p.shaped w)) (stage_laws.rows_done-rows op f p.rows-done);
  };
  on_columns = λ op t f w h p. record {
    shaped = shaped-columns op p.shaped;
    rows-done = subst (λ (A : theory.Matrix). stage_laws.RowsDone z.columns k A) (sym (matrix-columns op p.shaped w)) (stage_laws.rows_done-columns op f w p.rows-done);
  };
}

pub rows_done-moves :
    {limit : ℕ} {z : Sizes} {k : ℕ} {s t : State} → Moves limit z k s t → Shaped z s → stage_laws.RowsDone z.columns k (entry s.matrix)
    → stage_laws.RowsDone z.columns k (entry t.matrix)
rows_done-moves {limit} {z} {k} p h r = (moves-keep limit z k (underway-keeps limit z k) p (record { shaped = h; rows-done = r })).rows-done
