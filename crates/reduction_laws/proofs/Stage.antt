-- What holds throughout stage k: `Stage`. It holds at the start (stage-start), moves from k on keep it (stage-moves), and where step e finds
-- no row, the next stage begins (stage-next). `Finished`: what holds when the reduction is done.
use mathlib.Core.Path.{◌≡◌, sym, subst}
use mathlib.Core.Bool.{true}
use Prim.Native.Nat.{ℕ, suc, ◌-◌, ◌≤◌, ◌<◌, zero-le}
use native.Mathlib.Omega.{arith}
use lib.IntN.{pos}
use Rattle.matrices.specs.Matrix.{Matrix}
use Rattle.reduction_steps.specs.Table.{entry}
use Rattle.reduction_steps.specs.State.{Sizes, State, within}
use Rattle.reduction_steps.specs.Step.{no_row}
use Rattle.reduction_laws.specs.Steps.{indivisible_row}
use Rattle.reduction_laws.specs.Scans.{first_indivisible-none}
use Rattle.reduction_laws.specs.StageLaws.{From-zero, Divisible}
use Rattle.reduction_laws.specs.Letters.{ReadyC, ReadyE}
use Rattle.reduction_laws.specs.Shape.{Shaped, shaped-rows, shaped-columns, matrix-rows, matrix-columns}
use Rattle.reduction_laws.specs.Moves.{Moves, stay, rows, columns, Keeps, moves-keep}
use Rattle.reduction_laws.proofs.Tracked.{Tracked, tracked-refl, tracked-rows, tracked-columns}
use Rattle.reduction_laws.proofs.Leading.{Leading, leading-zero, leading-rows, leading-columns, leading-suc}

module _ (limit : ℕ) (z : Sizes) (s₀ : State) (k : ℕ) where
  -- s is in stage k, on the way from s₀
  pub record Stage (s : State) : Type 0 where
    pub shaped : Shaped z s
    pub within : within limit s ≡ true
    pub moves : Moves limit z 0 s₀ s
    pub tracked : Tracked z s₀ s
    pub leading : Leading z.rows z.columns k (entry s.matrix)
    pub rows_bound : k ≤ z.rows
    pub columns-bound : k ≤ z.columns

  -- a state with the matrix A, made from one in stage k
  stays : {s t : State} {A : Matrix} → Stage s → Shaped z t → within limit t ≡ true → Moves limit z 0 s₀ t → Tracked z s₀ t → entry t.matrix ≡ A
      → Leading z.rows z.columns k A → Stage t
  stays p h w moves tracked is leading = record {
    shaped = h;
    within = w;
    moves = moves;
    tracked = tracked;
    leading = subst (λ (A : Matrix). Leading z.rows z.columns k A) (sym is) leading;
    rows_bound = p.rows_bound;
    columns-bound = p.columns-bound;
  }

  stage-keeps : Keeps limit z k Stage
  stage-keeps = record {
    on_rows = λ op t f w h p.
        stays p (shaped-rows op p.shaped) h (rows op (From-zero op) w h p.moves) (tracked-rows op p.shaped p.tracked w)
        (matrix-rows op p.shaped w) (leading-rows op f w p.leading);
    on_columns = λ op t f w h p.
        stays p (shaped-columns op p.shaped) h (columns op (From-zero op) w h p.moves) (tracked-columns op p.shaped p.tracked w)
        (matrix-columns op p.shaped w) (leading-columns op f w p.leading);
  }

  pub stage-moves : {s t : State} → Moves limit z k s t → Stage s → Stage t
  stage-moves p h = moves-keep limit z k stage-keeps p h

pub stage-start : (limit : ℕ) (z : Sizes) (s : State) → Shaped z s → within limit s ≡ true → Stage limit z s 0 s
stage-start limit z s h w = record {
  shaped = h;
  within = w;
  moves = stay;
  tracked = tracked-refl z s;
  leading = leading-zero z.rows z.columns (entry s.matrix);
  rows_bound = zero-le;
  columns-bound = zero-le;
}

pub stage-next : {limit : ℕ} {z : Sizes} {s₀ : State} {k : ℕ} {s : State} → Stage limit z s₀ k s → ReadyE z k s → indivisible_row z k s ≡ no_row → Stage limit z s₀ (suc k) s
stage-next {limit} {z} {s₀} {k} {s} stage h e = record {
  shaped = stage.shaped;
  within = stage.within;
  moves = stage.moves;
  tracked = stage.tracked;
  leading = leading-suc c.row c.column stage.leading c.positive h.ready.below h.right divisible;
  rows_bound = c.row;
  columns-bound = c.column;
}
  where
    A : Matrix
    A = entry s.matrix

    c : ReadyC z k s
    c = h.ready.ready

    divisible : Divisible z.rows z.columns (suc k) (A k k) A
    divisible = record {
      divides = λ i j p a q b.
          first_indivisible-none A (A k k) (suc k) (z.columns - suc k) (z.rows - suc k) (suc k) e i j p (omega (arith, c.row)) q (omega (arith, c.column));
    }

-- done with rank r: the first r rows and columns are finished, and all else is zero
pub record Finished (limit : ℕ) (z : Sizes) (s₀ : State) (r : ℕ) (s : State) : Type 0 where
  pub stage : Stage limit z s₀ r s
  pub zeros : (i j : ℕ) → r ≤ i → i < z.rows → r ≤ j → j < z.columns → entry s.matrix i j ≡ pos 0
