-- An operation that subtracts 0 times a line, or exchanges a line with itself, leaves the matrix and its companions as they are: `unchanged`, and so
-- `rows-unchanged`, `columns-unchanged`.
use mathlib.Core.Path.{◌≡◌, refl, sym, ap, ◌∙◌}
use mathlib.Core.Logic.{inl}
use mathlib.Core.List.{List}
use Prim.Native.Nat.{ℕ, ◌<◌}
use native.Mathlib.Nat as NatL
use native.Mathlib.Decide.{ℕ_discrete}
use lib.IntN.{ℤ, pos, neg_ℤ}
use Rattle.std.specs.Prelude.{Ok}
use Rattle.integers.proofs.Ring.{zero-mul, add-zero}
use Rattle.matrices.specs.Matrix.{transpose}
use Rattle.matrices.specs.Matrix as theory
use Rattle.matrices.specs.Operation.{Operation, subtract, swap, negate, on_rows, on_columns, inverse}
use Rattle.matrices.proofs.OperationLaws.{on_rows-subtract-at, on_rows-subtract-other, on_rows-swap-first, on_rows-swap-other}
use lib.ListN.{length}
use Rattle.reduction_steps.specs.State.{made, on_row, on_column}
use Rattle.matrix_lines.specs.Slice.{entry_limit, Small, Under, Bounded}
use Rattle.matrix_lines.specs.Matrices.{contents, Entries, Holds}
use Rattle.elementary_operations.specs.Operations.{Fits, Writes}
use Rattle.matrix_lines.proofs.Peaks.{under-small, small-bounded, covered_same}
use Rattle.matrix_lines.specs.declared.matrix.Matrix.{Matrix}
use Rattle.operations.specs.Laid.{Laid, sizes_of, state_of}
use Rattle.operations.specs.declared.workspace.Workspace.{Workspace}
use Rattle.operations.proofs.Side.{Side, rows, columns, follower, undone, on_side, written}
use Rattle.operations.proofs.Operate.{ends, Task, Comes}

-- it changes nothing
abbrev pub Identity : Operation → Type 0
Identity (subtract i k q) = q ≡ pos 0
Identity (swap i k) = i ≡ k
Identity (negate k) = ⊥

on_rows-identity : (op : Operation) → Identity op → (A : theory.Matrix) (a b : ℕ) → on_rows op A a b ≡ A a b
on_rows-identity (subtract i k q) e A a b = pick (ℕ_discrete a i)
  where
    pick : Dec (a ≡ i) → on_rows (subtract i k q) A a b ≡ A a b
    pick (yes same) = rw same (on_rows-subtract-at i k q A b ∙ rw (e, zero-mul (A k b), add-zero (A i b)))
    pick (no d) = on_rows-subtract-other i k q A a b d
on_rows-identity (swap i k) e A a b = pick (ℕ_discrete a i)
  where
    pick : Dec (a ≡ i) → on_rows (swap i k) A a b ≡ A a b
    pick (yes same) = rw same (on_rows-swap-first i k A b ∙ ap (λ (x : ℕ). A x b) (sym e))
    pick (no d) = on_rows-swap-other i k A a b d (λ f. d (f ∙ sym e))
on_rows-identity (negate k) e A a b = absurd e

on_side-identity : (x : Side) (op : Operation) → Identity op → (A : theory.Matrix) (a b : ℕ) → on_side x op A a b ≡ A a b
unfolding on_columns
on_side-identity rows op e A a b = on_rows-identity op e A a b
on_side-identity columns op e A a b = on_rows-identity op e (transpose A) b a

identity-inverse : (op : Operation) → Identity op → Identity (inverse op)
unfolding inverse
identity-inverse (subtract i k q) e = ap neg_ℤ e
identity-inverse (swap i k) e = e
identity-inverse (negate k) e = e

-- a slice holds what it holds
holds_same :
    (M : Matrix) (w : List ℤ) (among : Entries) (A : theory.Matrix) → Bounded 0 w → ((a b : ℕ) → A a b ≡ contents M w a b) → Holds M w among A 0 0 w
holds_same M w among A s e = record {
  same_length = refl;
  on = record { at = λ a b x y. sym (e a b) };
  off = λ p o. refl;
  bounded = s;
  above = NatL.le_refl 0;
  covered = covered_same w;
  wrote = inl refl;
}

pub unchanged : (t : Task) → Small t.slice → Identity t.operation → Comes t (Ok 0) t.slice
unchanged t small e =
    let x = t.side in let op = t.operation in let W = t.workspace in let w = t.slice in let s = small-bounded small in
    ends x op W w t.laid t.fits.within
    (holds_same W.matrix w (written x op) (on_side x op (contents W.matrix w)) s (on_side-identity x op e (contents W.matrix w)))
    (holds_same (follower x W) w (λ i j. Writes op i) (on_rows op (contents (follower x W) w)) s (on_rows-identity op e (contents (follower x W) w)))
    (Ok 0)
    (holds_same (undone x W) w (λ i j. Writes (inverse op) i) (on_rows (inverse op) (contents (undone x W) w)) s (on_rows-identity (inverse op) (identity-inverse op e) (contents (undone x W) w)))

-- ---- what the passes need: no operation is called where it would change nothing

module _ (W : Workspace) (peak : ℕ) (w : List ℤ) (laid : Laid (length w) W) (under : Under peak w) (op : Operation) (identity : Identity op) where
  pub rows-unchanged : Fits W.matrix.lines op → on_row entry_limit (sizes_of W) op (state_of W peak w) ≡ made (state_of W peak w)
  rows-unchanged fits =
      sym ((unchanged (record { side = rows; operation = op; workspace = W; slice = w; laid = laid; fits = fits }) (under-small under) identity).outcome peak under)
      ∙ ap (λ (p : ℕ). made (state_of W p w)) (NatL.max-zero peak)

  pub columns-unchanged : Fits W.matrix.width op → on_column entry_limit (sizes_of W) op (state_of W peak w) ≡ made (state_of W peak w)
  columns-unchanged fits =
      sym ((unchanged (record { side = columns; operation = op; workspace = W; slice = w; laid = laid; fits = fits }) (under-small under) identity).outcome peak under)
      ∙ ap (λ (p : ℕ). made (state_of W p w)) (NatL.max-zero peak)

-- an exchange of two of n lines
pub swap-fits : {n : ℕ} (i k : ℕ) → (i < n) × (k < n) → Fits n (swap i k)
swap-fits i k bounds = record { within = record { first = bounds.0; second = bounds.1 }; factor = tt }
