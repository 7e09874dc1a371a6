-- Step b as the code takes it: what `bring` comes to from the outcomes of its operations and from the test of the sign.
use mathlib.Core.Path.{◌≡◌, refl, sym, ap, ◌∙◌}
use mathlib.Core.Bool.{true, false, true≢false}
use mathlib.Core.List.{List}
use Prim.Native.Nat.{ℕ, ◌<◌}
use native.Mathlib.Omega.{arith}
use borrow.Author.Tests.{ltb-true}
use lib.IntN.{ℤ, pos, negsuc}
use lib.Signed.{lt_z, non_neg}
use mir.Syntax.{w64}
use Rattle.matrices.specs.Operation.{swap, negate}
use Rattle.reduction_steps.specs.Table.{entry}
use Rattle.reduction_steps.specs.State.{Sizes, State, too_wide, made, and_then, on_row, on_column}
use Rattle.reduction_steps.specs.Step.{positive, bring}
use Rattle.matrix_lines.specs.Slice.{Under}
use Rattle.matrix_lines.specs.Matrices.{contents}
use Rattle.machine_words.specs.Read.{read}
use Rattle.operations.specs.Laid.{state_of}
use Rattle.operations.specs.declared.workspace.Workspace.{Workspace}
use Rattle.passes.proofs.States.{entry-state}
use Rattle.passes.proofs.Words.{read-entry}

module _ (limit : ℕ) (z : Sizes) (k i j : ℕ) (s : State) where
  pub bring-rows-wide : on_row limit z (swap i k) s ≡ too_wide → bring limit z k i j s ≡ too_wide
  unfolding bring and_then
  bring-rows-wide e = rw e

  pub bring-columns-wide : (s₁ : State) → on_row limit z (swap i k) s ≡ made s₁ → on_column limit z (swap j k) s₁ ≡ too_wide → bring limit z k i j s ≡ too_wide
  unfolding bring and_then
  bring-columns-wide s₁ e f = rw (e, f)

  pub bring-swapped :
      (s₁ s₂ : State) → on_row limit z (swap i k) s ≡ made s₁ → on_column limit z (swap j k) s₁ ≡ made s₂ → bring limit z k i j s ≡ positive limit z k s₂
  unfolding bring and_then
  bring-swapped s₁ s₂ e f = rw (e, f)

module _ (limit : ℕ) (z : Sizes) (k : ℕ) (s : State) where
  positive-stays : non_neg (entry s.matrix k k) ≡ true → positive limit z k s ≡ made s
  unfolding positive
  positive-stays e = rw (e, positive)

  positive-negates : non_neg (entry s.matrix k k) ≡ false → positive limit z k s ≡ on_row limit z (negate k) s
  unfolding positive
  positive-negates e = rw (e, positive)

sign-left : (x : ℤ) → lt_z x (pos 0) ≡ false → non_neg x ≡ true
sign-left (pos n) e = refl
sign-left (negsuc n) e = absurd (true≢false e)

sign-taken : (x : ℤ) → lt_z x (pos 0) ≡ true → non_neg x ≡ false
sign-taken (pos n) e = absurd (omega (arith, ltb-true n 0 e))
sign-taken (negsuc n) e = refl

-- x holds the pivot of the slice w
module _ (limit : ℕ) (z : Sizes) (W : Workspace) (k : ℕ) {peak : ℕ} (w : List ℤ) (under : Under peak w) (row : k < W.matrix.lines) (column : k < W.matrix.width) {x : ℤ} (x-is : x ≡ contents W.matrix w k k) where
  read-pivot : entry (state_of W peak w).matrix k k ≡ read w64 x
  read-pivot = entry-state W w k k row column ∙ sym (read-entry W.matrix under k k x x-is)

  pub positive-left : lt_z (read w64 x) (pos 0) ≡ false → positive limit z k (state_of W peak w) ≡ made (state_of W peak w)
  positive-left e = positive-stays limit z k (state_of W peak w) (ap non_neg read-pivot ∙ sign-left (read w64 x) e)

  pub positive-taken : lt_z (read w64 x) (pos 0) ≡ true → positive limit z k (state_of W peak w) ≡ on_row limit z (negate k) (state_of W peak w)
  positive-taken e = positive-negates limit z k (state_of W peak w) (ap non_neg read-pivot ∙ sign-taken (read w64 x) e)
