use mathlib.Core.Path.{◌≡◌, refl, sym, ◌∙◌}
use mathlib.Core.Logic.{◌⊎◌, inl, inr, ◌≢◌}
use mathlib.Core.List.{List}
use Prim.Native.Nat.{ℕ, ◌+◌, ◌<◌, ◌≤◌}
use native.Mathlib.Omega.{arith}
use native.Mathlib.Decide.{ℕ_discrete, dec_lt}
use lib.ListN.{length, set}
use lib.IntN.{ℤ, pos}
use Rattle.matrices.specs.Matrix.{Eq, identity, null}
use Rattle.matrices.proofs.Product.{identity-at, identity-other}
use Rattle.matrix_lines.specs.Matrices.{contents}
use Rattle.matrix_lines.specs.declared.matrix.Matrix.{Matrix}
use Rattle.matrix_lines.proofs.UpTo.{up_to, up_to-below, up_to-from}
use Rattle.boundaries.specs.Filled.{MatrixFilled}
use Rattle.boundaries.proofs.Store.{Place, entry_set, matrix-set}
use Rattle.boundaries.proofs.fill.fill_identity.Invariants.{Invariant}
use Rattle.boundaries.proofs.fill.fill_identity.Goals as goal
use Rattle.boundaries.proofs.fill.fill_identity.Goals.{Start, After-line}

begun : (M : Matrix) (w₀ : List ℤ) → Invariant M w₀ w₀ 0
begun M w₀ = record {
  below = omega arith;
  so_far = record {
    same_length = refl;
    on = record { at = λ a b k l. sym (up_to-from 0 identity (contents M w₀) a b (omega arith)) };
    off = λ k o. refl;
  };
}

module _ {M : Matrix} {w₀ w : List ℤ} {i : ℕ} (inv : Invariant M w₀ w i) where
  more : (zero : Eq M.lines M.width (contents M w₀) null) (place : ℕ) → Place M (length w₀) i i place → Invariant M w₀ (set w place (pos 1)) (i + 1)
  unfolding null
  more zero place e = record {
    below = omega (arith, e.line);
    so_far = matrix-set (entry_set e w (pos 1) inv.so_far.same_length) (up_to (i + 1) identity (contents M w₀))
        (up_to-below (i + 1) identity (contents M w₀) i i (omega arith) ∙ identity-at i)
        inv.so_far
        (λ a b k l o. pick a b k l o (ℕ_discrete a i) (dec_lt a i));
  }
    where
      pick : (a b : ℕ) → a < M.lines → b < M.width → (a ≢ i) ⊎ (b ≢ i) → Dec (a ≡ i) → Dec (a < i)
          → up_to (i + 1) identity (contents M w₀) a b ≡ up_to i identity (contents M w₀) a b
      pick a b k l o (no d) (yes m) =
          up_to-below (i + 1) identity (contents M w₀) a b (omega arith) ∙ sym (up_to-below i identity (contents M w₀) a b m)
      pick a b k l o (no d) (no m) =
          up_to-from (i + 1) identity (contents M w₀) a b (omega arith) ∙ sym (up_to-from i identity (contents M w₀) a b (omega arith))
      pick a b k l (inl d) (yes q) m = absurd (d q)
      pick a b k l (inr d) (yes q) m =
          up_to-below (i + 1) identity (contents M w₀) a b (omega arith)
          ∙ identity-other a b (λ h. d (omega arith))
          ∙ sym (up_to-from i identity (contents M w₀) a b (omega arith) ∙ zero.at a b k l)

  ended : M.lines ≤ i → MatrixFilled M w₀ identity w
  ended done = record {
    same_length = inv.so_far.same_length;
    on = record { at = λ a b k l. inv.so_far.on.at a b k l ∙ up_to-below i identity (contents M w₀) a b (omega arith) };
    off = inv.so_far.off;
  }

entry_place : (c : After-line) →
    let args = c.args in
    Place args.m (length args.w.now) c.loop-i.i c.loop-i.i (c.line.result + c.loop-i.i)
entry_place c =
    let start = (goal.at.After-line c).Start in
    record {
      held = start.requires.0;
      line = c.loop-i-test.true;
      column = omega (arith, c.loop-i-test.true, start.requires.1);
      is = omega (arith, c.line.ensures);
    }

pub loop-i-preserved : goal.loop-i-preserved
loop-i-preserved c =
    more c.loop-i.invariant c.requires.2 (c.line.result + c.loop-i.i) (entry_place c)

pub returns : goal.returns
returns c = ended c.loop-i.invariant c.loop-i-test.false
