-- A matrix that is made column by column: `left_of j A B` has the columns of A to the left of column j, and those of B from there on.
--     columns-none, columns-more, columns-all     before the first column, after one more, after the last
use mathlib.Core.Path.{◌≡◌, refl, sym, ◌∙◌}
use mathlib.Core.Bool.{cond}
use mathlib.Core.List.{List}
use Prim.Native.Nat.{ℕ, ◌+◌, ◌<◌, ◌≤◌}
use native.Mathlib.Omega.{arith}
use native.Mathlib.Decide.{ℕ_discrete, dec_lt}
use lib.Dec.{ltb}
use lib.IntN.{ℤ}
use borrow.Author.Tests.{lt-ltb, le-ltb}
use Rattle.matrices.specs.Matrix as theory
use Rattle.matrix_lines.specs.Matrices.{contents}
use Rattle.matrix_lines.specs.declared.matrix.Matrix.{Matrix}
use Rattle.boundaries.specs.Filled.{MatrixFilled, ColumnFilled}

abbrev pub left_of : ℕ → theory.Matrix → theory.Matrix → theory.Matrix
left_of j A B a b = cond (ltb b j) (A a b) (B a b)

pub left_of-below : (j : ℕ) (A B : theory.Matrix) (a b : ℕ) → b < j → left_of j A B a b ≡ A a b
left_of-below j A B a b l = rw (lt-ltb b j l)

pub left_of-from : (j : ℕ) (A B : theory.Matrix) (a b : ℕ) → j ≤ b → left_of j A B a b ≡ B a b
left_of-from j A B a b l = rw (le-ltb b j l)

pub columns-none : (M : Matrix) (w : List ℤ) (A : theory.Matrix) → MatrixFilled M w (left_of 0 A (contents M w)) w
columns-none M w A = record {
  same_length = refl;
  on = record { at = λ a b k l. sym (left_of-from 0 A (contents M w) a b (omega arith)) };
  off = λ k o. refl;
}

module _ {M : Matrix} {w₀ w : List ℤ} (A C : theory.Matrix) (j : ℕ) (h : MatrixFilled M w₀ (left_of j A C) w) where
  -- column j is as it was
  pub columns-next : (i : ℕ) → i < M.lines → j < M.width → contents M w i j ≡ C i j
  columns-next i k l = h.on.at i j k l ∙ left_of-from j A C i j (omega arith)

  pub columns-more : {w' : List ℤ} {B : theory.Matrix} → ColumnFilled M w B j w' → ((i : ℕ) → i < M.lines → B i j ≡ A i j)
      → MatrixFilled M w₀ (left_of (j + 1) A C) w'
  columns-more {w'} {B} f e = record {
    same_length = f.same_length ∙ h.same_length;
    on = record { at = λ a b k l. pick a b k l (ℕ_discrete b j) (dec_lt b j) };
    off = λ k o. f.off k o ∙ h.off k o;
  }
    where
      pick : (a b : ℕ) → a < M.lines → b < M.width → Dec (b ≡ j) → Dec (b < j) → contents M w' a b ≡ left_of (j + 1) A C a b
      pick a b k l (yes q) s = rw q (f.on a k ∙ e a k ∙ sym (left_of-below (j + 1) A C a j (omega arith)))
      pick a b k l (no d) (yes m) =
          f.beside a b k l d ∙ h.on.at a b k l ∙ left_of-below j A C a b m ∙ sym (left_of-below (j + 1) A C a b (omega arith))
      pick a b k l (no d) (no m) =
          f.beside a b k l d ∙ h.on.at a b k l ∙ left_of-from j A C a b (omega arith) ∙ sym (left_of-from (j + 1) A C a b (omega arith))

  pub columns-all : M.width ≤ j → MatrixFilled M w₀ A w
  columns-all d = record {
    same_length = h.same_length;
    on = record { at = λ a b k l. h.on.at a b k l ∙ left_of-below j A C a b (omega arith) };
    off = h.off;
  }
