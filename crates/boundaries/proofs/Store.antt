-- One entry of a matrix in a slice is set: `entry_set`. What that leaves of a matrix (`matrix-set`) and of a column that is being filled
-- (`column-set`).
use mathlib.Core.Path.{◌≡◌, sym, ap, ◌∙◌}
use mathlib.Core.Logic.{◌⊎◌, inl, inr, ⊎_elim, ◌≢◌}
use mathlib.Core.List.{List}
use Prim.Native.Nat.{ℕ, ◌+◌, ◌<◌, ◌≤◌}
use native.Mathlib.Omega.{arith}
use native.Mathlib.Decide.{ℕ_discrete, dec_lt}
use lib.ListN.{length, set, length-set}
use lib.IntN.{ℤ}
use Rattle.matrices.specs.Matrix as theory
use Rattle.integers.specs.Slot.{slot}
use Rattle.matrix_lines.specs.Slice.{line_at}
use Rattle.matrix_lines.specs.Slice as slice
use Rattle.matrix_lines.specs.Matrices.{Held, contents, Off}
use Rattle.matrix_lines.specs.declared.matrix.Matrix.{Matrix}
use Rattle.matrix_lines.proofs.Store.{slot-set-same, slot-set-other}
use Rattle.matrix_lines.proofs.Spans.{Span, span-inside, span-off, span-outside}
use Rattle.boundaries.specs.Filled.{MatrixFilled, ColumnFilled}

-- the place of entry i, j of M
pub record Place (M : Matrix) (n i j place : ℕ) : Type 0 where
  pub held : Held n M
  pub line : i < M.lines
  pub column : j < M.width
  pub is : place ≡ line_at M.at M.width i + j

-- w' is w but for entry i, j of M
pub record EntrySet (M : Matrix) (w : List ℤ) (i j : ℕ) (v : ℤ) (w' : List ℤ) : Type 0 where
  pub same_length : length w' ≡ length w
  pub on : contents M w' i j ≡ v
  pub beside : (a b : ℕ) → b < M.width → (a ≢ i) ⊎ (b ≢ j) → contents M w' a b ≡ contents M w a b
  pub off : (k : ℕ) → Off M k → slot w' k ≡ slot w k

module _ {M : Matrix} {n i j place : ℕ} (e : Place M n i j place) where
  span : Span M place i j 1
  span = record { is = e.is; line = e.line; within = omega (arith, e.column) }

  pub place_inside : place + 1 ≤ n
  place_inside = span-inside span e.held

  pub entry_set : (w : List ℤ) (v : ℤ) → length w ≡ n → EntrySet M w i j v (set w place v)
  entry_set w v s = record {
    same_length = length-set w place v;
    on = ap (slot (set w place v)) (sym e.is) ∙ slot-set-same w place v inside;
    beside = λ a b k o. slot-set-other w place v inside (line_at M.at M.width a + b) (apart (span-off span a b k (⊎_elim inl (λ d. inr (other d (dec_lt b j))) o)));
    off = λ k o. slot-set-other w place v inside k (apart (span-outside span k o));
  }
    where
      inside : place < length w
      inside = omega (arith, place_inside)

      apart : {k : ℕ} → slice.Off place 1 k → k ≢ place
      apart o q = ⊎_elim (λ h. omega arith) (λ h. omega arith) o

      other : {b : ℕ} → b ≢ j → Dec (b < j) → slice.Off j 1 b
      other d (yes k) = inl k
      other d (no k) = inr (omega arith)

module _ {M : Matrix} {w₀ w w' : List ℤ} {A : theory.Matrix} {i j : ℕ} {v : ℤ} (e : EntrySet M w i j v w') (B : theory.Matrix)
    (on : B i j ≡ v) where
  pub matrix-set : MatrixFilled M w₀ A w → ((a b : ℕ) → a < M.lines → b < M.width → (a ≢ i) ⊎ (b ≢ j) → B a b ≡ A a b) → MatrixFilled M w₀ B w'
  matrix-set h beside = record {
    same_length = e.same_length ∙ h.same_length;
    on = record { at = λ a b k l. pick a b k l (ℕ_discrete a i) (ℕ_discrete b j) };
    off = λ k o. e.off k o ∙ h.off k o;
  }
    where
      rest : (a b : ℕ) → a < M.lines → b < M.width → (a ≢ i) ⊎ (b ≢ j) → contents M w' a b ≡ B a b
      rest a b k l o = e.beside a b l o ∙ h.on.at a b k l ∙ sym (beside a b k l o)

      pick : (a b : ℕ) → a < M.lines → b < M.width → Dec (a ≡ i) → Dec (b ≡ j) → contents M w' a b ≡ B a b
      pick a b k l (no d) q = rest a b k l (inl d)
      pick a b k l (yes q) (no d) = rest a b k l (inr d)
      pick a b k l (yes q) (yes r) = rw (q, r) (e.on ∙ sym on)

  pub column-set : ColumnFilled M w₀ A j w → ((a : ℕ) → a < M.lines → a ≢ i → B a j ≡ A a j) → j < M.width → ColumnFilled M w₀ B j w'
  column-set h beside l = record {
    same_length = e.same_length ∙ h.same_length;
    on = λ a k. pick a k (ℕ_discrete a i);
    beside = λ a b k m d. e.beside a b m (inr d) ∙ h.beside a b k m d;
    off = λ k o. e.off k o ∙ h.off k o;
  }
    where
      pick : (a : ℕ) → a < M.lines → Dec (a ≡ i) → contents M w' a j ≡ B a j
      pick a k (no d) = e.beside a j l (inl d) ∙ h.on a k ∙ sym (beside a k d)
      pick a k (yes q) = rw q (e.on ∙ sym on)
