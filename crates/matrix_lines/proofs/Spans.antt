-- Spans of a matrix in a slice: n entries of line i from place j on. Main results: a span lies within the slice (`span-inside`), two
-- spans that share no entry are apart (`spans_apart`), and every other place of the matrix and of the slice is off it.
use mathlib.Core.Path.{◌≡◌, sym, ap, ◌∙◌}
use mathlib.Core.Logic.{◌⊎◌, inl, inr, ⊎_elim, ◌≢◌}
use mathlib.Core.List.{List}
use Prim.Native.Nat.{ℕ, ◌+◌, ◌-◌, ◌<◌, ◌≤◌}
use native.Mathlib.Nat as NatL
use native.Mathlib.Omega.{arith}
use native.Mathlib.Decide.{ℕ_discrete, dec_lt, dec_le}
use lib.IntN.{ℤ}
use Rattle.integers.specs.Slot.{slot}
use Rattle.matrix_lines.specs.Slice.{line_at, Apart, Off}
use Rattle.matrix_lines.specs.Matrices.{Held, contents}
use Rattle.matrix_lines.specs.Matrices as matrices
use Rattle.matrix_lines.specs.declared.matrix.Matrix.{Matrix}

pub record Span (M : Matrix) (start i j n : ℕ) : Type 0 where
  pub is : start ≡ line_at M.at M.width i + j
  pub line : i < M.lines
  pub within : j + n ≤ M.width

-- a line ends where or before a later one begins
pub line_at-later : (start width i k : ℕ) → i < k → line_at start width i + width ≤ line_at start width k
line_at-later start width i k l = omega (arith, NatL.suc-mul i width, NatL.mul-le-mul_right width l)

-- ---- where a span lies

-- a whole line
pub line-span : (M : Matrix) (start i : ℕ) → start ≡ line_at M.at M.width i → i < M.lines → Span M start i 0 M.width
line-span M start i e l = record { is = omega arith; line = l; within = omega arith }

module _ {M : Matrix} {start i j n : ℕ} (s : Span M start i j n) where
  pub span-before-end : start + n ≤ matrices.end M
  span-before-end = omega (arith, s.is, s.within, line_at-later M.at M.width i M.lines s.line)

  pub span-inside : {length : ℕ} → Held length M → start + n ≤ length
  span-inside h = NatL.le_trans span-before-end h.ends

  -- its entries are the matrix's
  pub span-at : (w : List ℤ) (t : ℕ) → slot w (start + t) ≡ contents M w i (j + t)
  span-at w t = ap (slot w) (omega (arith, s.is))

  -- a place outside the matrix
  pub span-outside : (p : ℕ) → matrices.Off M p → Off start n p
  span-outside p = ⊎_elim (λ l. inl (omega (arith, s.is))) (λ l. inr (NatL.le_trans span-before-end l))

  -- another entry of the matrix
  pub span-off : (a b : ℕ) → b < M.width → (a ≢ i) ⊎ Off j n b → Off start n (line_at M.at M.width a + b)
  span-off a b l = ⊎_elim (λ d. other-line d (dec_lt a i)) (λ o. pick o (ℕ_discrete a i))
    where
      other-line : a ≢ i → Dec (a < i) → Off start n (line_at M.at M.width a + b)
      other-line d (yes h) = inl (omega (arith, s.is, line_at-later M.at M.width a i h))
      other-line d (no h) = inr (omega (arith, s.is, s.within, line_at-later M.at M.width i a (omega arith)))

      pick : Off j n b → Dec (a ≡ i) → Off start n (line_at M.at M.width a + b)
      pick o (yes e) = rw e (⊎_elim (λ h. inl (omega (arith, s.is))) (λ h. inr (omega (arith, s.is))) o)
      pick o (no d) = other-line d (dec_lt a i)

pub spans_apart : {M : Matrix} {first second i j k l n : ℕ} → Span M first i j n → Span M second k l n → (i ≢ k) ⊎ Apart j l n → Apart first second n
spans_apart {M} {first} {second} {i} {j} {k} {l} {n} s u = ⊎_elim (λ d. other-line d (dec_lt i k)) (λ o. pick o (ℕ_discrete i k))
  where
    other-line : i ≢ k → Dec (i < k) → Apart first second n
    other-line d (yes h) = inl (omega (arith, s.is, s.within, u.is, line_at-later M.at M.width i k h))
    other-line d (no h) = inr (omega (arith, s.is, u.is, u.within, line_at-later M.at M.width k i (omega arith)))

    pick : Apart j l n → Dec (i ≡ k) → Apart first second n
    pick o (yes e) =
        let same = ap (λ (x : ℕ). line_at M.at M.width x) e in
        ⊎_elim (λ h. inl (omega (arith, s.is, u.is, same))) (λ h. inr (omega (arith, s.is, u.is, same))) o
    pick o (no d) = other-line d (dec_lt i k)

-- two spans are one or apart, where their places within a line are
pub spans-one-or-apart : {M : Matrix} {first second i j k l n : ℕ} → Span M first i j n → Span M second k l n → (j ≡ l) ⊎ Apart j l n
    → (first ≡ second) ⊎ Apart first second n
spans-one-or-apart {M} {first} {second} {i} {j} {k} {l} {n} s u = ⊎_elim (λ e. pick e (ℕ_discrete i k)) (λ o. inr (spans_apart s u (inr o)))
  where
    pick : j ≡ l → Dec (i ≡ k) → (first ≡ second) ⊎ Apart first second n
    pick e (yes f) = inl (s.is ∙ ap (λ (x : ℕ). line_at M.at M.width x + j) f ∙ ap (λ (x : ℕ). line_at M.at M.width k + x) e ∙ sym u.is)
    pick e (no d) = inr (spans_apart s u (inl d))

pub apart-one : (j l : ℕ) → j ≢ l → Apart j l 1
apart-one j l d = pick (dec_lt j l)
  where
    pick : Dec (j < l) → Apart j l 1
    pick (yes h) = inl (omega arith)
    pick (no h) = inr (omega arith)

pub one-or-apart : (j l : ℕ) → (j ≡ l) ⊎ Apart j l 1
one-or-apart j l = pick (ℕ_discrete j l)
  where
    pick : Dec (j ≡ l) → (j ≡ l) ⊎ Apart j l 1
    pick (yes e) = inl e
    pick (no d) = inr (apart-one j l d)

-- ---- on a span or off it

pub record On (i j n a b : ℕ) : Type 0 where
  pub line : a ≡ i
  pub place : ℕ
  pub below : place < n
  pub is : b ≡ j + place

pub on-or-off : (i j n a b : ℕ) → On i j n a b ⊎ ((a ≢ i) ⊎ Off j n b)
on-or-off i j n a b = pick (ℕ_discrete a i) (dec_le j b) (dec_lt b (j + n))
  where
    pick : Dec (a ≡ i) → Dec (j ≤ b) → Dec (b < j + n) → On i j n a b ⊎ ((a ≢ i) ⊎ Off j n b)
    pick (no d) f g = inr (inl d)
    pick (yes e) (no f) g = inr (inr (inl (omega arith)))
    pick (yes e) (yes f) (no g) = inr (inr (inr (omega arith)))
    pick (yes e) (yes f) (yes g) = inl (record { line = e; place = b - j; below = omega arith; is = omega arith })

pub off-line : (width i a b : ℕ) → b < width → (a ≢ i) ⊎ Off 0 width b → a ≢ i
off-line width i a b l = ⊎_elim (λ d. d) (⊎_elim (λ h. λ e. omega arith) (λ h. λ e. omega arith))
