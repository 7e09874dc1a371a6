-- Matrices that share no place of the slice. `lines-on`: what a matrix holds after an operation on it; `contents-off`, `lines-off`: an
-- operation on one matrix keeps every other; `contents-apart`: so does every change of that matrix alone.
use mathlib.Core.Path.{◌≡◌, refl, ◌∙◌}
use mathlib.Core.Logic.{inl, inr}
use mathlib.Core.List.{List}
use Prim.Native.Nat.{ℕ, suc, ◌+◌, ◌*◌, ◌<◌, ◌≤◌}
use native.Mathlib.Nat as NatL
use native.Mathlib.Omega.{arith}
use native.Mathlib.Decide.{dec_lt, dec_le}
use lib.IntN.{ℤ}
use Rattle.matrices.specs.Matrix.{Eq}
use Rattle.matrices.specs.Matrix as theory
use Rattle.reduction_steps.specs.Table.{Table, table}
use Rattle.reduction_laws.specs.Tables.{table-ext}
use Rattle.integers.specs.Slot.{slot}
use Rattle.matrix_lines.specs.Slice.{line_at}
use Rattle.matrix_lines.specs.Matrices.{end, contents, Off, Entries, Holds}
use Rattle.matrix_lines.specs.declared.matrix.Matrix.{Matrix}
use Rattle.operations.specs.Laid.{lines_of}

-- place p belongs to the matrix
pub record Inside (M : Matrix) (p : ℕ) : Type 0 where
  pub from : M.at ≤ p
  pub below : p < end M

pub entry-inside : (M : Matrix) (i j : ℕ) → i < M.lines → j < M.width → Inside M (line_at M.at M.width i + j)
entry-inside M i j a b = record { from = omega arith; below = omega (arith, last, NatL.suc-mul i M.width) }
  where
    last : suc i * M.width ≤ M.lines * M.width
    last = NatL.mul-le-mul a (NatL.le_refl M.width)

-- the two matrices share no place
pub record Disjoint (M N : Matrix) : Type 0 where
  pub none : (p : ℕ) → Inside M p → Inside N p → ⊥

pub disjoint-sym : {M N : Matrix} → Disjoint M N → Disjoint N M
disjoint-sym h = record { none = λ p a b. h.none p b a }

-- w' has the matrix as w has
pub record Kept (M : Matrix) (w w' : List ℤ) : Type 0 where
  pub same : Eq M.lines M.width (contents M w') (contents M w)

module _ {M N : Matrix} (apart : Disjoint M N) where
  off : (p : ℕ) → Inside N p → Off M p
  off p here = go (dec_lt p M.at) (dec_le (end M) p)
    where
      go : Dec (p < M.at) → Dec (end M ≤ p) → Off M p
      go (yes a) t = inl a
      go (no a) (yes b) = inr b
      go (no a) (no b) = absurd (apart.none p (record { from = omega arith; below = omega arith }) here)

  pub contents-apart : (w w' : List ℤ) → ((p : ℕ) → Off M p → slot w' p ≡ slot w p) → Kept N w w'
  contents-apart w w' kept =
      record { same = record { at = λ i j a b. kept (line_at N.at N.width i + j) (off (line_at N.at N.width i + j) (entry-inside N i j a b)) } }

  pub contents-off : {w w' : List ℤ} {A : theory.Matrix} {among : Entries} {before x : ℕ} → Holds M w among A before x w' → Kept N w w'
  contents-off {w} {w'} h = contents-apart w w' h.off

  pub lines-off : {w w' : List ℤ} {A : theory.Matrix} {among : Entries} {before x : ℕ} → Holds M w among A before x w' → lines_of N w' ≡ lines_of N w
  unfolding lines_of
  lines-off h = table-ext (contents-off h).same

pub kept_refl : (M : Matrix) (w : List ℤ) → Kept M w w
kept_refl M w = record { same = record { at = λ i j a b. refl } }

pub kept_trans : {M : Matrix} {u v w : List ℤ} → Kept M u v → Kept M v w → Kept M u w
kept_trans h k = record { same = record { at = λ i j a b. k.same.at i j a b ∙ h.same.at i j a b } }

-- the table of a matrix with the lines and the width of M
abbrev pub shaped : Matrix → theory.Matrix → Table
shaped M A = table M.lines M.width A

pub lines-on : {M : Matrix} {w w' : List ℤ} {A : theory.Matrix} {among : Entries} {before x : ℕ} → Holds M w among A before x w' → lines_of M w' ≡ shaped M A
unfolding lines_of
lines-on h = table-ext h.on
