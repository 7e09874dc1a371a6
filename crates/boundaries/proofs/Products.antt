-- A matrix Q times a boundary matrix: an entry is a sum over the faces of the column's cell (`product-entry`), which a word holds
-- (`signed-sum-small`). A matrix that stands after another in a slice is kept while that one is written (`contents-kept`).
use mathlib.Core.Path.{◌≡◌, sym, ap, ◌∙◌}
use mathlib.Core.Logic.{inr}
use mathlib.Core.List.{List}
use Prim.Native.Nat.{ℕ, suc, ◌+◌, ◌^◌, ◌≤◌, ◌<◌}
use native.Mathlib.Omega.{arith}
use lib.ListN.{get_or}
use lib.IntN.{ℤ, nat_abs, ◌*ℤ◌}
use Rattle.integers.proofs.Order.{nat_abs_mul}
use Rattle.matrices.specs.Sum.{sum}
use Rattle.matrices.proofs.SumLaws.{nat_abs-sum}
use Rattle.matrices.specs.Matrix.{mul}
use Rattle.matrices.specs.Matrix as theory
use Rattle.complexes.specs.Complex.{Sections, count, Complex}
use Rattle.complexes.specs.Boundary.{sign, boundary}
use Rattle.complexes.proofs.CoefficientLaws.{nat_abs-sign}
use Rattle.sheet_format.specs.Layout.{top}
use Rattle.sheet_format.specs.Check.{sections_of}
use Rattle.integers.specs.Slot.{slot}
use Rattle.matrix_lines.specs.Slice.{entry_limit, line_at, Small}
use Rattle.matrix_lines.specs.Matrices.{contents, end, Off}
use Rattle.matrix_lines.specs.declared.matrix.Matrix.{Matrix}
use Rattle.faces.specs.Face.{AreFaces}
use Rattle.faces.proofs.Sums.{sum-places}

-- the entry at places[t] of a line, times sign t
abbrev pub signed : List ℤ → ℕ → List ℕ → ℕ → ℤ
signed w line places t = slot w (line + get_or places t 0) *ℤ sign t

pub signed-sum-small : (w : List ℤ) (line : ℕ) (places : List ℕ) (n : ℕ) → Small w → n ≤ suc top → nat_abs (sum n (signed w line places)) ≤ 2 ^ 33
signed-sum-small w line places n small few = omega (arith, nat_abs-sum n (signed w line places) entry_limit (λ k l. term k))
  where
    term : (k : ℕ) → nat_abs (signed w line places k) ≤ entry_limit
    term k = rw (nat_abs_mul (slot w (line + get_or places k 0)) (sign k), nat_abs-sign k) (omega (arith, small.bound (line + get_or places k 0)))

-- the matrix q of a slice times the boundary matrix of dimension p + 1 of the cells K
abbrev pub product : Sections → ℕ → Matrix → List ℤ → theory.Matrix
product K p q w = mul q.width (contents q w) (boundary K (suc p))

pub contents-kept : (q m : Matrix) (w w' : List ℤ) → end m ≤ q.at → ((i : ℕ) → Off m i → slot w' i ≡ slot w i)
    → (i k : ℕ) → contents q w' i k ≡ contents q w i k
contents-kept q m w w' l off i k = off (line_at q.at q.width i + k) (inr (omega arith))

pub product-entry : (b : List ℕ) {top limit : ℕ} (complex : Complex top limit (sections_of b)) (p j : ℕ) → j < count (sections_of b) (suc p)
    → (places : List ℕ) → AreFaces b p j places → (n : ℕ) → n ≡ count (sections_of b) p → (Q : theory.Matrix) (i : ℕ)
    → sum (p + 2) (λ t. Q i (get_or places t 0) *ℤ sign t) ≡ mul n Q (boundary (sections_of b) (suc p)) i j
unfolding mul
product-entry b complex p j below places faces n e Q i =
    ap (λ (m : ℕ). sum m (λ t. Q i (get_or places t 0) *ℤ sign t)) two
    ∙ sym (sum-places b complex p j below (λ t. get_or places t 0) faces.face (Q i))
    ∙ ap (λ (m : ℕ). sum m (λ k. Q i k *ℤ boundary (sections_of b) (suc p) k j)) (sym e)
  where
    two : p + 2 ≡ suc (suc p)
    two = omega arith
