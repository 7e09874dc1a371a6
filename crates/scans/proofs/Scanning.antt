-- The loops of the scan for a pivot. `Along`: a row has been scanned up to place j; `Down`: the rows up to i. Each with what a turn, an entry of
-- absolute value 1 and the loop's end make of it.
use mathlib.Core.Path.{◌≡◌, refl, sym, ap, subst, ◌∙◌}
use mathlib.Core.List.{List}
use Prim.Native.Nat.{ℕ, zero, suc, ◌+◌, ◌-◌, ◌<◌, ◌≤◌}
use native.Mathlib.Omega.{arith}
use native.Mathlib.Numerals.{add-one}
use lib.IntN.{ℤ, pos, nat_abs}
use Rattle.std.specs.Prelude.{Option, Some}
use Rattle.matrices.specs.Matrix.{Matrix}
use Rattle.reduction_steps.specs.Pivot.{Choice, none, place, better, along_row, down_rows}
use Rattle.reduction_steps.proofs.PivotLaws.{along_row-one, down_rows-one}
use Rattle.integers.specs.Slot.{slot}
use Rattle.matrix_lines.specs.Slice.{line_at, FirstNonzero}
use Rattle.matrix_lines.specs.Matrices.{contents}
use Rattle.matrix_lines.specs.declared.matrix.Matrix as lines
use Rattle.scans.proofs.Choosing.{better-zero}
use Rattle.scans.specs.Scan.{choice_of, Sized, IsBest}
use Rattle.scans.specs.declared.pivot.Best.{Best}

-- ---- an entry of absolute value 1

size-one : {A : Matrix} {b : Best} → Sized A b → b.size ≡ 1 → nat_abs (A b.row b.column) ≡ 1
size-one h e = sym h.size ∙ e

-- ---- along a row

-- row i has been scanned from k, of n places, up to place j: the choice is b, and was c before the row
pub record Along (A : Matrix) (i k n : ℕ) (c : Choice) (j : ℕ) (b : Option Best) : Type 0 where
  pub best : IsBest A b
  pub rest : along_row A i (n - k) k c ≡ along_row A i (n - j) j (choice_of b)

pub along-starts : (A : Matrix) (i k n : ℕ) {b : Option Best} → IsBest A b → Along A i k n (choice_of b) k b
along-starts A i k n h = record { best = h; rest = refl }

module _ {A : Matrix} {i k n : ℕ} {c : Choice} {j : ℕ} {b : Option Best} (h : Along A i k n c j b) where
  pub along-ends : n ≤ j → choice_of b ≡ along_row A i (n - k) k c
  unfolding along_row
  along-ends l =
      let e : n - j ≡ 0 = omega arith in
      sym (h.rest ∙ ap (λ (more : ℕ). along_row A i more j (choice_of b)) e)

  module _ {b' : Option Best} (l : j < n) (h' : IsBest A b') (is : choice_of b' ≡ better A (choice_of b) i j) where
    pub along-next : Along A i k n c (j + 1) b'
    unfolding along_row
    along-next = record { best = h'; rest = h.rest ∙ ap (λ (more : ℕ). along_row A i more j (choice_of b)) e ∙ step }
      where
        e : n - j ≡ suc (n - (j + 1))
        e = omega arith

        step : along_row A i (n - (j + 1)) (suc j) (better A (choice_of b) i j) ≡ along_row A i (n - (j + 1)) (j + 1) (choice_of b')
        step = rw (add-one j, is)

    pub along_one : {x : Best} → b' ≡ Some x → x.size ≡ 1 → choice_of b' ≡ along_row A i (n - k) k c
    along_one {x} found e =
        let chosen : choice_of b' ≡ place x.row x.column = ap choice_of found in
        sym (along-next.rest
        ∙ ap (along_row A i (n - (j + 1)) (j + 1)) chosen
        ∙ along_row-one A x.row x.column (size-one (subst (IsBest A) found h') e) i (n - (j + 1)) (j + 1)
        ∙ sym chosen)

-- places that hold 0 change nothing
pub along-zeros :
    {A : Matrix} {i k n : ℕ} {c : Choice} {b : Option Best} {j : ℕ} → Along A i k n c j b → (t : ℕ) → j + t ≤ n → ((s : ℕ) → s < t → A i (j + s) ≡ pos 0)
    → Along A i k n c (j + t) b
along-zeros {A} {i} {k} {n} {c} {b} {j} h zero l zeros = subst (λ (x : ℕ). Along A i k n c x b) (omega arith) h
along-zeros {A} {i} {k} {n} {c} {b} {j} h (suc t) l zeros =
    subst (λ (x : ℕ). Along A i k n c x b) (omega arith)
    (along-next (along-zeros h t (omega arith) (λ s m. zeros s (omega arith))) (omega arith) h.best
    (sym (better-zero A i (j + t) (choice_of b) (ap nat_abs (zeros t (omega arith))))))

-- a row whose first nonzero entry stands at place j is scanned from there
pub along-first :
    (m : lines.Matrix) (w : List ℤ) {i k a j : ℕ} {b : Option Best} → IsBest (contents m w) b → a ≡ line_at m.at m.width i → FirstNonzero w a k m.width j
    → Along (contents m w) i k m.width (choice_of b) j b
along-first m w {i} {k} {a} {j} {b} h e first =
    subst (λ (x : ℕ). Along (contents m w) i k m.width (choice_of b) x b) (omega (arith, first.passed.begins))
    (along-zeros (along-starts (contents m w) i k m.width h) (j - k) (omega (arith, first.passed.begins, first.passed.ends))
    (λ s l. ap (λ (x : ℕ). slot w (x + (k + s))) (sym e) ∙ first.passed.zeros (k + s) (omega arith) (omega arith)))

-- ---- down the rows

-- the rows from k, of n, have been scanned up to row i, each at `across` places from k on: the choice is b
pub record Down (A : Matrix) (k across n i : ℕ) (b : Option Best) : Type 0 where
  pub best : IsBest A b
  pub rest : down_rows A k across (n - k) k none ≡ down_rows A k across (n - i) i (choice_of b)

module _ {A : Matrix} {k across n i : ℕ} {b : Option Best} (h : Down A k across n i b) where
  pub down_ends : n ≤ i → choice_of b ≡ down_rows A k across (n - k) k none
  unfolding down_rows
  down_ends l =
      let e : n - i ≡ 0 = omega arith in
      sym (h.rest ∙ ap (λ (more : ℕ). down_rows A k across more i (choice_of b)) e)

  module _ {b' : Option Best} (l : i < n) (h' : IsBest A b') (is : choice_of b' ≡ along_row A i across k (choice_of b)) where
    pub down-next : Down A k across n (i + 1) b'
    unfolding down_rows
    down-next = record { best = h'; rest = h.rest ∙ ap (λ (more : ℕ). down_rows A k across more i (choice_of b)) e ∙ step }
      where
        e : n - i ≡ suc (n - (i + 1))
        e = omega arith

        step : down_rows A k across (n - (i + 1)) (suc i) (along_row A i across k (choice_of b)) ≡ down_rows A k across (n - (i + 1)) (i + 1) (choice_of b')
        step = rw (add-one i, is)

    pub down-one : {x : Best} → b' ≡ Some x → x.size ≡ 1 → choice_of b' ≡ down_rows A k across (n - k) k none
    down-one {x} found e =
        let chosen : choice_of b' ≡ place x.row x.column = ap choice_of found in
        sym (down-next.rest
        ∙ ap (down_rows A k across (n - (i + 1)) (i + 1)) chosen
        ∙ down_rows-one A x.row x.column (size-one (subst (IsBest A) found h') e) k across (n - (i + 1)) (i + 1)
        ∙ sym chosen)
