-- Scans that look for an entry. `any` is what a scan of a row or a column answers (`any-range`, `column_keeps-any`, `row_keeps-any`,
-- `row_indivisible-any`), and `first_indivisible` the scan of step e (`first_row`): each with what a place that passes, one that
-- does not, and the end make of it. `first_indivisible-one`: a pivot of 1 divides all.
use mathlib.Core.Path.{◌≡◌, refl, sym, ap, subst, ◌∙◌}
use mathlib.Core.List.{List}
use native.Mathlib.Decide.{dec_lt, ℕ_discrete}
use mathlib.Core.Bool.{Bool, true, false, not, ◌||◌}
use Prim.Native.Nat.{ℕ, zero, suc, ◌+◌, ◌-◌, ◌<◌, ◌≤◌}
use native.Mathlib.Nat as NatL
use native.Mathlib.Omega.{arith}
use native.Mathlib.Numerals.{add-one}
use borrow.Author.Tests.{ne_eqb, lt-ltb, le-ltb}
use lib.Dec.{eqb, ltb}
use lib.IntN.{ℤ, pos, nat_abs}
use lib.Signed.{◌<ℤ◌, rem_z}
use mir.Syntax.{w64}
use mir.Val.{SFits, of_z}
use mir.Facts.{to_z-of_z}
use Rattle.std.specs.Prelude.{Option, None, Some, MatchOption}
use Rattle.std.specs.List.{range_with_len, list_any}
use Rattle.integers.proofs.Order.{nat_abs-zero}
use Rattle.integers.specs.Division.{divides}
use Rattle.integers.proofs.Truncate.{nat_abs-rem_z}
use Rattle.matrices.specs.Matrix.{Matrix}
use Rattle.integers.specs.Slot.{slot}
use Rattle.matrix_lines.specs.Slice.{line_at, FirstNonzero}
use Rattle.matrix_lines.specs.Matrices.{contents}
use Rattle.matrix_lines.specs.declared.matrix.Matrix as lines
use Rattle.machine_words.specs.Read.{read}
use Rattle.machine_words.proofs.Division.{remainder-zero, zero-remainder}
use Rattle.scans.specs.Scan.{ColumnReduced, indivisible_row}
use Rattle.reduction_steps.specs.Step.{column_keeps, row_keeps, row_indivisible, no_row, row, first_indivisible}

-- ---- whether one of some places passes a test

pub any : (ℕ → Bool) → ℕ → ℕ → Bool
any f zero i = false
any f (suc more) i = f i || any f more (suc i)

-- one place of a range from i to n, and the rest
left-more : {n i : ℕ} → i < n → n - i ≡ suc (n - (i + 1))
left-more l = omega arith

none_left : {n i : ℕ} → n ≤ i → n - i ≡ 0
none_left l = omega arith

module _ (f : ℕ → Bool) {n i : ℕ} where
  pub any_found : i < n → f i ≡ true → any f (n - i) i ≡ true
  unfolding any
  any_found l e = rw (left-more l, e)

  pub any_next : i < n → f i ≡ false → any f (n - i) i ≡ any f (n - (i + 1)) (i + 1)
  unfolding any
  any_next l e = ap (λ (m : ℕ). any f m i) (left-more l) ∙ rw e (ap (any f (n - (i + 1))) (sym (add-one i)))

  pub any-end : n ≤ i → any f (n - i) i ≡ false
  unfolding any
  any-end l = rw (none_left l)

-- as the test of a list of places
pub any-range : (f : ℕ → Bool) (more i : ℕ) → list_any f (range_with_len i more) ≡ any f more i
unfolding any
any-range f zero i = refl
any-range f (suc more) i = rw (add-one i) (ap (λ (b : Bool). f i || b) (any-range f more (suc i)))

-- a scan of the places from s on, of n, has come to place i and found none that passes
pub record Looking (f : ℕ → Bool) (s n i : ℕ) : Type 0 where
  pub below : i ≤ n
  pub rest : any f (n - s) s ≡ any f (n - i) i

pub looking-starts : (f : ℕ → Bool) {s n : ℕ} → s ≤ n → Looking f s n s
looking-starts f l = record { below = l; rest = refl }

-- a scan that starts at k + 1
pub looking-after : (f : ℕ → Bool) {k n : ℕ} → k < n → Looking f (suc k) n (k + 1)
looking-after f {k} {n} l = rw (add-one k) (looking-starts f l)

module _ {f : ℕ → Bool} {s n i : ℕ} (h : Looking f s n i) where
  pub looking-found : i < n → f i ≡ true → any f (n - s) s ≡ true
  looking-found l e = h.rest ∙ any_found f l e

  pub looking-next : i < n → f i ≡ false → Looking f s n (i + 1)
  looking-next l e = record { below = omega arith; rest = h.rest ∙ any_next f l e }

  pub looking-ends : n ≤ i → any f (n - s) s ≡ false
  looking-ends l = h.rest ∙ any-end f l

-- places that do not pass
pub looking-none : {f : ℕ → Bool} {s n i : ℕ} → Looking f s n i → (t : ℕ) → i + t ≤ n → ((x : ℕ) → x < t → f (i + x) ≡ false) → Looking f s n (i + t)
looking-none {f} {s} {n} {i} h zero l none = subst (λ (x : ℕ). Looking f s n x) (omega arith) h
looking-none {f} {s} {n} {i} h (suc t) l none =
    subst (λ (x : ℕ). Looking f s n x) (omega arith) (looking-next (looking-none h t (omega arith) (λ x m. none x (omega arith))) (omega arith) (none t (omega arith)))

-- ---- the scans of steps c, d and e

abbrev pub nonzero : ℤ → Bool
nonzero x = not (eqb (nat_abs x) 0)

abbrev pub indivisible : ℤ → ℤ → Bool
indivisible d x = not (divides d x)

module _ (A : Matrix) where
  pub column_keeps-any : (k more i : ℕ) → column_keeps A k more i ≡ any (λ a. nonzero (A a k)) more i
  unfolding column_keeps any
  column_keeps-any k zero i = refl
  column_keeps-any k (suc more) i = rw (column_keeps-any k more (suc i))

  pub row_keeps-any : (k more j : ℕ) → row_keeps A k more j ≡ any (λ b. nonzero (A k b)) more j
  unfolding row_keeps any
  row_keeps-any k zero j = refl
  row_keeps-any k (suc more) j = rw (row_keeps-any k more (suc j))

  pub row_indivisible-any : (d : ℤ) (i more j : ℕ) → row_indivisible A d i more j ≡ any (λ b. indivisible d (A i b)) more j
  unfolding row_indivisible any
  row_indivisible-any d i zero j = refl
  row_indivisible-any d i (suc more) j = rw (row_indivisible-any d i more (suc j))

-- where the pivot is 1, a reduced column keeps none
pub column_keeps-one : (A : Matrix) {k rows : ℕ} → k < rows → ColumnReduced A k rows → A k k ≡ pos 1 → column_keeps A k (rows - suc k) (suc k) ≡ false
column_keeps-one A {k} {rows} below reduced e =
    column_keeps-any A k (rows - suc k) (suc k)
    ∙ looking-ends
    (looking-none (looking-starts (λ a. nonzero (A a k)) below) (rows - suc k) (omega arith)
    (λ x l. rw (zero-size (suc k + x) (omega arith) (omega arith))))
    (omega arith)
  where
    zero-size : (i : ℕ) → k < i → i < rows → nat_abs (A i k) ≡ 0
    zero-size i a b = omega (arith, reduced.less i a b, ap nat_abs e)

-- a row keeps a nonzero entry after place k exactly where the first one stands before its end
pub row_keeps-first :
    (m : lines.Matrix) (w : List ℤ) (k a r : ℕ) → k < m.width → a ≡ line_at m.at m.width k → FirstNonzero w a (k + 1) m.width r
    → ltb r m.width ≡ row_keeps (contents m w) k (m.width - suc k) (suc k)
row_keeps-first m w k a r below e first = pick (dec_lt r m.width) ∙ sym (row_keeps-any (contents m w) k (m.width - suc k) (suc k))
  where
    test : ℕ → Bool
    test b = nonzero (contents m w k b)

    entry-is : (b : ℕ) → contents m w k b ≡ slot w (a + b)
    entry-is b = ap (λ (x : ℕ). slot w (x + b)) (sym e)

    there : Looking test (suc k) m.width r
    there =
        subst (λ (x : ℕ). Looking test (suc k) m.width x) (omega (arith, first.passed.begins))
        (looking-none (looking-after test below) (r - (k + 1)) (omega (arith, first.passed.begins, first.passed.ends))
        (λ x l. rw (entry-is (k + 1 + x) ∙ first.passed.zeros (k + 1 + x) (omega arith) (omega arith))))

    pick : Dec (r < m.width) → ltb r m.width ≡ any test (m.width - suc k) (suc k)
    pick (yes l) =
        lt-ltb r m.width l
        ∙ sym (looking-found there l (rw (ne_eqb (nat_abs (contents m w k r)) 0 (λ z. first.found l (sym (entry-is r) ∙ nat_abs-zero (contents m w k r) z)))))
    pick (no l) = le-ltb r m.width (omega arith) ∙ sym (looking-ends there (omega arith))

-- the tests as the machine makes them, on the bits of the entry r that was read
module _ (x r : ℤ) (fits : SFits w64 r) (is : r ≡ x) (d : ℤ) (d-fits : SFits w64 d) (p : pos 0 <ℤ d) where
  indivisible-true : (of_z w64 (rem_z (read w64 r) (read w64 d)) ≡ 0 → ⊥) → indivisible d x ≡ true
  unfolding divides
  indivisible-true f =
      rw (← is, ← nat_abs-rem_z r d, ne_eqb (nat_abs (rem_z r d)) 0 (λ e. f (zero-remainder r d fits d-fits p (nat_abs-zero (rem_z r d) e))))

  indivisible-false : of_z w64 (rem_z (read w64 r) (read w64 d)) ≡ 0 → indivisible d x ≡ false
  unfolding divides
  indivisible-false e = rw (← is, ← nat_abs-rem_z r d, remainder-zero r d fits d-fits p e)

-- the test for a remainder, as the machine makes it on the entry r that was read
pub indivisible-told :
    (d : ℤ) → SFits w64 d → pos 0 <ℤ d → {x r : ℤ} {b : Bool} → SFits w64 r → r ≡ x
    → b ≡ not (eqb (of_z w64 (rem_z (read w64 r) (read w64 d))) 0) → b ≡ indivisible d x
indivisible-told d d-fits p {x} {r} fits is e = e ∙ by (ℕ_discrete (of_z w64 (rem_z (read w64 r) (read w64 d))) 0)
  where
    by : Dec (of_z w64 (rem_z (read w64 r) (read w64 d)) ≡ 0) → not (eqb (of_z w64 (rem_z (read w64 r) (read w64 d))) 0) ≡ indivisible d x
    by (yes e) = rw e (sym (indivisible-false x r fits is d d-fits p e))
    by (no f) = rw (ne_eqb (of_z w64 (rem_z (read w64 r) (read w64 d))) 0 f) (sym (indivisible-true x r fits is d d-fits p f))

-- ---- the first row with an entry that is not divisible

module _ (A : Matrix) (d : ℤ) (j across : ℕ) where
  module _ {n i : ℕ} where
    pub first_found : i < n → row_indivisible A d i across j ≡ true → first_indivisible A d j across (n - i) i ≡ row i
    unfolding first_indivisible
    first_found l e = rw (left-more l, e, first_indivisible)

    pub first_next :
        i < n → row_indivisible A d i across j ≡ false
        → first_indivisible A d j across (n - i) i ≡ first_indivisible A d j across (n - (i + 1)) (i + 1)
    unfolding first_indivisible
    first_next l e = ap (λ (m : ℕ). first_indivisible A d j across m i) (left-more l) ∙ rw (e, first_indivisible) (ap (first_indivisible A d j across (n - (i + 1))) (sym (add-one i)))

    pub first-end : n ≤ i → first_indivisible A d j across (n - i) i ≡ no_row
    unfolding first_indivisible
    first-end l = rw (none_left l)

-- a row's answer, asked with the pivot r that was read and the column k + 1
pub row-answer :
    (A : Matrix) (i k width : ℕ) (d r : ℤ) (t : Bool) → SFits w64 r → r ≡ d
    → t ≡ row_indivisible A (read w64 r) i (width - (k + 1)) (k + 1)
    → row_indivisible A d i (width - suc k) (suc k) ≡ t
row-answer A i k width d r t fits is e = rw (← is, ← add-one k, ← (to_z-of_z fits)) (sym e)

-- the scan of the rows from s on, of n, has come to row i and found none
pub record Seeking (A : Matrix) (d : ℤ) (j across s n i : ℕ) : Type 0 where
  pub below : i ≤ n
  pub rest : first_indivisible A d j across (n - s) s ≡ first_indivisible A d j across (n - i) i

module _ {A : Matrix} {d : ℤ} {j across s n i : ℕ} (h : Seeking A d j across s n i) where
  pub seeking-found : i < n → row_indivisible A d i across j ≡ true → first_indivisible A d j across (n - s) s ≡ row i
  seeking-found l e = h.rest ∙ first_found A d j across l e

  pub seeking-next : i < n → row_indivisible A d i across j ≡ false → Seeking A d j across s n (i + 1)
  seeking-next l e = record { below = omega arith; rest = h.rest ∙ first_next A d j across l e }

  pub seeking-ends : n ≤ i → first_indivisible A d j across (n - s) s ≡ no_row
  seeking-ends l = h.rest ∙ first-end A d j across l

-- rows that the scan passes
seeking_none : {A : Matrix} {d : ℤ} {j across s n i : ℕ} → Seeking A d j across s n i → (t : ℕ) → i + t ≤ n
    → ((x : ℕ) → x < t → row_indivisible A d (i + x) across j ≡ false) → Seeking A d j across s n (i + t)
seeking_none {A} {d} {j} {across} {s} {n} {i} h zero l none = subst (λ (x : ℕ). Seeking A d j across s n x) (omega arith) h
seeking_none {A} {d} {j} {across} {s} {n} {i} h (suc t) l none =
    subst (λ (x : ℕ). Seeking A d j across s n x) (omega arith)
    (seeking-next (seeking_none h t (omega arith) (λ x m. none x (omega arith))) (omega arith) (none t (omega arith)))

-- what `find` over the rows below row k answers
pub first_row : (A : Matrix) (d : ℤ) (k across n : ℕ) → k < n → (r : Option ℕ)
    → MatchOption r ((x : ℕ) → k + 1 ≤ x → x < n → row_indivisible A d x across (suc k) ≡ false)
    (λ i. (k + 1 ≤ i) × (i < n) × (row_indivisible A d i across (suc k) ≡ true) × ((x : ℕ) → k + 1 ≤ x → x < i → row_indivisible A d x across (suc k) ≡ false))
    → indivisible_row r ≡ first_indivisible A d (suc k) across (n - suc k) (suc k)
first_row A d k across n l None none =
    let start : Seeking A d (suc k) across (suc k) n (suc k) = record { below = omega arith; rest = refl } in
    sym (seeking-ends (seeking_none start (n - suc k) (omega arith) (λ x m. none (suc k + x) (omega arith) (omega arith))) (omega arith))
first_row A d k across n l (Some i) (after, before, found, none) =
    let start : Seeking A d (suc k) across (suc k) n (suc k) = record { below = omega arith; rest = refl } in
    let e : suc k + (i - suc k) ≡ i = omega arith in
    sym (seeking-found (subst (λ (x : ℕ). Seeking A d (suc k) across (suc k) n x) e
    (seeking_none start (i - suc k) (omega arith) (λ x m. none (suc k + x) (omega arith) (omega arith)))) before found)

module _ (A : Matrix) where
  row_one : (i more j : ℕ) → row_indivisible A (pos 1) i more j ≡ false
  unfolding row_indivisible divides
  row_one i zero j = refl
  row_one i (suc more) j = rw (NatL.mod-one (nat_abs (A i j)), row_one i more (suc j))

  pub first_indivisible-one : (j across more i : ℕ) → first_indivisible A (pos 1) j across more i ≡ no_row
  unfolding first_indivisible
  first_indivisible-one j across zero i = refl
  first_indivisible-one j across (suc more) i = rw (row_one i across j, first_indivisible) (first_indivisible-one j across more (suc i))
