-- What the tests of the steps c, d and e find: column_keeps-true, column_keeps-false, row_keeps-true, row_keeps-false;
-- first_indivisible-none and first_indivisible-row. The tests that look for an entry are all `some`.
use Rattle.std.specs.Prelude.{◌≡◌, ◌≢◌, Bool, ◌||◌, T, eqb, ℤ, pos, nat_abs}
use Rattle.std.proofs.Math.Path.{refl, ap, subst}
use Rattle.std.proofs.Common.{sym, ◌∙◌, true≢false, arith, eqb-true}
use Rattle.std.proofs.Math.Bool.{true, false, not}
use Rattle.std.proofs.lemmas.Bool.{false≢true, eqb-false, not-true, not-false}
use Prim.Native.Nat.{ℕ, zero, suc, ◌+◌, ◌≤◌, ◌<◌}
use Rattle.std.proofs.Math.Decide.{ℕ_discrete}
use Rattle.integers.proofs.Order.{nat_abs-zero}
use Rattle.integers.proofs.Divides.{divides-dvd, dvd-divides}
use Rattle.integers.specs.Division.{◌∣ℤ◌, divides}
use Rattle.matrices.specs.Matrix.{Matrix}
use Rattle.reduction_steps.specs.Step.{column_keeps, row_keeps, row_indivisible, first_indivisible, Row, no_row, row}

-- ---- a test at some of the places

-- the test holds at one of `more` places from i on
unfoldable pub some : (ℕ → Bool) → ℕ → ℕ → Bool
some test zero i = false
some test (suc more) i = test i || some test more (suc i)

pub record Found (test : ℕ → Bool) (i end : ℕ) : Type 0 where
  pub place : ℕ
  pub from : i ≤ place
  pub below : place < end
  pub holds : test place ≡ true

pub some-true : (test : ℕ → Bool) (more i : ℕ) → some test more i ≡ true → Found test i (i + more)
unfolding some
some-true test zero i e = absurd (false≢true e)
some-true test (suc more) i e = go (test i) refl e (some-true test more (suc i))
  where
    go : (t : Bool) → test i ≡ t → t || some test more (suc i) ≡ true → (some test more (suc i) ≡ true → Found test (suc i) (suc i + more)) → Found test i (i + suc more)
    go true h e r = record { place = i; from = omega arith; below = omega arith; holds = h }
    go false h e r =
        let f : Found test (suc i) (suc i + more) = r e in
        record { place = f.place; from = omega arith; below = omega arith; holds = f.holds }

pub some-false : (test : ℕ → Bool) (more i : ℕ) → some test more i ≡ false → (a : ℕ) → i ≤ a → a < i + more → test a ≡ false
unfolding some
some-false test zero i e a p q = absurd (omega arith)
some-false test (suc more) i e a p q = go (test i) refl e (ℕ_discrete a i) (λ r l. some-false test more (suc i) r a l (omega arith))
  where
    go :
        (t : Bool) → test i ≡ t → t || some test more (suc i) ≡ false → Dec (a ≡ i)
        → (some test more (suc i) ≡ false → suc i ≤ a → test a ≡ false) → test a ≡ false
    go true h e d r = absurd (true≢false e)
    go false h e (yes d) r = ap test d ∙ h
    go false h e (no d) r = r e (omega arith)

-- ---- nonzero entries

nonzero-test : (x : ℤ) → not (eqb (nat_abs x) 0) ≡ true → x ≢ pos 0
nonzero-test x h e = eqb-false (nat_abs x) 0 (not-true (eqb (nat_abs x) 0) h) (ap nat_abs e)

zero_test : (x : ℤ) → not (eqb (nat_abs x) 0) ≡ false → x ≡ pos 0
zero_test x h = nat_abs-zero x (eqb-true (nat_abs x) 0 (not-false (eqb (nat_abs x) 0) h))

-- a place of a line, from i on and before the end, that is not zero
pub record Nonzero (line : ℕ → ℤ) (i end : ℕ) : Type 0 where
  pub place : ℕ
  pub from : i ≤ place
  pub below : place < end
  pub nonzero : line place ≢ pos 0

keeps-true : (line : ℕ → ℤ) (more i : ℕ) → some (λ a. not (eqb (nat_abs (line a)) 0)) more i ≡ true → Nonzero line i (i + more)
keeps-true line more i e =
    let f = some-true (λ a. not (eqb (nat_abs (line a)) 0)) more i e in
    record { place = f.place; from = f.from; below = f.below; nonzero = nonzero-test (line f.place) f.holds }

keeps-false : (line : ℕ → ℤ) (more i : ℕ) → some (λ a. not (eqb (nat_abs (line a)) 0)) more i ≡ false → (a : ℕ) → i ≤ a → a < i + more → line a ≡ pos 0
keeps-false line more i e a p q = zero_test (line a) (some-false (λ a. not (eqb (nat_abs (line a)) 0)) more i e a p q)

module _ (A : Matrix) (k : ℕ) where
  column_keeps-some : (more i : ℕ) → column_keeps A k more i ≡ some (λ a. not (eqb (nat_abs (A a k)) 0)) more i
  unfolding column_keeps some
  column_keeps-some zero i = refl
  column_keeps-some (suc more) i = ap (λ (t : Bool). not (eqb (nat_abs (A i k)) 0) || t) (column_keeps-some more (suc i))

  row_keeps-some : (more j : ℕ) → row_keeps A k more j ≡ some (λ b. not (eqb (nat_abs (A k b)) 0)) more j
  unfolding row_keeps some
  row_keeps-some zero j = refl
  row_keeps-some (suc more) j = ap (λ (t : Bool). not (eqb (nat_abs (A k j)) 0) || t) (row_keeps-some more (suc j))

  pub column_keeps-true : (more i : ℕ) → column_keeps A k more i ≡ true → Nonzero (λ a. A a k) i (i + more)
  column_keeps-true more i e = keeps-true (λ a. A a k) more i (sym (column_keeps-some more i) ∙ e)

  pub column_keeps-false : (more i : ℕ) → column_keeps A k more i ≡ false → (a : ℕ) → i ≤ a → a < i + more → A a k ≡ pos 0
  column_keeps-false more i e = keeps-false (λ a. A a k) more i (sym (column_keeps-some more i) ∙ e)

  pub row_keeps-true : (more j : ℕ) → row_keeps A k more j ≡ true → Nonzero (λ b. A k b) j (j + more)
  row_keeps-true more j e = keeps-true (λ b. A k b) more j (sym (row_keeps-some more j) ∙ e)

  pub row_keeps-false : (more j : ℕ) → row_keeps A k more j ≡ false → (b : ℕ) → j ≤ b → b < j + more → A k b ≡ pos 0
  row_keeps-false more j e = keeps-false (λ b. A k b) more j (sym (row_keeps-some more j) ∙ e)

-- ---- entries that the pivot does not divide

is-divisible : (p x : ℤ) → not (divides p x) ≡ false → p ∣ℤ x
is-divisible p x h = divides-dvd p x (subst T (sym (not-false (divides p x) h)) tt)

not-divisible : (p x : ℤ) → not (divides p x) ≡ true → ¬ (p ∣ℤ x)
not-divisible p x h d = subst T (not-true (divides p x) h) (dvd-divides p x d)

module _ (A : Matrix) (p : ℤ) where
  row_indivisible-some : (i more j : ℕ) → row_indivisible A p i more j ≡ some (λ b. not (divides p (A i b))) more j
  unfolding row_indivisible some
  row_indivisible-some i zero j = refl
  row_indivisible-some i (suc more) j = ap (λ (t : Bool). not (divides p (A i j)) || t) (row_indivisible-some i more (suc j))

  -- a place of a row, from j on and before the end, that p does not divide
  pub record Indivisible (i j end : ℕ) : Type 0 where
    pub place : ℕ
    pub from : j ≤ place
    pub below : place < end
    pub indivisible : ¬ (p ∣ℤ A i place)

  row_indivisible-true : (i more j : ℕ) → row_indivisible A p i more j ≡ true → Indivisible i j (j + more)
  row_indivisible-true i more j e =
      let f = some-true (λ b. not (divides p (A i b))) more j (sym (row_indivisible-some i more j) ∙ e) in
      record { place = f.place; from = f.from; below = f.below; indivisible = not-divisible p (A i f.place) f.holds }

  row_indivisible-false : (i more j : ℕ) → row_indivisible A p i more j ≡ false → (b : ℕ) → j ≤ b → b < j + more → p ∣ℤ A i b
  row_indivisible-false i more j e b q r =
      is-divisible p (A i b) (some-false (λ b. not (divides p (A i b))) more j (sym (row_indivisible-some i more j) ∙ e) b q r)

  -- row x has an entry that p does not divide
  pub record FirstRow (i end j right x : ℕ) : Type 0 where
    pub from : i ≤ x
    pub below : x < end
    pub here : Indivisible x j right

  abbrev Searched : (j across more i : ℕ) → Row → Type 0
  Searched j across more i no_row = (a b : ℕ) → i ≤ a → a < i + more → j ≤ b → b < j + across → p ∣ℤ A a b
  Searched j across more i (row x) = FirstRow i (i + more) j (j + across) x

  searched : (j across more i : ℕ) → Searched j across more i (first_indivisible A p j across more i)
  unfolding first_indivisible
  searched j across zero i = λ a b q r. absurd (omega arith)
  searched j across (suc more) i = go (row_indivisible A p i across j) refl (first_indivisible A p j across more (suc i)) (searched j across more (suc i))
    where
      go :
          (t : Bool) → row_indivisible A p i across j ≡ t → (x : Row) → Searched j across more (suc i) x
          → Searched j across (suc more) i (elim t [ true ↦ row i | false ↦ x ])
      go true e x h = record { from = omega arith; below = omega arith; here = row_indivisible-true i across j e }
      go false e no_row h = λ a b q r u v. divided a b q r u v (ℕ_discrete a i)
        where
          divided : (a b : ℕ) → i ≤ a → a < i + suc more → j ≤ b → b < j + across → Dec (a ≡ i) → p ∣ℤ A a b
          divided a b q r u v (yes d) = subst (λ (c : ℕ). p ∣ℤ A c b) (sym d) (row_indivisible-false i across j e b u v)
          divided a b q r u v (no d) = h a b (omega arith) (omega arith) u v
      go false e (row x) h = record { from = omega arith; below = omega arith; here = h.here }

  pub first_indivisible-none : (j across more i : ℕ) → first_indivisible A p j across more i ≡ no_row → (a b : ℕ) → i ≤ a → a < i + more → j ≤ b → b < j + across → p ∣ℤ A a b
  first_indivisible-none j across more i e = subst (Searched j across more i) e (searched j across more i)

  pub first_indivisible-row : (j across more i x : ℕ) → first_indivisible A p j across more i ≡ row x → FirstRow i (i + more) j (j + across) x
  first_indivisible-row j across more i x e = subst (Searched j across more i) e (searched j across more i)
