-- The order of trial, for any list of checks.
--     first-zero      where no check has the number 0: 0 is told exactly when no check tells a fault
--     first_absent    a number that no check has is not told
--     first-append    of two lists, the first decides if it tells a fault, else the second; absent-append: a number that neither has
use mathlib.Core.Path.{◌≡◌, refl, sym, ◌∙◌, ap}
use mathlib.Core.Logic.{◌↔◌, ◌≢◌}
use mathlib.Core.Bool.{Bool, true, false, cond, false≢true}
use mathlib.Core.List.{List, [], ◌∷◌, ◌++◌}
use Prim.Native.Nat.{ℕ, zero, suc}
use native.Mathlib.Nat.{suc-ne-zero}
use lib.Dec.{eqb}
use borrow.Author.Tests.{eq-eqb}
use Rattle.trials.specs.Trial.{first_refusal}

-- no check tells a fault
abbrev pub NoFault : List (ℕ × Bool) → Type 0
NoFault [] = Unit {0}
NoFault (check ∷ later) = (check.1 ≡ false) × NoFault later

-- no check has the number k
abbrev pub absent : ℕ → List (ℕ × Bool) → Bool
absent k [] = true
absent k (check ∷ later) = cond (eqb check.0 k) false (absent k later)

absent-later : (same later : Bool) → cond same false later ≡ true → later ≡ true
absent-later true later a = absurd (false≢true a)
absent-later false later a = a

-- a number that no check has is told only as the 0 for none
first-only : (k : ℕ) (l : List (ℕ × Bool)) → absent k l ≡ true → first_refusal l ≡ k → NoFault l × (k ≡ 0)
first-only k [] a e = (tt, sym e)
first-only k ((n, true) ∷ l) a e = absurd (false≢true (sym (ap (λ (same : Bool). cond same false (absent k l)) (eq-eqb n k e)) ∙ a))
first-only k ((n, false) ∷ l) a e = let r = first-only k l (absent-later (eqb n k) (absent k l) a) e in ((refl, r.0), r.1)

first-none : (l : List (ℕ × Bool)) → NoFault l → first_refusal l ≡ 0
first-none [] h = refl
first-none (check ∷ l) h = rw h.0 (first-none l h.1)

pub first-zero : (l : List (ℕ × Bool)) → absent 0 l ≡ true → (first_refusal l ≡ 0) ↔ NoFault l
first-zero l a = (λ e. (first-only 0 l a e).0, first-none l)

pub first_absent : (k : ℕ) (l : List (ℕ × Bool)) → k ≢ 0 → absent k l ≡ true → first_refusal l ≢ k
first_absent k l d a e = d (first-only k l a e).1

-- ---- one list after another

pub absent-append : (k : ℕ) (l m : List (ℕ × Bool)) → absent k l ≡ true → absent k m ≡ true → absent k (l ++ m) ≡ true
absent-append k [] m a b = b
absent-append k ((n, fault) ∷ l) m a b = go (eqb n k) a (λ c. absent-append k l m c b)
  where
    go : (same : Bool) → cond same false (absent k l) ≡ true → (absent k l ≡ true → absent k (l ++ m) ≡ true) → cond same false (absent k (l ++ m)) ≡ true
    go true a later = a
    go false a later = later a

-- the first number unless it is 0, else the second
abbrev pub or_else : ℕ → ℕ → ℕ
or_else zero later = later
or_else (suc n) later = suc n

pub first-append : (l m : List (ℕ × Bool)) → absent 0 l ≡ true → first_refusal (l ++ m) ≡ or_else (first_refusal l) (first_refusal m)
first-append [] m a = refl
first-append ((zero, true) ∷ l) m a = absurd (false≢true a)
first-append ((suc n, true) ∷ l) m a = refl
first-append ((n, false) ∷ l) m a = first-append l m (absent-later (eqb n 0) (absent 0 l) a)

module _ (l m : List (ℕ × Bool)) (a : absent 0 l ≡ true) where
  pub first-append-told : first_refusal l ≢ 0 → first_refusal (l ++ m) ≡ first_refusal l
  first-append-told d = first-append l m a ∙ go (first_refusal l) d
    where
      go : (k : ℕ) → k ≢ 0 → or_else k (first_refusal m) ≡ k
      go zero d = absurd (d refl)
      go (suc k) d = refl

  pub first-append-passed : first_refusal l ≡ 0 → first_refusal (l ++ m) ≡ first_refusal m
  first-append-passed e = first-append l m a ∙ ap (λ (k : ℕ). or_else k (first_refusal m)) e

  -- a number that no check of the first list has is told by the second
  pub first-append-absent : (k : ℕ) → absent k l ≡ true → first_refusal (l ++ m) ≡ k → (first_refusal l ≡ 0) × (first_refusal m ≡ k)
  first-append-absent k h e = go (first_refusal l) refl
    where
      go : (j : ℕ) → first_refusal l ≡ j → (first_refusal l ≡ 0) × (first_refusal m ≡ k)
      go zero q = (q, sym (first-append-passed q) ∙ e)
      go (suc j) q = let d : first_refusal l ≢ 0 = λ z. suc-ne-zero j (sym q ∙ z) in absurd (d (first-none l (first-only k l h (sym (first-append-told d) ∙ e)).0))

  pub first-append-zero : (first_refusal (l ++ m) ≡ 0) ↔ ((first_refusal l ≡ 0) × (first_refusal m ≡ 0))
  first-append-zero = (first-append-absent 0 a, λ h. first-append-passed h.0 ∙ h.1)
