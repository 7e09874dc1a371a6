-- What the pivot rule of release 1 chooses.
-- `release1-first`: a nonzero entry of least absolute value, the lowest row and then the lowest column among those; `release1-unique`: such a place
-- is the one chosen. `release1-none`: none where the block is zero; `release1-cong`: only the block is read. `release1-is-rule`,
-- `pivot_rule-is-rule`: so it is a rule, and the calls' rule is one.
-- `along_row-one`, `down_rows-one`: an entry of absolute value 1 stays chosen, so a scan may stop there.
use mathlib.Core.Bool.{cond, not, ◌&&◌}
use mathlib.Core.Path.{◌≡◌, refl, sym, ◌∙◌, ap, subst, subst₂}
use mathlib.Core.Logic.{◌≢◌}
use Prim.Native.Nat.{ℕ, zero, suc, ◌≤◌, ◌<◌}
use native.Mathlib.Nat as NatL
use native.Mathlib.Omega.{arith}
use lib.Dec.{eqb, ltb, eqb-suc-zero}
use lib.IntN.{ℤ, pos, nat_abs}
use borrow.Author.Tests.{le-ltb}
use Rattle.matrices.specs.Matrix.{Matrix}
use Rattle.reduction_steps.specs.Pivot.{Choice, none, place, better, along_row, down_rows, release1, pivot_rule, Least, IsRule}
use Rattle.reduction_steps.proofs.Scan.{Precedes, precedes-antisymm, Best, Chosen, Block, release1-chosen}

-- ---- what release 1 chooses

-- (i, j) is a least nonzero entry of the block, the lowest row and then the lowest column among those
pub record First (m n k : ℕ) (A : Matrix) (i j : ℕ) : Type 0 where
  pub least : Least m n k A i j
  pub first : (a b : ℕ) → k ≤ a → a < m → k ≤ b → b < n → A a b ≢ pos 0 → nat_abs (A a b) ≡ nat_abs (A i j) → Precedes i j a b

pub first-unique : (m n k : ℕ) (A : Matrix) (i j a b : ℕ) → First m n k A i j → First m n k A a b → place i j ≡ place a b
first-unique m n k A i j a b h l =
    precedes-antisymm i j a b
    (h.first a b p.row_from p.row_below p.column-from p.column-below p.nonzero (sym same))
    (l.first i j q.row_from q.row_below q.column-from q.column-below q.nonzero same)
  where
    p : Least m n k A a b
    p = l.least

    q : Least m n k A i j
    q = h.least

    same : nat_abs (A i j) ≡ nat_abs (A a b)
    same =
        NatL.le_antisymm
        (q.least a b p.row_from p.row_below p.column-from p.column-below p.nonzero)
        (p.least i j q.row_from q.row_below q.column-from q.column-below q.nonzero)

pub release1-first : (m n k : ℕ) (A : Matrix) (i j : ℕ) → release1 m n k A ≡ place i j → First m n k A i j
release1-first m n k A i j e = record { least = best-least; first = λ a b ka am kb bn. best.first a b (in_block a b ka am kb bn) }
  where
    in_block : (a b : ℕ) → k ≤ a → a < m → k ≤ b → b < n → Block m n k a b
    in_block a b ka am kb bn = record { row_from = ka; row_below = am; column-from = kb; column-below = bn }

    best : Best (Block m n k) A i j
    best = subst (λ (c : Choice). Chosen (Block m n k) A c) e (release1-chosen m n k A)

    best-least : Least m n k A i j
    best-least = record {
      row_from = best.here.row_from;
      row_below = best.here.row_below;
      column-from = best.here.column-from;
      column-below = best.here.column-below;
      nonzero = best.nonzero;
      least = λ a b ka am kb bn. best.least a b (in_block a b ka am kb bn);
    }

pub release1-empty : (m n k : ℕ) (A : Matrix) → release1 m n k A ≡ none → (a b : ℕ) → k ≤ a → a < m → k ≤ b → b < n → A a b ≡ pos 0
release1-empty m n k A e a b ka am kb bn =
    let none-chosen : Chosen (Block m n k) A none = subst (λ (c : Choice). Chosen (Block m n k) A c) e (release1-chosen m n k A) in
    none-chosen a b (record { row_from = ka; row_below = am; column-from = kb; column-below = bn })

-- ---- the choice is the only one

pub release1-unique : (m n k : ℕ) (A : Matrix) (i j : ℕ) → First m n k A i j → release1 m n k A ≡ place i j
release1-unique m n k A i j h = pick (release1 m n k A) refl
  where
    p : Least m n k A i j
    p = h.least

    pick : (c : Choice) → release1 m n k A ≡ c → release1 m n k A ≡ place i j
    pick none e = absurd (p.nonzero (release1-empty m n k A e i j p.row_from p.row_below p.column-from p.column-below))
    pick (place a b) e = e ∙ first-unique m n k A a b i j (release1-first m n k A a b e) h

pub release1-none : (m n k : ℕ) (A : Matrix) → ((a b : ℕ) → k ≤ a → a < m → k ≤ b → b < n → A a b ≡ pos 0) → release1 m n k A ≡ none
release1-none m n k A h = pick (release1 m n k A) refl
  where
    pick : (c : Choice) → release1 m n k A ≡ c → release1 m n k A ≡ none
    pick none e = e
    pick (place i j) e =
        let p : Least m n k A i j = (release1-first m n k A i j e).least in
        absurd (p.nonzero (h i j p.row_from p.row_below p.column-from p.column-below))

pub release1-cong :
    (m n k : ℕ) (A B : Matrix) → ((i j : ℕ) → k ≤ i → i < m → k ≤ j → j < n → A i j ≡ B i j)
    → release1 m n k A ≡ release1 m n k B
release1-cong m n k A B agree = pick (release1 m n k A) refl
  where
    first_cong : (i j : ℕ) → First m n k A i j → First m n k B i j
    first_cong i j h = record {
      least = record {
        row_from = p.row_from;
        row_below = p.row_below;
        column-from = p.column-from;
        column-below = p.column-below;
        nonzero = subst (λ (x : ℤ). x ≢ pos 0) here p.nonzero;
        least =
            λ a b ka am kb bn f.
            subst₂ (λ x y. nat_abs x ≤ nat_abs y) here (agree a b ka am kb bn)
            (p.least a b ka am kb bn (nonzero a b ka am kb bn f));
      };
      first = λ a b ka am kb bn f e. h.first a b ka am kb bn (nonzero a b ka am kb bn f) (ap nat_abs (agree a b ka am kb bn) ∙ e ∙ sym (ap nat_abs here));
    }
      where
        p : Least m n k A i j
        p = h.least

        here : A i j ≡ B i j
        here = agree i j p.row_from p.row_below p.column-from p.column-below

        nonzero : (a b : ℕ) → k ≤ a → a < m → k ≤ b → b < n → B a b ≢ pos 0 → A a b ≢ pos 0
        nonzero a b ka am kb bn f z = f (sym (agree a b ka am kb bn) ∙ z)

    pick : (c : Choice) → release1 m n k A ≡ c → release1 m n k A ≡ release1 m n k B
    pick none e =
        e ∙ sym (release1-none m n k B (λ a b ka am kb bn. sym (agree a b ka am kb bn) ∙ release1-empty m n k A e a b ka am kb bn))
    pick (place i j) e = e ∙ sym (release1-unique m n k B i j (first_cong i j (release1-first m n k A i j e)))

pub release1-is-rule : IsRule release1
release1-is-rule = record { chosen = λ m n k A i j e. (release1-first m n k A i j e).least; empty = release1-empty; block = release1-cong }

pub pivot_rule-is-rule : IsRule pivot_rule
pivot_rule-is-rule = release1-is-rule

-- ---- an entry of absolute value 1 stays chosen

module _ (A : Matrix) (a b : ℕ) (one : nat_abs (A a b) ≡ 1) where
  pub better-one : (i j : ℕ) → better A (place a b) i j ≡ place a b
  unfolding better
  better-one i j = pick (nat_abs (A i j)) (nat_abs (A a b)) one
    where
      pick : (x y : ℕ) → y ≡ 1 → cond (not (eqb x 0) && ltb x y) (place i j) (place a b) ≡ place a b
      pick zero y e = refl
      pick (suc x) y e = rw (eqb-suc-zero, le-ltb (suc x) y (omega arith))

  pub along_row-one : (i more j : ℕ) → along_row A i more j (place a b) ≡ place a b
  unfolding along_row
  along_row-one i zero j = refl
  along_row-one i (suc more) j = ap (along_row A i more (suc j)) (better-one i j) ∙ along_row-one i more (suc j)

  pub down_rows-one : (k across more i : ℕ) → down_rows A k across more i (place a b) ≡ place a b
  unfolding down_rows
  down_rows-one k across zero i = refl
  down_rows-one k across (suc more) i = ap (down_rows A k across more (suc i)) (along_row-one i across k) ∙ down_rows-one k across more (suc i)
