-- The largest absolute value that an operation wrote so far, and the peak, which bounds every entry of a slice. Main results: `Raised`: the largest
-- after one more entry, where it is kept (`raised-kept`), where the entry is larger (`raised-to`), as the code finds it by a test (`raised_by`) and as
-- the larger of the two (`raised-max`); `covered_same`, `covered-trans`: what covers the entries that differ.
use mathlib.Core.Path.{◌≡◌, refl, sym, subst, ◌∙◌}
use mathlib.Core.Logic.{◌⊎◌, inl, inr}
use mathlib.Core.List.{List}
use Prim.Native.Nat.{ℕ, ◌≤◌, ◌<◌, max}
use native.Mathlib.Nat as NatL
use native.Mathlib.Omega.{arith}
use native.Mathlib.Decide.{dec_lt}
use lib.IntN.{ℤ, nat_abs}
use Rattle.integers.specs.Slot.{slot}
use Rattle.matrix_lines.specs.Slice.{entry_limit, Small, Under, Bounded, Covered}

-- ---- the peak

module _ {peak : ℕ} {w : List ℤ} (u : Under peak w) where
  pub under-entry : (i : ℕ) → nat_abs (slot w i) ≤ entry_limit
  under-entry i = NatL.le_trans (u.bound i) u.limit

  pub under-small : Small w
  under-small = record { bound = under-entry }

pub small-under : {w : List ℤ} → Small w → Under entry_limit w
small-under s = record { bound = s.bound; limit = NatL.le_refl entry_limit }

-- the peak after an operation that answers n
pub under-covered : {peak n : ℕ} {w w' : List ℤ} → Under peak w → Covered w w' n → Bounded n w' → Under (max peak n) w'
under-covered {peak} {n} {w} {w'} u c b = record { bound = λ i. pick i (c.entry i); limit = NatL.max-le u.limit b.limit }
  where
    pick : (i : ℕ) → (slot w' i ≡ slot w i) ⊎ (nat_abs (slot w' i) ≤ n) → nat_abs (slot w' i) ≤ max peak n
    pick i (inl e) = subst (λ (z : ℤ). nat_abs z ≤ max peak n) (sym e) (NatL.le_trans (u.bound i) (NatL.le-max_left peak n))
    pick i (inr l) = NatL.le_trans l (NatL.le-max_right peak n)

-- ---- what an operation wrote so far

pub bounded-small : {n : ℕ} {w : List ℤ} → Bounded n w → Small w
bounded-small b = record { bound = b.bound }

-- nothing yet
pub small-bounded : {w : List ℤ} → Small w → Bounded 0 w
small-bounded s = record { bound = s.bound; limit = omega arith }

pub bounded-larger : {n m : ℕ} {w : List ℤ} → Bounded n w → m ≤ entry_limit → Bounded m w
bounded-larger b l = record { bound = b.bound; limit = l }

pub covered_same : {n : ℕ} (w : List ℤ) → Covered w w n
covered_same w = record { entry = λ i. inl refl }

pub covered-trans : {w w₁ w₂ : List ℤ} {x y : ℕ} → Covered w w₁ x → Covered w₁ w₂ y → x ≤ y → Covered w w₂ y
covered-trans {w} {w₁} {w₂} {x} {y} h k l = record { entry = λ i. step i (h.entry i) (k.entry i) }
  where
    step : (i : ℕ) → (slot w₁ i ≡ slot w i) ⊎ (nat_abs (slot w₁ i) ≤ x) → (slot w₂ i ≡ slot w₁ i) ⊎ (nat_abs (slot w₂ i) ≤ y)
        → (slot w₂ i ≡ slot w i) ⊎ (nat_abs (slot w₂ i) ≤ y)
    step i p (inr b) = inr b
    step i (inl e) (inl f) = inl (f ∙ e)
    step i (inr b) (inl f) = inr (subst (λ (z : ℤ). nat_abs z ≤ y) (sym f) (NatL.le_trans b l))

pub max-one : (a b : ℕ) → (max a b ≡ a) ⊎ (max a b ≡ b)
max-one a b = pick (dec_lt a b)
  where
    pick : Dec (a < b) → (max a b ≡ a) ⊎ (max a b ≡ b)
    pick (yes l) = inr (NatL.max-eq_right (NatL.le_of_lt l))
    pick (no l) = inl (NatL.max-eq_left (omega arith))

-- n is the larger one of the largest so far and the absolute value of z, and lies within the limit
pub record Raised (before : ℕ) (z : ℤ) (n : ℕ) : Type 0 where
  pub above : before ≤ n
  pub covers : nat_abs z ≤ n
  pub limit : n ≤ entry_limit
  pub wrote : (n ≡ before) ⊎ (n ≡ nat_abs z)

pub raised-small : {before : ℕ} {z : ℤ} {n : ℕ} → Raised before z n → nat_abs z ≤ entry_limit
raised-small raised = NatL.le_trans raised.covers raised.limit

pub raised-kept : {before : ℕ} {z : ℤ} → nat_abs z ≤ before → before ≤ entry_limit → Raised before z before
raised-kept {before} l h = record { above = NatL.le_refl before; covers = l; limit = h; wrote = inl refl }

pub raised-to : {before : ℕ} {z : ℤ} → before < nat_abs z → nat_abs z ≤ entry_limit → Raised before z (nat_abs z)
raised-to {before} {z} l h = record { above = NatL.le_of_lt l; covers = NatL.le_refl (nat_abs z); limit = h; wrote = inr refl }

-- the same as the code finds it, by a test of the size
pub raised_by :
    {before size n : ℕ} (z : ℤ) → size ≡ nat_abs z → before ≤ entry_limit
    → ((before < size) × (size ≤ entry_limit) × (n ≡ size)) ⊎ ((size ≤ before) × (n ≡ before)) → Raised before z n
raised_by {before} {size} {n} z e h (inl taken) =
    subst (λ (m : ℕ). Raised before z m) (sym (taken.2 ∙ e)) (raised-to (omega (arith, taken.0)) (omega (arith, taken.1)))
raised_by {before} {size} {n} z e h (inr left) = subst (λ (m : ℕ). Raised before z m) (sym left.1) (raised-kept (omega (arith, left.0)) h)

-- the same as the larger of the two
pub raised-max : {before n : ℕ} (z : ℤ) → n ≡ max before (nat_abs z) → before ≤ entry_limit → nat_abs z ≤ entry_limit → Raised before z n
raised-max {before} {n} z e h k = subst (λ (m : ℕ). Raised before z m) (sym e) (pick (dec_lt before (nat_abs z)))
  where
    pick : Dec (before < nat_abs z) → Raised before z (max before (nat_abs z))
    pick (yes l) = subst (λ (m : ℕ). Raised before z m) (sym (NatL.max-eq_right (NatL.le_of_lt l))) (raised-to l k)
    pick (no l) = subst (λ (m : ℕ). Raised before z m) (sym (NatL.max-eq_left (omega arith))) (raised-kept (omega arith) h)
