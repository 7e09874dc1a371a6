-- The number of bits that a number needs:
--     bits-zero       0 needs none
--     bits_below      n lies below 2 to that power
--     bits-least      and not below the power before, where n is not 0
--     bits-le         no other power that n lies below is less
--     bits-unique     two bounds on n tell it
--     bits-leading    a word of k bits has it besides its leading zeros
use mathlib.Core.Path.{◌≡◌, refl, ap}
use mathlib.Core.Logic.{◌⊎◌, inl, inr}
use Prim.Native.Nat.{ℕ, zero, suc, ◌+◌, ◌*◌, ◌-◌, ◌/◌, ◌^◌, ◌≤◌, ◌<◌}
use native.Mathlib.Nat.{pow-suc, le_refl, le_antisymm}
use native.Mathlib.Decide.{dec_le}
use native.Mathlib.Omega.{arith}
use lib.Pow.{pow_mono}
use lib.Count.{count_leading_zeros, leading_length}
use Rattle.reports.specs.Report.{halvings, bits_of}

-- ---- halvings

halvings-zero : (most : ℕ) → halvings most 0 ≡ 0
unfolding halvings
halvings-zero zero = refl
halvings-zero (suc most) = refl

halvings-below : (most n : ℕ) → n ≤ most → n < 2 ^ halvings most n
unfolding halvings
halvings-below zero n h = omega arith
halvings-below (suc most) zero h = omega arith
halvings-below (suc most) (suc n) h =
    omega (arith, pow-suc 2 (halvings most (suc n / 2)), halvings-below most (suc n / 2) (omega arith))

one_less : (h : ℕ) → suc h - 1 ≡ h
one_less h = omega arith

-- one bit more doubles the bound
twice : (h m : ℕ) → 2 ^ (h - 1) ≤ m → 2 ^ h ≤ 2 * m
twice zero m l = omega arith
twice (suc h) m l = omega (arith, pow-suc 2 h, ap (λ (x : ℕ). 2 ^ x) (one_less h))

halvings-least : (most n : ℕ) → n ≤ most → (n ≡ 0) ⊎ (2 ^ (halvings most n - 1) ≤ n)
unfolding halvings
halvings-least zero n h = inl (omega arith)
halvings-least (suc most) zero h = inl refl
halvings-least (suc most) (suc n) h = inr (rw (one_less (halvings most (suc n / 2))) (go (halvings-least most (suc n / 2) (omega arith))))
  where
    go : (suc n / 2 ≡ 0) ⊎ (2 ^ (halvings most (suc n / 2) - 1) ≤ suc n / 2) → 2 ^ halvings most (suc n / 2) ≤ suc n
    go (inl e) = omega (arith, ap (λ (m : ℕ). 2 ^ halvings most m) e, ap (λ (h : ℕ). 2 ^ h) (halvings-zero most))
    go (inr l) = omega (arith, twice (halvings most (suc n / 2)) (suc n / 2) l)

-- ---- the bits

pub bits-zero : bits_of 0 ≡ 0
unfolding bits_of halvings
bits-zero = refl

pub bits_below : (n : ℕ) → n < 2 ^ bits_of n
unfolding bits_of
bits_below n = halvings-below n n (le_refl n)

pub bits-least : (n : ℕ) → (n ≡ 0) ⊎ (2 ^ (bits_of n - 1) ≤ n)
unfolding bits_of
bits-least n = halvings-least n n (le_refl n)

-- the same in one form for every n
pub bits-twice : (n : ℕ) → 2 ^ bits_of n ≤ 2 * n + 1
bits-twice n = go (bits-least n)
  where
    go : (n ≡ 0) ⊎ (2 ^ (bits_of n - 1) ≤ n) → 2 ^ bits_of n ≤ 2 * n + 1
    go (inl e) = omega (arith, ap (λ (m : ℕ). 2 ^ bits_of m) e, ap (λ (h : ℕ). 2 ^ h) bits-zero)
    go (inr l) = omega (arith, twice (bits_of n) n l)

-- of two powers, one at most 2 n + 1 and one above n
shorter : (n r s : ℕ) → 2 ^ r ≤ 2 * n + 1 → n < 2 ^ s → r ≤ s
shorter n r s l h = go (dec_le r s)
  where
    go : Dec (r ≤ s) → r ≤ s
    go (yes a) = a
    go (no a) = absurd (omega (arith, pow-suc 2 s, pow_mono {i = suc s} {j = r} (omega arith)))

pub bits-le : (n r : ℕ) → n < 2 ^ r → bits_of n ≤ r
bits-le n r h = shorter n (bits_of n) r (bits-twice n) h

pub bits-unique : (n r : ℕ) → n < 2 ^ r → 2 ^ r ≤ 2 * n + 1 → r ≡ bits_of n
bits-unique n r h l = le_antisymm (shorter n r (bits_of n) l (bits_below n)) (bits-le n r h)

pub bits-leading : (k n : ℕ) → n < 2 ^ k → k - count_leading_zeros k n ≡ bits_of n
bits-leading k n h =
    let t = leading_length k n h in
    omega (arith, t.1, bits-unique n t.0 t.2 t.3)
