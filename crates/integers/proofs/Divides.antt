-- Laws of divisibility.
-- `dvd_refl`, `dvd_trans`, `dvd-add`, `dvd-sub`, `dvd-neg`, `dvd-mul`, `dvd_antisymm`;
-- with 0 and 1: `dvd-zero`, `zero-dvd`, `one-dvd`, `dvd-one`. `dvd-iff-mod`: by the remainder of the absolute values.
-- `divides a b`, the test, with `divides-dvd` and `dvd-divides`.
use mathlib.Core.Path.{◌≡◌, sym, ◌∙◌, ap, subst}
use mathlib.Core.Logic.{◌↔◌}
use Prim.Native.Nat.{ℕ, suc, ◌+◌, ◌*◌, ◌/◌, ◌%◌}
use native.Mathlib.Nat as NatL
use lib.Dec.{T, eqb, eqb→eq, eqb_refl}
use lib.IntN.{ℤ, pos, negsuc, neg_ℤ, nat_abs, ◌+ℤ◌, ◌-ℤ◌, ◌*ℤ◌}
use Rattle.integers.specs.Division.{◌∣ℤ◌, divides}
use Rattle.integers.proofs.Ring.{one-mul, mul-one, zero-mul, mul-zero, mul_assoc, add-mul, neg-mul}
use Rattle.integers.proofs.Order.{nat_abs_mul}

pub dvd_refl : (a : ℤ) → a ∣ℤ a
dvd_refl a = record { quotient = pos 1; is = sym (one-mul a) }

pub dvd_trans : {a b c : ℤ} → a ∣ℤ b → b ∣ℤ c → a ∣ℤ c
dvd_trans {a} {b} {c} h k = record {
  quotient = k.quotient *ℤ h.quotient;
  is = k.is ∙ ap (λ (x : ℤ). k.quotient *ℤ x) h.is ∙ sym (mul_assoc k.quotient h.quotient a);
}

-- ---- sums, differences, multiples

pub dvd-add : {a b c : ℤ} → a ∣ℤ b → a ∣ℤ c → a ∣ℤ (b +ℤ c)
dvd-add {a} {b} {c} h k = record {
  quotient = h.quotient +ℤ k.quotient;
  is = ap (λ (x : ℤ). x +ℤ c) h.is ∙ ap (λ (x : ℤ). h.quotient *ℤ a +ℤ x) k.is ∙ sym (add-mul h.quotient k.quotient a);
}

pub dvd-neg : {a b : ℤ} → a ∣ℤ b → a ∣ℤ neg_ℤ b
dvd-neg {a} {b} h = record { quotient = neg_ℤ h.quotient; is = ap neg_ℤ h.is ∙ sym (neg-mul h.quotient a) }

pub dvd-sub : {a b c : ℤ} → a ∣ℤ b → a ∣ℤ c → a ∣ℤ (b -ℤ c)
dvd-sub h k = dvd-add h (dvd-neg k)

pub dvd-mul : {a b : ℤ} (c : ℤ) → a ∣ℤ b → a ∣ℤ (c *ℤ b)
dvd-mul {a} c h = record { quotient = c *ℤ h.quotient; is = ap (λ (x : ℤ). c *ℤ x) h.is ∙ sym (mul_assoc c h.quotient a) }

-- ---- zero and one

pub dvd-zero : (a : ℤ) → a ∣ℤ pos 0
dvd-zero a = record { quotient = pos 0; is = sym (zero-mul a) }

pub zero-dvd : {b : ℤ} → pos 0 ∣ℤ b → b ≡ pos 0
zero-dvd h = h.is ∙ mul-zero h.quotient

pub one-dvd : (b : ℤ) → pos 1 ∣ℤ b
one-dvd b = record { quotient = b; is = sym (mul-one b) }

-- ---- by absolute values

nat_abs-is : {a b : ℤ} (h : a ∣ℤ b) → nat_abs b ≡ nat_abs h.quotient * nat_abs a
nat_abs-is {a} h = ap nat_abs h.is ∙ nat_abs_mul h.quotient a

dvd-nat_abs : (a : ℤ) → a ∣ℤ pos (nat_abs a)
dvd-nat_abs (pos n) = dvd_refl (pos n)
dvd-nat_abs (negsuc n) = dvd-neg (dvd_refl (negsuc n))

nat_abs-dvd : (a : ℤ) → pos (nat_abs a) ∣ℤ a
nat_abs-dvd (pos n) = dvd_refl (pos n)
nat_abs-dvd (negsuc n) = dvd-neg (dvd_refl (pos (suc n)))

pub dvd-iff-mod : (a b : ℤ) → (a ∣ℤ b) ↔ (nat_abs b % nat_abs a ≡ 0)
dvd-iff-mod a b = (forth, back)
  where
    forth : a ∣ℤ b → nat_abs b % nat_abs a ≡ 0
    forth h = ap (λ (n : ℕ). n % nat_abs a) (nat_abs-is h) ∙ NatL.mul-mod_left (nat_abs h.quotient) (nat_abs a)

    back : nat_abs b % nat_abs a ≡ 0 → a ∣ℤ b
    back e = dvd_trans (dvd-nat_abs a) (dvd_trans (record { quotient = pos (nat_abs b / nat_abs a); is = ap pos split }) (nat_abs-dvd b))
      where
        split : nat_abs b ≡ nat_abs b / nat_abs a * nat_abs a
        split = sym (NatL.div-add-mod' (nat_abs b) (nat_abs a)) ∙ ap (λ (n : ℕ). nat_abs b / nat_abs a * nat_abs a + n) e ∙ NatL.add-zero (nat_abs b / nat_abs a * nat_abs a)

pub dvd_antisymm : {a b : ℤ} → a ∣ℤ b → b ∣ℤ a → nat_abs a ≡ nat_abs b
dvd_antisymm {a} {b} h k = NatL.dvd_antisymm (NatL.dvd_of_mod-eq-zero (nat_abs a) ((dvd-iff-mod a b).0 h)) (NatL.dvd_of_mod-eq-zero (nat_abs b) ((dvd-iff-mod b a).0 k))

pub dvd-one : {a : ℤ} → a ∣ℤ pos 1 → nat_abs a ≡ 1
dvd-one {a} h = dvd_antisymm h (one-dvd a)

-- ---- the test

pub divides-dvd : (a b : ℤ) → T (divides a b) → a ∣ℤ b
unfolding divides
divides-dvd a b t = (dvd-iff-mod a b).1 (eqb→eq (nat_abs b % nat_abs a) 0 t)

pub dvd-divides : (a b : ℤ) → a ∣ℤ b → T (divides a b)
unfolding divides
dvd-divides a b h = subst (λ (n : ℕ). T (eqb n 0)) (sym ((dvd-iff-mod a b).0 h)) (eqb_refl 0)
