-- The laws of the commutative ring of whole numbers, with every argument explicit.
-- Sum: `add_assoc`, `add_comm`, `add_left_comm`, `zero-add`, `add-zero`, `neg-add`, `add-neg`, `neg-neg`, `sub_self`.
-- Product: `mul_assoc`, `mul_comm`, `mul_left_comm`, `one-mul`, `mul-one`, `zero-mul`, `mul-zero`.
-- Both: `mul-add`, `add-mul`, `mul-neg`, `neg-mul`, `mul-sub`, `sub-mul`. Induction by successor and predecessor: `ℤ-induction`.
use mathlib.Core.Path.{◌≡◌, sym, ◌∙◌, ap}
use Prim.Native.Nat.{zero, suc}
use lib.IntN.{ℤ, pos, negsuc, neg_ℤ, suc_ℤ, pred_ℤ, ◌+ℤ◌, ◌-ℤ◌, ◌*ℤ◌, +ℤ_assoc, +ℤ_comm, +ℤ_idl, +ℤ_idr, +ℤ_invr, +ℤ_invl, +ℤ-neg_ℤ_cancel, neg_ℤ-+ℤ, neg_ℤ-neg_ℤ, suc_ℤ-+ℤ, pred_ℤ-+ℤ, *ℤ_comm, zero-*ℤ, *ℤ-zero, suc_ℤ-*ℤ, pred_ℤ-*ℤ}

pub ℤ-induction {ℓ} : (P : ℤ → Type ℓ) → P (pos zero) → ((k : ℤ) → P k → P (suc_ℤ k)) → ((k : ℤ) → P k → P (pred_ℤ k)) → (k : ℤ) → P k
ℤ-induction P z s p (pos zero) = z
ℤ-induction P z s p (pos (suc n)) = s (pos n) (ℤ-induction P z s p (pos n))
ℤ-induction P z s p (negsuc zero) = p (pos zero) z
ℤ-induction P z s p (negsuc (suc n)) = p (negsuc n) (ℤ-induction P z s p (negsuc n))

-- ---- the sum

pub add_assoc : (a b c : ℤ) → a +ℤ b +ℤ c ≡ a +ℤ (b +ℤ c)
add_assoc a b c = +ℤ_assoc a b c

pub add_comm : (a b : ℤ) → a +ℤ b ≡ b +ℤ a
add_comm a b = +ℤ_comm a b

pub add_left_comm : (a b c : ℤ) → a +ℤ (b +ℤ c) ≡ b +ℤ (a +ℤ c)
add_left_comm a b c = sym (add_assoc a b c) ∙ ap (λ (x : ℤ). x +ℤ c) (add_comm a b) ∙ add_assoc b a c

pub add_right_comm : (a b c : ℤ) → a +ℤ b +ℤ c ≡ a +ℤ c +ℤ b
add_right_comm a b c = add_assoc a b c ∙ ap (λ (x : ℤ). a +ℤ x) (add_comm b c) ∙ sym (add_assoc a c b)

pub zero-add : (a : ℤ) → pos 0 +ℤ a ≡ a
zero-add a = +ℤ_idl a

pub add-zero : (a : ℤ) → a +ℤ pos 0 ≡ a
add-zero a = +ℤ_idr a

pub add-neg : (a : ℤ) → a +ℤ neg_ℤ a ≡ pos 0
add-neg a = +ℤ_invr a

pub sub_self : (a : ℤ) → a -ℤ a ≡ pos 0
sub_self a = +ℤ_invr a

pub neg-add : (a b : ℤ) → neg_ℤ (a +ℤ b) ≡ neg_ℤ a +ℤ neg_ℤ b
neg-add a b = neg_ℤ-+ℤ a b

pub neg-neg : (a : ℤ) → neg_ℤ (neg_ℤ a) ≡ a
neg-neg a = neg_ℤ-neg_ℤ a

-- a summand that makes the sum zero is the negation of the other
pub neg-of-add : (a b : ℤ) → a +ℤ b ≡ pos 0 → a ≡ neg_ℤ b
neg-of-add a b e = sym (+ℤ-neg_ℤ_cancel a b) ∙ ap (λ (x : ℤ). x -ℤ b) e ∙ zero-add (neg_ℤ b)

-- ---- the product

pub mul_comm : (a b : ℤ) → a *ℤ b ≡ b *ℤ a
mul_comm a b = *ℤ_comm a b

pub zero-mul : (a : ℤ) → pos 0 *ℤ a ≡ pos 0
zero-mul a = zero-*ℤ a

pub mul-zero : (a : ℤ) → a *ℤ pos 0 ≡ pos 0
mul-zero a = *ℤ-zero a

pub one-mul : (a : ℤ) → pos 1 *ℤ a ≡ a
one-mul a = suc_ℤ-*ℤ (pos 0) a ∙ ap (λ (x : ℤ). x +ℤ a) (zero-mul a) ∙ zero-add a

pub mul-one : (a : ℤ) → a *ℤ pos 1 ≡ a
mul-one a = mul_comm a (pos 1) ∙ one-mul a

pub add-mul : (a b c : ℤ) → (a +ℤ b) *ℤ c ≡ a *ℤ c +ℤ b *ℤ c
add-mul a b c = ℤ-induction (λ (k : ℤ). (k +ℤ b) *ℤ c ≡ k *ℤ c +ℤ b *ℤ c) base up down a
  where
    base : (pos 0 +ℤ b) *ℤ c ≡ pos 0 *ℤ c +ℤ b *ℤ c
    base = ap (λ (x : ℤ). x *ℤ c) (zero-add b) ∙ sym (zero-add (b *ℤ c)) ∙ ap (λ (x : ℤ). x +ℤ b *ℤ c) (sym (zero-mul c))

    up : (k : ℤ) → (k +ℤ b) *ℤ c ≡ k *ℤ c +ℤ b *ℤ c → (suc_ℤ k +ℤ b) *ℤ c ≡ suc_ℤ k *ℤ c +ℤ b *ℤ c
    up k e =
        ap (λ (x : ℤ). x *ℤ c) (suc_ℤ-+ℤ k b)
        ∙ suc_ℤ-*ℤ (k +ℤ b) c
        ∙ ap (λ (x : ℤ). x +ℤ c) e
        ∙ add_right_comm (k *ℤ c) (b *ℤ c) c
        ∙ ap (λ (x : ℤ). x +ℤ b *ℤ c) (sym (suc_ℤ-*ℤ k c))

    down : (k : ℤ) → (k +ℤ b) *ℤ c ≡ k *ℤ c +ℤ b *ℤ c → (pred_ℤ k +ℤ b) *ℤ c ≡ pred_ℤ k *ℤ c +ℤ b *ℤ c
    down k e =
        ap (λ (x : ℤ). x *ℤ c) (pred_ℤ-+ℤ k b)
        ∙ pred_ℤ-*ℤ (k +ℤ b) c
        ∙ ap (λ (x : ℤ). x -ℤ c) e
        ∙ add_right_comm (k *ℤ c) (b *ℤ c) (neg_ℤ c)
        ∙ ap (λ (x : ℤ). x +ℤ b *ℤ c) (sym (pred_ℤ-*ℤ k c))

pub mul-add : (a b c : ℤ) → a *ℤ (b +ℤ c) ≡ a *ℤ b +ℤ a *ℤ c
mul-add a b c =
    mul_comm a (b +ℤ c)
    ∙ add-mul b c a
    ∙ ap (λ (x : ℤ). x +ℤ c *ℤ a) (mul_comm b a)
    ∙ ap (λ (x : ℤ). a *ℤ b +ℤ x) (mul_comm c a)

pub neg-mul : (a b : ℤ) → neg_ℤ a *ℤ b ≡ neg_ℤ (a *ℤ b)
neg-mul a b =
    neg-of-add (neg_ℤ a *ℤ b) (a *ℤ b)
    (sym (add-mul (neg_ℤ a) a b) ∙ ap (λ (x : ℤ). x *ℤ b) (+ℤ_invl a) ∙ zero-mul b)

pub mul-neg : (a b : ℤ) → a *ℤ neg_ℤ b ≡ neg_ℤ (a *ℤ b)
mul-neg a b = mul_comm a (neg_ℤ b) ∙ neg-mul b a ∙ ap neg_ℤ (mul_comm b a)

pub sub-mul : (a b c : ℤ) → (a -ℤ b) *ℤ c ≡ a *ℤ c -ℤ b *ℤ c
sub-mul a b c = add-mul a (neg_ℤ b) c ∙ ap (λ (x : ℤ). a *ℤ c +ℤ x) (neg-mul b c)

pub mul-sub : (a b c : ℤ) → a *ℤ (b -ℤ c) ≡ a *ℤ b -ℤ a *ℤ c
mul-sub a b c = mul-add a b (neg_ℤ c) ∙ ap (λ (x : ℤ). a *ℤ b +ℤ x) (mul-neg a c)

pub mul_assoc : (a b c : ℤ) → a *ℤ b *ℤ c ≡ a *ℤ (b *ℤ c)
mul_assoc a b c = ℤ-induction (λ (k : ℤ). k *ℤ b *ℤ c ≡ k *ℤ (b *ℤ c)) base up down a
  where
    base : pos 0 *ℤ b *ℤ c ≡ pos 0 *ℤ (b *ℤ c)
    base = ap (λ (x : ℤ). x *ℤ c) (zero-mul b) ∙ zero-mul c ∙ sym (zero-mul (b *ℤ c))

    up : (k : ℤ) → k *ℤ b *ℤ c ≡ k *ℤ (b *ℤ c) → suc_ℤ k *ℤ b *ℤ c ≡ suc_ℤ k *ℤ (b *ℤ c)
    up k e =
        ap (λ (x : ℤ). x *ℤ c) (suc_ℤ-*ℤ k b)
        ∙ add-mul (k *ℤ b) b c
        ∙ ap (λ (x : ℤ). x +ℤ b *ℤ c) e
        ∙ sym (suc_ℤ-*ℤ k (b *ℤ c))

    down : (k : ℤ) → k *ℤ b *ℤ c ≡ k *ℤ (b *ℤ c) → pred_ℤ k *ℤ b *ℤ c ≡ pred_ℤ k *ℤ (b *ℤ c)
    down k e =
        ap (λ (x : ℤ). x *ℤ c) (pred_ℤ-*ℤ k b)
        ∙ sub-mul (k *ℤ b) b c
        ∙ ap (λ (x : ℤ). x -ℤ b *ℤ c) e
        ∙ sym (pred_ℤ-*ℤ k (b *ℤ c))

pub mul_left_comm : (a b c : ℤ) → a *ℤ (b *ℤ c) ≡ b *ℤ (a *ℤ c)
mul_left_comm a b c = sym (mul_assoc a b c) ∙ ap (λ (x : ℤ). x *ℤ c) (mul_comm a b) ∙ mul_assoc b a c
