-- Absolute value and order of the whole numbers.
-- `nat_abs-neg`, `nat_abs_mul`, `nat_abs-add`, `nat_abs-sub`, `nat_abs-zero`; `mul-eq-zero`: no divisors of zero; `mul-cancel`.
-- `Gap`: a ≤ b means b = a + n for a natural n (`gap-of-le`, `le-of-gap`); from it `le_trans`, `le_antisymm`,
-- `add-le-add`, `mul-le-mul`; `lt_iff`: a < b means a + 1 ≤ b.
use mathlib.Core.Path.{◌≡◌, refl, sym, ◌∙◌, ap, subst}
use mathlib.Core.Logic.{◌≢◌, ◌⊎◌, ◌↔◌, inl, inr}
use mathlib.Core.List.{[], ◌∷◌}
use mathlib.Core.Bool.{Bool, true, false, not, cond}
use Prim.Native.Nat.{ℕ, zero, suc, ◌+◌, ◌*◌, ◌-◌, ◌≤◌, ◌<◌, zero-le, suc-le-suc}
use native.Mathlib.Nat as NatL
use native.Mathlib.Omega.{arith}
use lib.Dec.{T, ltb, leb→le, le→leb, ltb→lt, lt→ltb, nltb→le}
use lib.IntN.{ℤ, pos, negsuc, neg_ℤ, nat_abs, sub_ℕ, suc_ℤ, ◌+ℤ◌, ◌-ℤ◌, ◌*ℤ◌, +ℤ_one}
use lib.Signed.{le_z, lt_z, ◌≤ℤ◌, ◌<ℤ◌, ≤ℤ_refl}
use Rattle.integers.proofs.Ring.{add_assoc, zero-add, mul-sub, sub_self, mul-add}
use Rattle.integers.proofs.Solve.{solve, terms}

-- ---- absolute value

pub nat_abs-neg : (a : ℤ) → nat_abs (neg_ℤ a) ≡ nat_abs a
nat_abs-neg (pos zero) = refl
nat_abs-neg (pos (suc n)) = refl
nat_abs-neg (negsuc n) = refl

pub nat_abs_mul : (a b : ℤ) → nat_abs (a *ℤ b) ≡ nat_abs a * nat_abs b
nat_abs_mul (pos a) (pos b) = refl
nat_abs_mul (pos a) (negsuc b) = nat_abs-neg (pos (a * suc b))
nat_abs_mul (negsuc a) (pos b) = nat_abs-neg (pos (suc a * b))
nat_abs_mul (negsuc a) (negsuc b) = refl

-- the two cases of `cond`
pub cond_ind : (c : Bool) (x y : ℤ) (P : ℤ → Type 0) → (T c → P x) → (T (not c) → P y) → P (cond c x y)
cond_ind true x y P f g = f tt
cond_ind false x y P f g = g tt

sub_ℕ-ind : (a b : ℕ) (P : ℤ → Type 0) → (a < b → P (negsuc (b - suc a))) → (b ≤ a → P (pos (a - b))) → P (sub_ℕ a b)
sub_ℕ-ind a b P f g =
    cond_ind (ltb a b) (negsuc (b - suc a)) (pos (a - b)) P (λ t. f (ltb→lt a b t)) (λ t. g (nltb→le a b t))

nat_abs-sub_ℕ : (a b : ℕ) → nat_abs (sub_ℕ a b) ≤ a + b
nat_abs-sub_ℕ a b = sub_ℕ-ind a b (λ (z : ℤ). nat_abs z ≤ a + b) (λ h. omega arith) (λ h. omega arith)

pub nat_abs-add : (a b : ℤ) → nat_abs (a +ℤ b) ≤ nat_abs a + nat_abs b
nat_abs-add (pos a) (pos b) = NatL.le_refl (a + b)
nat_abs-add (pos a) (negsuc b) = nat_abs-sub_ℕ a (suc b)
nat_abs-add (negsuc a) (pos b) = subst (λ (n : ℕ). nat_abs (sub_ℕ b (suc a)) ≤ n) (NatL.add_comm b (suc a)) (nat_abs-sub_ℕ b (suc a))
nat_abs-add (negsuc a) (negsuc b) = omega arith

pub nat_abs-sub : (a b : ℤ) → nat_abs (a -ℤ b) ≤ nat_abs a + nat_abs b
nat_abs-sub a b = subst (λ (n : ℕ). nat_abs (a -ℤ b) ≤ nat_abs a + n) (nat_abs-neg b) (nat_abs-add a (neg_ℤ b))

pub nat_abs-zero : (a : ℤ) → nat_abs a ≡ 0 → a ≡ pos 0
nat_abs-zero (pos n) e = ap pos e
nat_abs-zero (negsuc n) e = absurd (NatL.suc-ne-zero n e)

-- ---- products that are zero, and cancellation

pub mul-eq-zero : (a b : ℤ) → a *ℤ b ≡ pos 0 → (a ≡ pos 0) ⊎ (b ≡ pos 0)
mul-eq-zero a b e = pick (NatL.eq-zero-or-pos (nat_abs a)) (NatL.eq-zero-or-pos (nat_abs b))
  where
    pick : (nat_abs a ≡ 0) ⊎ (0 < nat_abs a) → (nat_abs b ≡ 0) ⊎ (0 < nat_abs b) → (a ≡ pos 0) ⊎ (b ≡ pos 0)
    pick (inl p) q = inl (nat_abs-zero a p)
    pick (inr p) (inl q) = inr (nat_abs-zero b q)
    pick (inr p) (inr q) = absurd (NatL.lt_irrefl 0 (subst (λ (n : ℕ). 0 < n) (sym (nat_abs_mul a b) ∙ ap nat_abs e) (NatL.mul-pos p q)))

add-sub-self : (a b : ℤ) → a ≡ (a -ℤ b) +ℤ b
add-sub-self a b = solve (a ∷ b ∷ []) (search terms depth 16) tt

pub eq-of-sub : (a b : ℤ) → a -ℤ b ≡ pos 0 → a ≡ b
eq-of-sub a b e = add-sub-self a b ∙ ap (λ (x : ℤ). x +ℤ b) e ∙ zero-add b

pub mul-cancel : (a b c : ℤ) → a ≢ pos 0 → a *ℤ b ≡ a *ℤ c → b ≡ c
mul-cancel a b c f e =
    pick (mul-eq-zero a (b -ℤ c) (mul-sub a b c ∙ ap (λ (x : ℤ). x -ℤ a *ℤ c) e ∙ sub_self (a *ℤ c)))
  where
    pick : (a ≡ pos 0) ⊎ (b -ℤ c ≡ pos 0) → b ≡ c
    pick (inl p) = absurd (f p)
    pick (inr p) = eq-of-sub b c p

-- ---- the order by gaps

pub record Gap (a b : ℤ) : Type 0 where
  pub size : ℕ
  pub is : b ≡ a +ℤ pos size

neg-add-add : (x y : ℤ) → y ≡ neg_ℤ x +ℤ (y +ℤ x)
neg-add-add x y = solve (x ∷ y ∷ []) (search terms depth 16) tt

neg-add-right : (x y : ℤ) → neg_ℤ x ≡ neg_ℤ (x +ℤ y) +ℤ y
neg-add-right x y = solve (x ∷ y ∷ []) (search terms depth 16) tt

gap' : (a b : ℤ) → T (le_z a b) → Gap a b
gap' (pos a) (pos b) t = record { size = b - a; is = ap pos (sym (NatL.add-sub_of_le (leb→le a b t))) }
gap' (pos a) (negsuc b) t = absurd t
gap' (negsuc a) (pos b) t = record { size = b + suc a; is = neg-add-add (pos (suc a)) (pos b) }
gap' (negsuc a) (negsuc b) t = record { size = a - b; is = neg-add-right (pos (suc b)) (pos (a - b)) ∙ ap (λ (n : ℕ). neg_ℤ (pos n) +ℤ pos (a - b)) (sum a b (leb→le b a t)) }
  where
    sum : (a b : ℕ) → b ≤ a → suc b + (a - b) ≡ suc a
    sum a b h = omega arith

pub gap-of-le : {a b : ℤ} → a ≤ℤ b → Gap a b
gap-of-le {a} {b} h = gap' a b h.le

le-add' : (a : ℤ) (n : ℕ) → T (le_z a (a +ℤ pos n))
le-add' (pos a) n = le→leb a (a + n) (NatL.le-add_right a n)
le-add' (negsuc a) n =
    sub_ℕ-ind n (suc a) (λ (z : ℤ). T (le_z (negsuc a) z)) (λ h. le→leb (suc a - suc n) a (omega arith)) (λ h. tt)

pub le-add : (a : ℤ) (n : ℕ) → a ≤ℤ (a +ℤ pos n)
le-add a n = record { le = le-add' a n }

pub le-of-gap : {a b : ℤ} → Gap a b → a ≤ℤ b
le-of-gap {a} {b} g = subst (λ (x : ℤ). a ≤ℤ x) (sym g.is) (le-add a g.size)

pub le-pos : {m n : ℕ} → m ≤ n → pos m ≤ℤ pos n
le-pos {m} {n} h = record { le = le→leb m n h }

pub pos-le : {m n : ℕ} → pos m ≤ℤ pos n → m ≤ n
pos-le {m} {n} h = leb→le m n h.le

pub lt-pos : {m n : ℕ} → m < n → pos m <ℤ pos n
lt-pos {m} {n} h = record { lt = lt→ltb m n h }

pub pos-lt : {m n : ℕ} → pos m <ℤ pos n → m < n
pos-lt {m} {n} h = ltb→lt m n h.lt

pub le_refl : (a : ℤ) → a ≤ℤ a
le_refl a = ≤ℤ_refl a

pub le_trans : {a b c : ℤ} → a ≤ℤ b → b ≤ℤ c → a ≤ℤ c
le_trans {a} {b} {c} h k = le-of-gap (record {
  size = m.size + n.size;
  is = n.is ∙ ap (λ (x : ℤ). x +ℤ pos n.size) m.is ∙ add_assoc a (pos m.size) (pos n.size);
})
  where
    m : Gap a b
    m = gap-of-le h

    n : Gap b c
    n = gap-of-le k

antisymm' : (a b : ℤ) → T (le_z a b) → T (le_z b a) → a ≡ b
antisymm' (pos a) (pos b) h k = ap pos (NatL.le_antisymm (leb→le a b h) (leb→le b a k))
antisymm' (pos a) (negsuc b) h k = absurd h
antisymm' (negsuc a) (pos b) h k = absurd k
antisymm' (negsuc a) (negsuc b) h k = ap negsuc (NatL.le_antisymm (leb→le a b k) (leb→le b a h))

pub le_antisymm : {a b : ℤ} → a ≤ℤ b → b ≤ℤ a → a ≡ b
le_antisymm {a} {b} h k = antisymm' a b h.le k.le

pub add-le-add : {a b c d : ℤ} → a ≤ℤ b → c ≤ℤ d → (a +ℤ c) ≤ℤ (b +ℤ d)
add-le-add {a} {b} {c} {d} h k = le-of-gap (record {
  size = m.size + n.size;
  is = ap (λ (x : ℤ). x +ℤ d) m.is ∙ ap (λ (x : ℤ). a +ℤ pos m.size +ℤ x) n.is ∙ add-add a c (pos m.size) (pos n.size);
})
  where
    m : Gap a b
    m = gap-of-le h

    n : Gap c d
    n = gap-of-le k

    add-add : (a c m n : ℤ) → a +ℤ m +ℤ (c +ℤ n) ≡ a +ℤ c +ℤ (m +ℤ n)
    add-add a c m n = solve (a ∷ c ∷ m ∷ n ∷ []) (search terms depth 16) tt

-- a number that is not negative is a natural one
pub nonneg-is : {a : ℤ} → pos 0 ≤ℤ a → a ≡ pos (nat_abs a)
nonneg-is {a = pos n} h = refl
nonneg-is {a = negsuc n} h = absurd h.le

pub mul-le-mul : {a b c : ℤ} → pos 0 ≤ℤ c → a ≤ℤ b → (c *ℤ a) ≤ℤ (c *ℤ b)
mul-le-mul {a} {b} {c} h k = le-of-gap (record {
  size = nat_abs c * m.size;
  is =
      ap (λ (x : ℤ). c *ℤ x) m.is
      ∙ mul-add c a (pos m.size)
      ∙ ap (λ (x : ℤ). c *ℤ a +ℤ x *ℤ pos m.size) (nonneg-is h);
})
  where
    m : Gap a b
    m = gap-of-le k

pub sub-nonneg : {a b : ℤ} → a ≤ℤ b → pos 0 ≤ℤ (b -ℤ a)
sub-nonneg {a} {b} h = subst (λ (x : ℤ). x ≤ℤ (b -ℤ a)) (sub_self a) (add-le-add h (le_refl (neg_ℤ a)))

pub le-of-sub-nonneg : {a b : ℤ} → pos 0 ≤ℤ (b -ℤ a) → a ≤ℤ b
le-of-sub-nonneg {a} {b} h =
    subst (λ (x : ℤ). a ≤ℤ x) (sym (add-sub-self b a))
    (subst (λ (x : ℤ). x ≤ℤ (b -ℤ a +ℤ a)) (zero-add a) (add-le-add h (le_refl a)))

-- ---- the strict order

lt-suc' : (a b : ℤ) → T (lt_z a b) → T (le_z (suc_ℤ a) b)
lt-suc' (pos a) (pos b) t = t
lt-suc' (pos a) (negsuc b) t = absurd t
lt-suc' (negsuc zero) (pos b) t = le→leb 0 b zero-le
lt-suc' (negsuc (suc a)) (pos b) t = tt
lt-suc' (negsuc zero) (negsuc b) t = absurd (NatL.not-suc-le-zero (ltb→lt b 0 t))
lt-suc' (negsuc (suc a)) (negsuc b) t = le→leb b a (NatL.le_of_suc-le-suc (ltb→lt b (suc a) t))

suc-lt' : (a b : ℤ) → T (le_z (suc_ℤ a) b) → T (lt_z a b)
suc-lt' (pos a) (pos b) t = t
suc-lt' (pos a) (negsuc b) t = t
suc-lt' (negsuc zero) (pos b) t = tt
suc-lt' (negsuc (suc a)) (pos b) t = tt
suc-lt' (negsuc zero) (negsuc b) t = absurd t
suc-lt' (negsuc (suc a)) (negsuc b) t = lt→ltb b (suc a) (suc-le-suc (leb→le b a t))

pub lt_iff : (a b : ℤ) → (a <ℤ b) ↔ ((a +ℤ pos 1) ≤ℤ b)
lt_iff a b = (
  (λ h. subst (λ (x : ℤ). x ≤ℤ b) (sym (+ℤ_one a)) (record { le = lt-suc' a b h.lt })),
  (λ h. record { lt = suc-lt' a b (subst (λ (x : ℤ). T (le_z x b)) (+ℤ_one a) h.le) }),
)

pub le_of_lt : {a b : ℤ} → a <ℤ b → a ≤ℤ b
le_of_lt {a} {b} h = le_trans (le-add a 1) ((lt_iff a b).0 h)
