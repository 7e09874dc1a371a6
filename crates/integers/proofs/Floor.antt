-- Laws of division rounded towards minus infinity. `Division a d q r`: a = q·d + r with 0 ≤ r < d.
-- For a positive divisor: `mag-floor`, `floor-division`, `nat_abs-modulo`, `floor-unique`, `modulo-unique`, `dvd-iff-modulo`, `modulo-eq-iff`; from 0 on: `dvd-floor`.
-- For every divisor: `modulo-zero`, `floor-zero`, `floor-modulo`, `nat_abs-floor`.
use mathlib.Core.Path.{◌≡◌, refl, sym, ◌∙◌, ap, subst}
use mathlib.Core.Logic.{◌↔◌}
use mathlib.Core.List.{[], ◌∷◌}
use Prim.Native.Nat.{ℕ, zero, suc, ◌+◌, ◌*◌, ◌-◌, ◌/◌, ◌%◌, ◌≤◌, ◌<◌, suc-le-suc, zero-le}
use native.Mathlib.Nat as NatL
use native.Mathlib.Decide.{dec_le}
use native.Mathlib.Omega.{arith}
use lib.IntN.{ℤ, pos, negsuc, neg_ℤ, nat_abs, ◌+ℤ◌, ◌-ℤ◌, ◌*ℤ◌}
use lib.Signed.{◌≤ℤ◌, ◌<ℤ◌, ≤ℤ_refl, mag}
use Rattle.integers.proofs.Ring.{add-zero, zero-mul, mul-zero, mul_comm}
use Rattle.integers.proofs.Solve.{solve, terms}
use Rattle.integers.proofs.Order.{le-pos, lt-pos, pos-lt, nat_abs_mul, nat_abs-zero, eq-of-sub}
use Rattle.integers.proofs.Divides.{zero-dvd}
use Rattle.integers.specs.Division.{floor, modulo, ◌∣ℤ◌}

pub modulo-is : (a d : ℤ) → modulo a d ≡ a -ℤ floor a d *ℤ d
unfolding modulo
modulo-is a d = refl

pub modulo-zero : (a : ℤ) → modulo a (pos 0) ≡ a
modulo-zero a = modulo-is a (pos 0) ∙ ap (λ (t : ℤ). a -ℤ t) (mul-zero (floor a (pos 0))) ∙ add-zero a

pub floor-zero : (d : ℤ) → floor (pos 0) d ≡ pos 0
unfolding floor
floor-zero (pos d) = ap pos (NatL.zero-div d)
floor-zero (negsuc d) = refl

pub floor-one : (x : ℤ) → floor x (pos 1) ≡ x
unfolding floor
floor-one (pos x) = ap pos (NatL.div-one x)
floor-one (negsuc x) = ap negsuc (NatL.div-one x)

pub floor-modulo : (a d : ℤ) → a ≡ floor a d *ℤ d +ℤ modulo a d
unfolding modulo
floor-modulo a d = split a (floor a d) d
  where
    split : (a q d : ℤ) → a ≡ q *ℤ d +ℤ (a -ℤ q *ℤ d)
    split a q d = solve (a ∷ q ∷ d ∷ []) (search terms depth 16) tt

pub nat_abs-floor : (a d : ℤ) → nat_abs (floor a d) ≤ nat_abs a
unfolding floor
nat_abs-floor (pos a) (pos d) = NatL.div-le_self a d
nat_abs-floor (negsuc a) (pos d) = suc-le-suc (NatL.div-le_self a d)
nat_abs-floor (pos zero) (negsuc d) = zero-le
nat_abs-floor (pos (suc a)) (negsuc d) = suc-le-suc (NatL.div-le_self a (suc d))
nat_abs-floor (negsuc a) (negsuc d) = NatL.div-le_self (suc a) (suc d)

-- a positive divisor makes nothing larger
pub mag-floor : (a d : ℤ) → pos 0 <ℤ d → mag (floor a d) ≤ mag a
unfolding floor
mag-floor (pos a) (pos d) p = NatL.div-le_self a d
mag-floor (negsuc a) (pos d) p = NatL.div-le_self a d
mag-floor a (negsuc d) p = absurd p.lt

-- ---- division with remainder by a positive number

pub record Division (a d q r : ℤ) : Type 0 where
  pub is : a ≡ q *ℤ d +ℤ r
  pub low : pos 0 ≤ℤ r
  pub high : r <ℤ d

division-of : (a : ℤ) (n s : ℕ) (q : ℤ) → a ≡ q *ℤ pos n +ℤ pos s → s < n → Division a (pos n) q (pos s)
division-of a n s q e h = record { is = e; low = le-pos zero-le; high = lt-pos h }

-- the remainder that belongs to `floor`
remainder : ℤ → ℕ → ℕ
remainder (pos a) n = a % n
remainder (negsuc a) n = n - suc (a % n)

floor' : (a : ℤ) (n : ℕ) → 0 < n → Division a (pos n) (floor a (pos n)) (pos (remainder a n))
unfolding floor remainder
floor' (pos a) n h = division-of (pos a) n (a % n) (pos (a / n)) (ap pos (sym (NatL.div-add-mod' a n))) (NatL.mod-lt a h)
floor' (negsuc a) n h = division-of (negsuc a) n (n - suc (a % n)) (negsuc (a / n)) split (omega arith)
  where
    regroup : (x s t : ℤ) → neg_ℤ (x +ℤ s) ≡ neg_ℤ (x +ℤ (t +ℤ s)) +ℤ t
    regroup x s t = solve (x ∷ s ∷ t ∷ []) (search terms depth 16) tt

    dividend : suc a ≡ a / n * n + suc (a % n)
    dividend = sym (NatL.add-suc (a / n * n) (a % n) ∙ ap suc (NatL.div-add-mod' a n))

    multiple : a / n * n + (n - suc (a % n) + suc (a % n)) ≡ suc (a / n) * n
    multiple = ap (λ (m : ℕ). a / n * n + m) (NatL.sub-add_cancel (NatL.mod-lt a h)) ∙ sym (NatL.suc-mul (a / n) n)

    split : negsuc a ≡ negsuc (a / n) *ℤ pos n +ℤ pos (n - suc (a % n))
    split =
        ap (λ (m : ℕ). neg_ℤ (pos m)) dividend
        ∙ regroup (pos (a / n * n)) (pos (suc (a % n))) (pos (n - suc (a % n)))
        ∙ ap (λ (m : ℕ). neg_ℤ (pos m) +ℤ pos (n - suc (a % n))) multiple

modulo' : (a : ℤ) (n : ℕ) → 0 < n → modulo a (pos n) ≡ pos (remainder a n)
unfolding modulo
modulo' a n h =
    ap (λ (x : ℤ). x -ℤ floor a (pos n) *ℤ pos n) (floor' a n h).is ∙ add-sub (floor a (pos n) *ℤ pos n) (pos (remainder a n))
  where
    add-sub : (x r : ℤ) → x +ℤ r -ℤ x ≡ r
    add-sub x r = solve (x ∷ r ∷ []) (search terms depth 16) tt

pub floor-division : (a d : ℤ) → pos 0 <ℤ d → Division a d (floor a d) (modulo a d)
floor-division a (pos n) h = subst (λ (r : ℤ). Division a (pos n) (floor a (pos n)) r) (sym (modulo' a n (pos-lt h))) (floor' a n (pos-lt h))
floor-division a (negsuc n) h = absurd h.lt

pub nat_abs-modulo : (a d : ℤ) → pos 0 <ℤ d → nat_abs (modulo a d) < nat_abs d
nat_abs-modulo a d h = below (modulo a d) d (floor-division a d h).low (floor-division a d h).high
  where
    below : (r d : ℤ) → pos 0 ≤ℤ r → r <ℤ d → nat_abs r < nat_abs d
    below (negsuc s) d l k = absurd l.le
    below (pos s) (pos n) l k = pos-lt k
    below (pos s) (negsuc n) l k = absurd k.lt

-- ---- quotient and remainder are unique

-- a multiple of n that is a natural number below n is 0
small-multiple : (x : ℤ) (n k : ℕ) → x *ℤ pos n ≡ pos k → k < n → x ≡ pos 0
small-multiple x n k e h = nat_abs-zero x (pick (nat_abs x) (sym (nat_abs_mul x (pos n)) ∙ ap nat_abs e))
  where
    pick : (m : ℕ) → m * n ≡ k → m ≡ 0
    pick zero p = refl
    pick (suc m) p = omega arith

unique' : (q p d : ℤ) (n s k : ℕ) → d ≡ pos n → q *ℤ d +ℤ pos s ≡ p *ℤ d +ℤ pos (s + k) → s + k < n → q ≡ p
unique' q p d n s k f e h =
    eq-of-sub q p (small-multiple (q -ℤ p) n k (ap (λ (x : ℤ). (q -ℤ p) *ℤ x) (sym f) ∙ quotients q p d (pos s) ∙ ap (λ (x : ℤ). x -ℤ (p *ℤ d +ℤ pos s)) e ∙ remainders (p *ℤ d) (pos s) (pos k)) (omega arith))
  where
    quotients : (q p d s : ℤ) → (q -ℤ p) *ℤ d ≡ q *ℤ d +ℤ s -ℤ (p *ℤ d +ℤ s)
    quotients q p d s = solve (q ∷ p ∷ d ∷ s ∷ []) (search terms depth 16) tt

    remainders : (x s k : ℤ) → x +ℤ (s +ℤ k) -ℤ (x +ℤ s) ≡ k
    remainders x s k = solve (x ∷ s ∷ k ∷ []) (search terms depth 16) tt

same-quotient : (a d q r p t : ℤ) → Division a d q r → Division a d p t → q ≡ p
same-quotient a d q (negsuc s) p t h k = absurd h.low.le
same-quotient a (negsuc n) q (pos s) p t h k = absurd h.high.lt
same-quotient a (pos n) q (pos s) p (negsuc u) h k = absurd k.low.le
same-quotient a (pos n) q (pos s) p (pos u) h k = pick (dec_le s u)
  where
    shown : (v w : ℕ) (x y : ℤ) → Division a (pos n) x (pos v) → Division a (pos n) y (pos w) → v ≤ w → x ≡ y
    shown v w x y f g l =
        unique' x y (pos n) n v (w - v) refl
        (sym f.is ∙ g.is ∙ ap (λ (m : ℕ). y *ℤ pos n +ℤ pos m) (sym (NatL.add-sub_of_le l)))
        (subst (λ (m : ℕ). m < n) (sym (NatL.add-sub_of_le l)) (pos-lt g.high))

    pick : Dec (s ≤ u) → q ≡ p
    pick (yes l) = shown s u q p h k l
    pick (no f) = sym (shown u s p q k h (NatL.le_of_lt (NatL.lt_of_not-le f)))

positive : (a d q r : ℤ) → Division a d q r → pos 0 <ℤ d
positive a d q (negsuc s) h = absurd h.low.le
positive a (negsuc n) q (pos s) h = absurd h.high.lt
positive a (pos n) q (pos s) h = lt-pos (NatL.lt_of_le_of_lt zero-le (pos-lt h.high))

pub floor-unique : {a d q r : ℤ} → Division a d q r → q ≡ floor a d
floor-unique {a} {d} {q} {r} h = same-quotient a d q r (floor a d) (modulo a d) h (floor-division a d (positive a d q r h))

pub modulo-unique : {a d q r : ℤ} → Division a d q r → r ≡ modulo a d
modulo-unique {a} {d} {q} {r} h =
    add-sub (q *ℤ d) r ∙ ap (λ (x : ℤ). x -ℤ q *ℤ d) (sym h.is) ∙ ap (λ (x : ℤ). a -ℤ x *ℤ d) (floor-unique h) ∙ sym (modulo-is a d)
  where
    add-sub : (x r : ℤ) → r ≡ x +ℤ r -ℤ x
    add-sub x r = solve (x ∷ r ∷ []) (search terms depth 16) tt

-- ---- remainders and divisibility

pub dvd-iff-modulo : (a d : ℤ) → pos 0 <ℤ d → (d ∣ℤ a) ↔ (modulo a d ≡ pos 0)
dvd-iff-modulo a d h = (forth, back)
  where
    forth : d ∣ℤ a → modulo a d ≡ pos 0
    forth k = sym (modulo-unique {a = a} {d = d} {q = k.quotient} (record { is = k.is ∙ sym (add-zero (k.quotient *ℤ d)); low = ≤ℤ_refl (pos 0); high = h }))

    back : modulo a d ≡ pos 0 → d ∣ℤ a
    back e = record { quotient = floor a d; is = floor-modulo a d ∙ ap (λ (x : ℤ). floor a d *ℤ d +ℤ x) e ∙ add-zero (floor a d *ℤ d) }

-- the quotient of a multiple is exact
pub dvd-floor : (a d : ℤ) → pos 0 ≤ℤ d → d ∣ℤ a → a ≡ d *ℤ floor a d
dvd-floor a (pos zero) h k = zero-dvd k ∙ sym (zero-mul (floor a (pos 0)))
dvd-floor a (pos (suc n)) h k =
    floor-modulo a (pos (suc n))
    ∙ ap (λ (r : ℤ). floor a (pos (suc n)) *ℤ pos (suc n) +ℤ r) ((dvd-iff-modulo a (pos (suc n)) (lt-pos (omega arith))).0 k)
    ∙ add-zero (floor a (pos (suc n)) *ℤ pos (suc n))
    ∙ mul_comm (floor a (pos (suc n))) (pos (suc n))
dvd-floor a (negsuc n) h k = absurd h.le

pub modulo-eq-iff : (a b d : ℤ) → pos 0 <ℤ d → (modulo a d ≡ modulo b d) ↔ (d ∣ℤ (a -ℤ b))
modulo-eq-iff a b d h = (forth, back)
  where
    forth : modulo a d ≡ modulo b d → d ∣ℤ (a -ℤ b)
    forth e = record {
      quotient = floor a d -ℤ floor b d;
      is =
          ap (λ (x : ℤ). x -ℤ b) (floor-modulo a d)
          ∙ ap (λ (x : ℤ). floor a d *ℤ d +ℤ modulo a d -ℤ x) (floor-modulo b d)
          ∙ ap (λ (x : ℤ). floor a d *ℤ d +ℤ x -ℤ (floor b d *ℤ d +ℤ modulo b d)) e
          ∙ collect (floor a d) (floor b d) d (modulo b d);
    }
      where
        collect : (p q d m : ℤ) → p *ℤ d +ℤ m -ℤ (q *ℤ d +ℤ m) ≡ (p -ℤ q) *ℤ d
        collect p q d m = solve (p ∷ q ∷ d ∷ m ∷ []) (search terms depth 16) tt

    back : d ∣ℤ (a -ℤ b) → modulo a d ≡ modulo b d
    back k = sym (modulo-unique {a = a} {d = d} {q = k.quotient +ℤ floor b d} (record { is = split; low = m.low; high = m.high }))
      where
        m : Division b d (floor b d) (modulo b d)
        m = floor-division b d h

        add-sub : (a b : ℤ) → a ≡ a -ℤ b +ℤ b
        add-sub a b = solve (a ∷ b ∷ []) (search terms depth 16) tt

        collect : (p q d m : ℤ) → p *ℤ d +ℤ (q *ℤ d +ℤ m) ≡ (p +ℤ q) *ℤ d +ℤ m
        collect p q d m = solve (p ∷ q ∷ d ∷ m ∷ []) (search terms depth 16) tt

        split : a ≡ (k.quotient +ℤ floor b d) *ℤ d +ℤ modulo b d
        split =
            add-sub a b
            ∙ ap (λ (x : ℤ). x +ℤ b) k.is
            ∙ ap (λ (x : ℤ). k.quotient *ℤ d +ℤ x) m.is
            ∙ collect k.quotient (floor b d) d (modulo b d)

-- ---- examples

floor-examples : (floor (pos 7) (pos 2) ≡ pos 3) × (floor (negsuc 6) (pos 2) ≡ negsuc 3) × (floor (pos 7) (negsuc 1) ≡ negsuc 3) × (floor (negsuc 6) (negsuc 1) ≡ pos 3) × (floor (negsuc 5) (pos 2) ≡ negsuc 2)
unfolding floor
floor-examples = (refl, refl, refl, refl, refl)
