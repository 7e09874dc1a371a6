-- Laws of the residue nearest zero.
-- `residue-nearest`, `residue-dvd`: for a positive d it lies above -d/2 and up to d/2, and d divides a less it; `residue-unique`, `nearest-same`: no other
-- number does so. `residue-eq-iff`: two residues are equal exactly when d divides the difference. `residue-zero`: where d is 0, it is a.
-- `nearest-two`, `nearest-three`: the numbers in the range of order 2 and of order 3. `residue-minus-one`: the residue of -1. `nat_abs-residue`: its size.
use mathlib.Core.Path.{◌≡◌, refl, sym, ◌∙◌, ap, subst}
use mathlib.Core.Logic.{◌↔◌, ◌≢◌, ◌⊎◌, inl, inr}
use mathlib.Core.Bool.{cond}
use mathlib.Core.List.{[], ◌∷◌, map}
use Prim.Native.Nat.{ℕ, zero, suc, ◌*◌, ◌-◌, ◌≤◌, ◌<◌, zero-le}
use native.Mathlib.Nat as NatL
use native.Mathlib.Omega.{arith}
use lib.Dec.{lt→ltb, ltb→lt}
use lib.IntN.{ℤ, pos, negsuc, neg_ℤ, nat_abs, ◌+ℤ◌, ◌-ℤ◌, ◌*ℤ◌}
use lib.Signed.{lt_z, ◌≤ℤ◌, ◌<ℤ◌, lt_z_yes, lt_z_no, <ℤ-≤ℤ_trans}
use Rattle.integers.proofs.Ring.{sub_self, mul-neg}
use Rattle.integers.proofs.Solve.{solve, terms}
use Rattle.integers.proofs.Order.{cond_ind, le-pos, lt-pos, pos-le, pos-lt, eq-of-sub}
use Rattle.integers.specs.Division.{floor, modulo, residue, NearestZero, ◌∣ℤ◌}
use Rattle.integers.proofs.Divides.{dvd-zero, zero-dvd, dvd-sub}
use Rattle.integers.proofs.Floor.{modulo-is, modulo-zero, modulo-unique, modulo-eq-iff, floor-division}

-- the residue that belongs to a remainder m
abbrev of_remainder : ℤ → ℤ → ℤ
of_remainder d m = cond (lt_z d (pos 2 *ℤ m)) (m -ℤ d) m

-- the two cases
of_remainder-ind : (d m : ℤ) (P : ℤ → Type 0) → (d <ℤ (pos 2 *ℤ m) → P (m -ℤ d)) → ((pos 2 *ℤ m) ≤ℤ d → P m) → P (of_remainder d m)
of_remainder-ind d m P f g = cond_ind (lt_z d (pos 2 *ℤ m)) (m -ℤ d) m P (λ t. f (lt_z_yes t)) (λ t. g (lt_z_no t))

pub residue-ind : (a d : ℤ) (P : ℤ → Type 0) → (d <ℤ (pos 2 *ℤ modulo a d) → P (modulo a d -ℤ d)) → ((pos 2 *ℤ modulo a d) ≤ℤ d → P (modulo a d)) → P (residue a d)
unfolding residue
residue-ind a d P f g = of_remainder-ind d (modulo a d) P f g

pub residue-zero : (a : ℤ) → residue a (pos 0) ≡ a
residue-zero a = residue-ind a (pos 0) (λ (r : ℤ). r ≡ a) (λ h. less (modulo a (pos 0)) ∙ modulo-zero a) (λ h. modulo-zero a)
  where
    less : (m : ℤ) → m -ℤ pos 0 ≡ m
    less m = solve (m ∷ []) (search terms depth 16) tt

-- ---- d divides what the residue leaves

pub residue-dvd : (a d : ℤ) → d ∣ℤ (a -ℤ residue a d)
residue-dvd a d =
    residue-ind a d (λ (r : ℤ). d ∣ℤ (a -ℤ r))
    (λ h. record { quotient = floor a d +ℤ pos 1; is = ap (λ (m : ℤ). a -ℤ (m -ℤ d)) (modulo-is a d) ∙ one_more a (floor a d) d })
    (λ h. record { quotient = floor a d; is = ap (λ (m : ℤ). a -ℤ m) (modulo-is a d) ∙ kept a (floor a d *ℤ d) })
  where
    kept : (a x : ℤ) → a -ℤ (a -ℤ x) ≡ x
    kept a x = solve (a ∷ x ∷ []) (search terms depth 16) tt

    one_more : (a q d : ℤ) → a -ℤ (a -ℤ q *ℤ d -ℤ d) ≡ (q +ℤ pos 1) *ℤ d
    one_more a q d = solve (a ∷ q ∷ d ∷ []) (search terms depth 16) tt

-- ---- the range, for a positive d

-- a remainder that is less than the divisor, less the divisor
pub less-divisor : (m n : ℕ) → m < n → pos m -ℤ pos n ≡ neg_ℤ (pos (n - m))
less-divisor m n h = subst (λ (k : ℕ). pos m -ℤ pos k ≡ neg_ℤ (pos (n - m))) (NatL.add-sub_of_le (NatL.le_of_lt h)) (cancel (pos m) (pos (n - m)))
  where
    cancel : (m t : ℤ) → m -ℤ (m +ℤ t) ≡ neg_ℤ t
    cancel m t = solve (m ∷ t ∷ []) (search terms depth 16) tt

-- the range, for numbers that are not negative and for the others
nearest-pos : (n k : ℕ) → 0 < n → 2 * k ≤ n → NearestZero (pos n) (pos k)
nearest-pos (suc n) k l h = (record { lt = tt }, le-pos h)
nearest-pos zero k l h = absurd (NatL.not-suc-le-zero l)

nearest-neg : (n k : ℕ) → 2 * k < n → NearestZero (pos n) (neg_ℤ (pos k))
nearest-neg n k h = (
  subst (λ (z : ℤ). neg_ℤ (pos n) <ℤ z) (sym (mul-neg (pos 2) (pos k))) (neg-lt (2 * k) n h),
  subst (λ (z : ℤ). z ≤ℤ pos n) (sym (mul-neg (pos 2) (pos k))) (neg-le (2 * k) n),
)
  where
    neg-lt : (m n : ℕ) → m < n → neg_ℤ (pos n) <ℤ neg_ℤ (pos m)
    neg-lt m zero h = absurd (NatL.not-suc-le-zero h)
    neg-lt zero (suc n) h = record { lt = tt }
    neg-lt (suc m) (suc n) h = record { lt = lt→ltb m n (omega arith) }

    neg-le : (m n : ℕ) → neg_ℤ (pos m) ≤ℤ pos n
    neg-le zero n = le-pos zero-le
    neg-le (suc m) n = record { le = tt }

nearest' : (n m : ℕ) → m < n → NearestZero (pos n) (of_remainder (pos n) (pos m))
nearest' n m h =
    of_remainder-ind (pos n) (pos m) (λ (r : ℤ). NearestZero (pos n) r)
    (λ l. let k : n < 2 * m = pos-lt l in subst (λ (r : ℤ). NearestZero (pos n) r) (sym (less-divisor m n h)) (nearest-neg n (n - m) (omega arith)))
    (λ l. nearest-pos n m (omega arith) (pos-le l))

pub residue-nearest : (a d : ℤ) → pos 0 <ℤ d → NearestZero d (residue a d)
unfolding residue
residue-nearest a d h = go d (modulo a d) (floor-division a d h).low (floor-division a d h).high
  where
    go : (d m : ℤ) → pos 0 ≤ℤ m → m <ℤ d → NearestZero d (of_remainder d m)
    go (pos n) (pos m) l k = nearest' n m (pos-lt k)
    go (negsuc n) (pos m) l k = absurd k.lt
    go d (negsuc m) l k = absurd l.le

pub nearest_zero : (d : ℤ) → pos 0 <ℤ d → NearestZero d (pos 0)
nearest_zero (pos n) h = nearest-pos n 0 (pos-lt h) zero-le
nearest_zero (negsuc n) h = absurd h.lt

-- ---- equal residues

pub residue-eq-iff : (a b d : ℤ) → pos 0 ≤ℤ d → (residue a d ≡ residue b d) ↔ (d ∣ℤ (a -ℤ b))
unfolding residue
residue-eq-iff a b d h = (forth, back d h)
  where
    differ : (a b r : ℤ) → a -ℤ r -ℤ (b -ℤ r) ≡ a -ℤ b
    differ a b r = solve (a ∷ b ∷ r ∷ []) (search terms depth 16) tt

    forth : residue a d ≡ residue b d → d ∣ℤ (a -ℤ b)
    forth e =
        subst (λ (x : ℤ). d ∣ℤ x) (differ a b (residue b d))
        (dvd-sub (subst (λ (r : ℤ). d ∣ℤ (a -ℤ r)) e (residue-dvd a d)) (residue-dvd b d))

    back : (d : ℤ) → pos 0 ≤ℤ d → d ∣ℤ (a -ℤ b) → residue a d ≡ residue b d
    back (pos zero) h k = ap (λ (x : ℤ). residue x (pos 0)) (eq-of-sub a b (zero-dvd k))
    back (pos (suc n)) h k = ap (of_remainder (pos (suc n))) ((modulo-eq-iff a b (pos (suc n)) (lt-pos (omega arith))).1 k)
    back (negsuc n) h k = absurd h.le

-- ---- no other number in the range

-- what the range says of a natural number and of a negative one
nearest-of-pos : (n k : ℕ) → NearestZero (pos n) (pos k) → (k < n) × (2 * k ≤ n)
nearest-of-pos zero k h = let l : 2 * k ≤ 0 = pos-le h.1 in let m : 0 < 2 * k = pos-lt h.0 in absurd (NatL.lt_irrefl 0 (omega arith))
nearest-of-pos (suc n) k h = let l : 2 * k ≤ suc n = pos-le h.1 in (omega arith, l)

nearest-of-neg : (n k : ℕ) → NearestZero (pos n) (negsuc k) → 2 * suc k < n
nearest-of-neg n k h = lt-neg (2 * suc k) n h.0
  where
    lt-neg : (m n : ℕ) → neg_ℤ (pos n) <ℤ neg_ℤ (pos m) → m < n
    lt-neg zero zero h = pos-lt h
    lt-neg (suc m) zero h = absurd h.lt
    lt-neg zero (suc n) h = omega arith
    lt-neg (suc m) (suc n) h = let l : m < n = ltb→lt m n h.lt in omega arith

-- a number in the range is its own residue
own-residue : (n : ℕ) (r : ℤ) → NearestZero (pos n) r → residue r (pos n) ≡ r
unfolding residue
own-residue n (pos k) h =
    let l = nearest-of-pos n k h in
    ap (of_remainder (pos n)) (sym (modulo-unique {q = pos 0} (record { is = sym (no-multiple (pos n) (pos k)); low = le-pos zero-le; high = lt-pos l.0 })))
    ∙ of_remainder-ind (pos n) (pos k) (λ (r : ℤ). r ≡ pos k) (λ f. let g : n < 2 * k = pos-lt f in absurd (NatL.lt_irrefl n (omega (arith, l.1)))) (λ f. refl)
  where
    no-multiple : (d r : ℤ) → pos 0 *ℤ d +ℤ r ≡ r
    no-multiple d r = solve (d ∷ r ∷ []) (search terms depth 16) tt
own-residue n (negsuc k) h =
    let l = nearest-of-neg n k h in let back : n - (n - suc k) ≡ suc k = omega arith in
    let lowered = less-divisor (n - suc k) n (omega arith) ∙ ap (λ (m : ℕ). neg_ℤ (pos m)) back in
    ap (of_remainder (pos n)) (sym (modulo-unique {q = negsuc 0} (record { is = sym lowered ∙ commute (pos (n - suc k)) (pos n); low = le-pos zero-le; high = lt-pos (omega arith) })))
    ∙ of_remainder-ind (pos n) (pos (n - suc k)) (λ (r : ℤ). r ≡ negsuc k) (λ f. lowered)
    (λ f. let g : 2 * (n - suc k) ≤ n = pos-le f in absurd (NatL.lt_irrefl n (omega arith)))
  where
    commute : (t d : ℤ) → t -ℤ d ≡ negsuc 0 *ℤ d +ℤ t
    commute t d = solve (t ∷ d ∷ []) (search terms depth 16) tt

pub residue-unique : (a d r : ℤ) → NearestZero d r → d ∣ℤ (a -ℤ r) → r ≡ residue a d
residue-unique a (pos n) r h k = sym (own-residue n r h) ∙ sym ((residue-eq-iff a r (pos n) (le-pos zero-le)).1 k)
residue-unique a (negsuc n) r h k = absurd (<ℤ-≤ℤ_trans h.0 h.1).lt

pub residue-of-zero : (d : ℤ) → pos 0 ≤ℤ d → residue (pos 0) d ≡ pos 0
residue-of-zero (pos zero) h = residue-zero (pos 0)
residue-of-zero (pos (suc d)) h = sym (residue-unique (pos 0) (pos (suc d)) (pos 0) (nearest_zero (pos (suc d)) (lt-pos (omega arith))) (dvd-zero (pos (suc d))))
residue-of-zero (negsuc d) h = absurd h.le

pub nearest-same : (d r s : ℤ) → NearestZero d r → NearestZero d s → d ∣ℤ (r -ℤ s) → r ≡ s
nearest-same d r s h k c = residue-unique r d r h (subst (λ (x : ℤ). d ∣ℤ x) (sym (sub_self r)) (dvd-zero d)) ∙ sym (residue-unique r d s k c)

-- ---- small orders

-- order 2 gives 0 or 1
pub nearest-two : (r : ℤ) → NearestZero (pos 2) r → (r ≡ pos 0) ⊎ (r ≡ pos 1)
nearest-two (pos zero) h = inl refl
nearest-two (pos (suc zero)) h = inr refl
nearest-two (pos (suc (suc k))) h = absurd (omega (arith, (nearest-of-pos 2 (suc (suc k)) h).0))
nearest-two (negsuc k) h = absurd (omega (arith, nearest-of-neg 2 k h))

-- order 3 gives -1, 0 or 1
pub nearest-three : (r : ℤ) → NearestZero (pos 3) r → (r ≡ neg_ℤ (pos 1)) ⊎ ((r ≡ pos 0) ⊎ (r ≡ pos 1))
nearest-three (pos zero) h = inr (inl refl)
nearest-three (pos (suc zero)) h = inr (inr refl)
nearest-three (pos (suc (suc k))) h = absurd (omega (arith, (nearest-of-pos 3 (suc (suc k)) h).1))
nearest-three (negsuc zero) h = inl refl
nearest-three (negsuc (suc k)) h = absurd (omega (arith, nearest-of-neg 3 (suc k) h))

-- the residue of -1: itself, but where d is 1 or 2
pub residue-minus-one : (d : ℤ) → pos 0 ≤ℤ d → d ≢ pos 1 → d ≢ pos 2 → residue (neg_ℤ (pos 1)) d ≡ neg_ℤ (pos 1)
residue-minus-one (pos zero) h f g = residue-zero (neg_ℤ (pos 1))
residue-minus-one (pos (suc zero)) h f g = absurd (f refl)
residue-minus-one (pos (suc (suc zero))) h f g = absurd (g refl)
residue-minus-one (pos (suc (suc (suc n)))) h f g = own-residue (suc (suc (suc n))) (neg_ℤ (pos 1)) (nearest-neg (suc (suc (suc n))) 1 (omega arith))
residue-minus-one (negsuc n) h f g = absurd h.le

pub residue-minus-one-of-two : residue (neg_ℤ (pos 1)) (pos 2) ≡ pos 1
unfolding residue modulo floor
residue-minus-one-of-two = refl

-- ---- its size

pub nat_abs-residue : (a d : ℤ) → pos 0 <ℤ d → nat_abs (residue a d) ≤ nat_abs d
nat_abs-residue a d h = go d (residue a d) h (residue-nearest a d h)
  where
    go : (d r : ℤ) → pos 0 <ℤ d → NearestZero d r → nat_abs r ≤ nat_abs d
    go (pos n) (pos k) h l = NatL.le_of_lt (nearest-of-pos n k l).0
    go (pos n) (negsuc k) h l = let m = nearest-of-neg n k l in omega arith
    go (negsuc n) r h l = absurd h.lt

-- ---- examples: order 2 gives 0 or 1, order 3 gives -1, 0 or 1, and an order of 0 keeps the number

abbrev minus : ℕ → ℤ
minus n = neg_ℤ (pos n)

pub record ResidueExamples : Type 0 where
  pub order-2 : map (λ a. residue a (pos 2)) (minus 2 ∷ minus 1 ∷ pos 0 ∷ pos 1 ∷ pos 2 ∷ []) ≡ pos 0 ∷ pos 1 ∷ pos 0 ∷ pos 1 ∷ pos 0 ∷ []
  pub order-3 : map (λ a. residue a (pos 3)) (minus 2 ∷ minus 1 ∷ pos 0 ∷ pos 1 ∷ pos 2 ∷ []) ≡ pos 1 ∷ minus 1 ∷ pos 0 ∷ pos 1 ∷ minus 1 ∷ []
  pub order-4 : map (λ a. residue a (pos 4)) (minus 3 ∷ minus 2 ∷ minus 1 ∷ pos 1 ∷ pos 2 ∷ pos 3 ∷ []) ≡ pos 1 ∷ pos 2 ∷ minus 1 ∷ pos 1 ∷ pos 2 ∷ minus 1 ∷ []
  pub order-0 : map (λ a. residue a (pos 0)) (minus 9 ∷ pos 7 ∷ []) ≡ minus 9 ∷ pos 7 ∷ []

pub residue-examples : ResidueExamples
unfolding residue modulo floor
residue-examples = record { order-2 = refl; order-3 = refl; order-4 = refl; order-0 = refl }
