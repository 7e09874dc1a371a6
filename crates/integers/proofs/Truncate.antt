-- The machine's division, `quot_z` and `rem_z`, which round towards zero, and how it gives the division of `Floor`.
-- `quot_z-rem_z`: a = quot_z a d · d + rem_z a d; `mag-quot_z`: the quotient's size; `nat_abs-rem_z`, `rem_z-lt`: the remainder's size.
-- For a positive divisor: `floor-quot_z` where the remainder is not negative, `floor-quot_z-pred` where it is.
use mathlib.Core.Path.{◌≡◌, refl, sym, ◌∙◌, ap, subst}
use mathlib.Core.Logic.{◌≢◌}
use mathlib.Core.List.{[], ◌∷◌}
use Prim.Native.Nat.{ℕ, zero, suc, ◌-◌, ◌/◌, ◌%◌, ◌≤◌, ◌<◌, zero-le}
use native.Mathlib.Nat as NatL
use native.Mathlib.Omega.{arith}
use lib.IntN.{ℤ, pos, negsuc, neg_ℤ, nat_abs, ◌+ℤ◌, ◌-ℤ◌, ◌*ℤ◌}
use lib.Signed.{◌≤ℤ◌, ◌<ℤ◌, <ℤ_irrefl, mag, quot_z, rem_z}
use Rattle.integers.proofs.Solve.{solve, terms}
use Rattle.integers.proofs.Order.{nat_abs-neg, nat_abs-zero, le-pos, lt-pos, pos-lt}
use Rattle.integers.specs.Division.{floor}
use Rattle.integers.proofs.Floor.{floor-unique}

quot-rem : (n m : ℕ) → pos n ≡ pos (n / m) *ℤ pos m +ℤ pos (n % m)
quot-rem n m = ap pos (sym (NatL.div-add-mod' n m))

neg-mul-neg : (q d r : ℤ) → q *ℤ d +ℤ r ≡ neg_ℤ q *ℤ neg_ℤ d +ℤ r
neg-mul-neg q d r = solve (q ∷ d ∷ r ∷ []) (search terms depth 16) tt

neg-dividend : (q d r : ℤ) → neg_ℤ (q *ℤ d +ℤ r) ≡ neg_ℤ q *ℤ d +ℤ neg_ℤ r
neg-dividend q d r = solve (q ∷ d ∷ r ∷ []) (search terms depth 16) tt

neg-divisor : (q d r : ℤ) → neg_ℤ (q *ℤ d +ℤ r) ≡ q *ℤ neg_ℤ d +ℤ neg_ℤ r
neg-divisor q d r = solve (q ∷ d ∷ r ∷ []) (search terms depth 16) tt

pub quot_z-rem_z : (a d : ℤ) → a ≡ quot_z a d *ℤ d +ℤ rem_z a d
quot_z-rem_z (pos a) (pos d) = quot-rem a d
quot_z-rem_z (pos a) (negsuc d) = quot-rem a (suc d) ∙ neg-mul-neg (pos (a / suc d)) (pos (suc d)) (pos (a % suc d))
quot_z-rem_z (negsuc a) (pos d) = ap neg_ℤ (quot-rem (suc a) d) ∙ neg-dividend (pos (suc a / d)) (pos d) (pos (suc a % d))
quot_z-rem_z (negsuc a) (negsuc d) = ap neg_ℤ (quot-rem (suc a) (suc d)) ∙ neg-divisor (pos (suc a / suc d)) (pos (suc d)) (pos (suc a % suc d))

mag-neg : (r a : ℕ) → r ≤ suc a → mag (neg_ℤ (pos r)) ≤ a
mag-neg zero a h = zero-le
mag-neg (suc r) a h = omega arith

-- towards zero, a positive divisor makes nothing larger
pub mag-quot_z : (a d : ℤ) → pos 0 <ℤ d → mag (quot_z a d) ≤ mag a
mag-quot_z (pos a) (pos d) p = NatL.div-le_self a d
mag-quot_z (negsuc a) (pos d) p = mag-neg (suc a / d) a (NatL.div-le_self (suc a) d)
mag-quot_z (pos a) (negsuc d) p = absurd p.lt
mag-quot_z (negsuc a) (negsuc d) p = absurd p.lt

pub nat_abs-rem_z : (a d : ℤ) → nat_abs (rem_z a d) ≡ nat_abs a % nat_abs d
nat_abs-rem_z (pos a) d = refl
nat_abs-rem_z (negsuc a) d = nat_abs-neg (pos (suc a % nat_abs d))

pub rem_z-lt : (a d : ℤ) → d ≢ pos 0 → nat_abs (rem_z a d) < nat_abs d
rem_z-lt a d f =
    subst (λ (n : ℕ). n < nat_abs d) (sym (nat_abs-rem_z a d)) (NatL.mod-lt (nat_abs a) (NatL.pos_of_ne-zero (λ e. f (nat_abs-zero d e))))

-- ---- the quotient rounded towards minus infinity

-- with a remainder r between -d and d, the quotient q is right where r is not negative, and one too large where it is
of-nonneg : (a d q r : ℤ) → a ≡ q *ℤ d +ℤ r → nat_abs r < nat_abs d → pos 0 <ℤ d → pos 0 ≤ℤ r → q ≡ floor a d
of-nonneg a (pos n) q (pos s) e h p k = floor-unique {a = a} {d = pos n} {q = q} {r = pos s} (record { is = e; low = k; high = lt-pos h })
of-nonneg a (pos n) q (negsuc s) e h p k = absurd k.le
of-nonneg a (negsuc n) q r e h p k = absurd p.lt

of-neg : (a d q r : ℤ) → a ≡ q *ℤ d +ℤ r → nat_abs r < nat_abs d → pos 0 <ℤ d → r <ℤ pos 0 → q -ℤ pos 1 ≡ floor a d
of-neg a (negsuc n) q r e h p k = absurd p.lt
of-neg a (pos n) q (pos s) e h p k = absurd (NatL.not-suc-le-zero (pos-lt k))
of-neg a (pos n) q (negsuc s) e h p k = floor-unique {a = a} {d = pos n} {q = q -ℤ pos 1} {r = pos (n - suc s)} (record {
  is =
      e
      ∙ subst (λ (m : ℕ). q *ℤ pos m +ℤ negsuc s ≡ (q -ℤ pos 1) *ℤ pos m +ℤ pos (n - suc s))
      (NatL.sub-add_cancel (NatL.le_of_lt h))
      (regroup q (pos (n - suc s)) (pos (suc s)));
  low = le-pos zero-le;
  high = lt-pos (omega arith);
})
  where
    regroup : (q t s : ℤ) → q *ℤ (t +ℤ s) +ℤ neg_ℤ s ≡ (q -ℤ pos 1) *ℤ (t +ℤ s) +ℤ t
    regroup q t s = solve (q ∷ t ∷ s ∷ []) (search terms depth 16) tt

nonzero : {d : ℤ} → pos 0 <ℤ d → d ≢ pos 0
nonzero {d} h e = <ℤ_irrefl (subst (λ (x : ℤ). pos 0 <ℤ x) e h)

pub floor-quot_z : (a d : ℤ) → pos 0 <ℤ d → pos 0 ≤ℤ rem_z a d → floor a d ≡ quot_z a d
floor-quot_z a d p k = sym (of-nonneg a d (quot_z a d) (rem_z a d) (quot_z-rem_z a d) (rem_z-lt a d (nonzero p)) p k)

pub floor-quot_z-pred : (a d : ℤ) → pos 0 <ℤ d → rem_z a d <ℤ pos 0 → floor a d ≡ quot_z a d -ℤ pos 1
floor-quot_z-pred a d p k = sym (of-neg a d (quot_z a d) (rem_z a d) (quot_z-rem_z a d) (rem_z-lt a d (nonzero p)) p k)
