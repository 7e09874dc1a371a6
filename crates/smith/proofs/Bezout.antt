-- `bezout`: two whole numbers are multiples, by coprime factors, of one number. By Euclid's algorithm with subtraction.
use mathlib.Core.Path.{◌≡◌, refl, sym, ◌∙◌, ap, subst}
use mathlib.Core.List.{[], ◌∷◌}
use Prim.Native.Nat.{ℕ, zero, suc, ◌+◌, ◌-◌, ◌≤◌, ◌<◌}
use native.Mathlib.Omega.{arith}
use native.Mathlib.Decide.{dec_le}
use lib.IntN.{ℤ, pos, negsuc, neg_ℤ, ◌+ℤ◌, ◌-ℤ◌, ◌*ℤ◌}
use Rattle.integers.proofs.Ring.{zero-mul, one-mul, neg-mul, add-mul}
use Rattle.integers.proofs.Solve.{solve, terms}

-- a and b are first and second times the divisor, and first and second are coprime: some combination of them is 1
pub record Bezout (a b : ℤ) : Type 0 where
  pub divisor : ℤ
  pub first : ℤ
  pub second : ℤ
  pub u : ℤ
  pub v : ℤ
  pub first-is : a ≡ first *ℤ divisor
  pub second_is : b ≡ second *ℤ divisor
  pub coprime : u *ℤ first +ℤ v *ℤ second ≡ pos 1

zero_left : (b : ℤ) → Bezout (pos 0) b
zero_left b = record {
  divisor = b;
  first = pos 0;
  second = pos 1;
  u = pos 0;
  v = pos 1;
  first-is = sym (zero-mul b);
  second_is = sym (one-mul b);
  coprime = refl;
}

swap : {a b : ℤ} → Bezout a b → Bezout b a
swap r = record {
  divisor = r.divisor;
  first = r.second;
  second = r.first;
  u = r.v;
  v = r.u;
  first-is = r.second_is;
  second_is = r.first-is;
  coprime = sum_comm (r.v *ℤ r.second) (r.u *ℤ r.first) ∙ r.coprime;
}
  where
    sum_comm : (x y : ℤ) → x +ℤ y ≡ y +ℤ x
    sum_comm x y = solve (x ∷ y ∷ []) (search terms depth 16) tt

add-first : {a b : ℤ} → Bezout a b → Bezout a (a +ℤ b)
add-first {a} {b} r = record {
  divisor = r.divisor;
  first = r.first;
  second = r.first +ℤ r.second;
  u = r.u -ℤ r.v;
  v = r.v;
  first-is = r.first-is;
  second_is = cc (r.first-is, r.second_is, add-mul r.first r.second r.divisor);
  coprime = regroup r.u r.v r.first r.second ∙ r.coprime;
}
  where
    regroup : (u v x y : ℤ) → (u -ℤ v) *ℤ x +ℤ v *ℤ (x +ℤ y) ≡ u *ℤ x +ℤ v *ℤ y
    regroup u v x y = solve (u ∷ v ∷ x ∷ y ∷ []) (search terms depth 16) tt

neg-first : {a b : ℤ} → Bezout a b → Bezout (neg_ℤ a) b
neg-first {a} {b} r = record {
  divisor = r.divisor;
  first = neg_ℤ r.first;
  second = r.second;
  u = neg_ℤ r.u;
  v = r.v;
  first-is = ap neg_ℤ r.first-is ∙ sym (neg-mul r.first r.divisor);
  second_is = r.second_is;
  coprime = regroup r.u r.v r.first r.second ∙ r.coprime;
}
  where
    regroup : (u v x y : ℤ) → neg_ℤ u *ℤ neg_ℤ x +ℤ v *ℤ y ≡ u *ℤ x +ℤ v *ℤ y
    regroup u v x y = solve (u ∷ v ∷ x ∷ y ∷ []) (search terms depth 16) tt

-- on natural numbers whose sum is below n
within : (n a b : ℕ) → a + b < n → Bezout (pos a) (pos b)
within zero a b h = absurd (omega arith)
within (suc n) zero b h = zero_left (pos b)
within (suc n) (suc a) zero h = swap (zero_left (pos (suc a)))
within (suc n) (suc a) (suc b) h =
    step (dec_le a b) (λ l. within n (suc a) (b - a) (omega arith)) (λ l. within n (suc b) (a - b) (omega arith))
  where
    step : Dec (a ≤ b) → (a ≤ b → Bezout (pos (suc a)) (pos (b - a))) → (¬ (a ≤ b) → Bezout (pos (suc b)) (pos (a - b))) → Bezout (pos (suc a)) (pos (suc b))
    step (yes l) r s = subst (λ (x : ℕ). Bezout (pos (suc a)) (pos x)) (omega arith) (add-first (r l))
    step (no l) r s = swap (subst (λ (x : ℕ). Bezout (pos (suc b)) (pos x)) (omega arith) (add-first (s l)))

pub bezout : (a b : ℤ) → Bezout a b
bezout (pos a) (pos b) = within (suc (a + b)) a b (omega arith)
bezout (pos a) (negsuc b) = swap (neg-first (within (suc (suc b + a)) (suc b) a (omega arith)))
bezout (negsuc a) (pos b) = neg-first (within (suc (suc a + b)) (suc a) b (omega arith))
bezout (negsuc a) (negsuc b) =
    neg-first (swap (neg-first (within (suc (suc b + suc a)) (suc b) (suc a) (omega arith))))
