-- Powers of natural numbers: the power of a sum (pow-add) and of a product (pow-mul).
use mathlib.Core.Path.{◌≡◌, sym}
use Prim.Native.Nat.{ℕ, zero, suc, ◌+◌, ◌*◌, ◌^◌}
use native.Mathlib.Nat.{add-zero, add-suc, mul-one, mul-zero, mul-suc, mul_assoc, pow-zero, pow-suc}

pub pow-add : (a m n : ℕ) → a ^ (m + n) ≡ a ^ m * a ^ n
pow-add a m zero = rw (add-zero m, pow-zero a) (sym (mul-one (a ^ m)))
pow-add a m (suc n) = rw (add-suc m n, pow-suc a (m + n), pow-suc a n, pow-add a m n) (mul_assoc (a ^ m) (a ^ n) a)

pub pow-mul : (a m n : ℕ) → a ^ (m * n) ≡ (a ^ m) ^ n
pow-mul a m zero = rw (mul-zero m, pow-zero a) (sym (pow-zero (a ^ m)))
pow-mul a m (suc n) = rw (mul-suc m n, pow-add a (m * n) m, pow-suc (a ^ m) n, pow-mul a m n)
