-- Products of counts fit a machine word: product-below, slots-below.
use Prim.Native.Nat.{ℕ, ◌+◌, ◌*◌, ◌^◌, ◌<◌, ◌≤◌, max}
use native.Mathlib.Nat.{mul-le-mul, max-le}
use native.Mathlib.Omega.{arith}

-- the product of two counts
pub product-below : {a b : ℕ} → a < 65536 → b < 65536 → a * b ≤ 2 ^ 32
product-below {a} {b} h k = omega (arith, most)
  where
    most : a * b ≤ 65536 * 65536
    most = mul-le-mul {n₂ = 65536} {m₂ = 65536} (omega arith) (omega arith)

pub max-below : {a b : ℕ} → a < 65536 → b < 65536 → max a b < 65536
max-below {a} {b} h k = omega (arith, most)
  where
    most : max a b ≤ 65535
    most = max-le (omega arith) (omega arith)

-- a count times the sum of three
pub slots-below : {a b : ℕ} → a < 65536 → b < 65536 → a * (2 * a + b) < 2 ^ 48
slots-below {a} {b} h k = omega (arith, most)
  where
    most : a * (2 * a + b) ≤ 65536 * 196608
    most = mul-le-mul {n₂ = 65536} {m₂ = 196608} (omega arith) (omega arith)
