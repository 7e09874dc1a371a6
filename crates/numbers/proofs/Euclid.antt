-- The library's quotient and remainder by a positive number are those of `floor` and `modulo`: `floor-euclid`, `modulo-euclid`.
use mathlib.Core.Path.{◌≡◌, refl, sym, ap}
use Prim.Native.Nat.{ℕ, suc, ◌+◌, ◌-◌, ◌*◌, ◌/◌, ◌%◌, ◌<◌, zero-le}
use native.Mathlib.Nat as NatL
use native.Mathlib.Omega.{arith}
use Rattle.std.proofs.lemmas.Int.{ints}
use lib.IntN.{ℤ, pos, negsuc, ◌+ℤ◌, ◌*ℤ◌}
use lib.Signed.{◌<ℤ◌}
use Rattle.std.specs.Int.{int_div_euclid, int_rem_euclid}
use Rattle.integers.specs.Division.{floor, modulo}
use Rattle.integers.proofs.Order.{le-pos, lt-pos, pos-lt}
use Rattle.integers.proofs.Floor.{modulo-unique}

pub floor-euclid : (a d : ℤ) → pos 0 <ℤ d → int_div_euclid a d ≡ floor a d
unfolding floor
floor-euclid (pos a) (pos d) p = refl
floor-euclid (negsuc a) (pos d) p = refl
floor-euclid a (negsuc d) p = absurd p.lt

below-zero : (a n : ℕ) → 0 < n → negsuc a ≡ negsuc (a / n) *ℤ pos n +ℤ pos (n - 1 - a % n)
below-zero a n l =
    let split : a / n * n + a % n ≡ a = NatL.div-add-mod' a n in
    let below : a % n < n = NatL.mod-lt a l in
    let product : suc (a / n) * n ≡ a / n * n + n = NatL.suc-mul (a / n) n in
    omega (arith, ints)

pub modulo-euclid : (a d : ℤ) → pos 0 <ℤ d → int_rem_euclid a d ≡ modulo a d
modulo-euclid (pos a) (pos n) p =
    modulo-unique {q = pos (a / n)} (record { is = ap pos (sym (NatL.div-add-mod' a n)); low = le-pos zero-le; high = lt-pos (NatL.mod-lt a (pos-lt p)) })
modulo-euclid (negsuc a) (pos n) p =
    let l : 0 < n = pos-lt p in
    modulo-unique {q = negsuc (a / n)} (record { is = below-zero a n l; low = le-pos zero-le; high = lt-pos (omega arith) })
modulo-euclid a (negsuc n) p = absurd p.lt
