-- The digits of a number: digits-small (one digit), digits-large (the last digit stands behind the digits of a tenth), length_digits and
-- length-decimal (how many bytes they take).
use mathlib.Core.Path.{◌≡◌, sym, ◌∙◌, ap}
use mathlib.Core.List.{List, [], ◌∷◌, ◌++◌}
use Prim.Native.Nat.{ℕ, zero, suc, ◌+◌, ◌/◌, ◌%◌, ◌^◌, ◌≤◌, ◌<◌}
use native.Mathlib.Nat.{pow-suc}
use native.Mathlib.Omega.{arith}
use native.Mathlib.Decide.{dec_lt}
use lib.ListN.{length, length-append}
use lib.IntN.{ℤ, pos, negsuc}
use lib.Signed.{mag}
use borrow.Author.Tests.{lt-ltb, le-ltb}
use Rattle.program_text.specs.Text.{digits, decimal}

pub digits-small : (most n : ℕ) → n < 10 → digits (suc most) n ≡ (48 + n) ∷ []
unfolding digits
digits-small most n h = rw (lt-ltb n 10 h, digits)

pub digits_more : (most n : ℕ) → 10 ≤ n → digits (suc most) n ≡ digits most (n / 10) ++ ((48 + n % 10) ∷ [])
unfolding digits
digits_more most n h = rw (le-ltb n 10 h, digits)

-- a bound that is large enough does not matter
pub digits-enough : (a b n : ℕ) → n < a → n < b → digits a n ≡ digits b n
digits-enough zero b n l m = absurd (omega arith)
digits-enough (suc a) zero n l m = absurd (omega arith)
digits-enough (suc a) (suc b) n l m = elim (dec_lt n 10) [
  | yes h ↦ digits-small a n h ∙ sym (digits-small b n h)
  | no h ↦
      digits_more a n (omega arith)
      ∙ ap (λ (front : List ℕ). front ++ ((48 + n % 10) ∷ [])) (digits-enough a b (n / 10) (omega arith) (omega arith))
      ∙ sym (digits_more b n (omega arith))
]

pub digits-large : (n : ℕ) → 10 ≤ n → digits (suc n) n ≡ digits (suc (n / 10)) (n / 10) ++ ((48 + n % 10) ∷ [])
digits-large n h =
    digits_more n n h
    ∙ ap (λ (front : List ℕ). front ++ ((48 + n % 10) ∷ [])) (digits-enough n (suc (n / 10)) (n / 10) (omega arith) (omega arith))

pub length-digits-large : (n : ℕ) → 10 ≤ n → length (digits (suc n) n) ≡ length (digits (suc (n / 10)) (n / 10)) + 1
length-digits-large n h = ap length (digits-large n h) ∙ length-append (digits (suc (n / 10)) (n / 10)) ((48 + n % 10) ∷ [])

-- a number below a power of ten has no more digits than that power has zeros
pub length_digits : (k most n : ℕ) → n < 10 ^ suc k → length (digits most n) ≤ suc k
unfolding digits
length_digits k zero n l = omega arith
length_digits zero (suc most) n l = rw (digits-small most n (omega (arith, l))) (omega arith)
length_digits (suc k) (suc most) n l = elim (dec_lt n 10) [
  | yes h ↦ rw (digits-small most n h) (omega arith)
  | no h ↦
      rw (digits_more most n (omega arith))
      (omega (
        arith,
        length-append (digits most (n / 10)) ((48 + n % 10) ∷ []),
        length_digits k most (n / 10) (omega (arith, pow-suc 10 (suc k))),
      ))
]

-- a number of 64 bits takes at most 20 bytes
pub length-decimal : (x : ℤ) → mag x < 2 ^ 63 → length (decimal x) ≤ 20
unfolding decimal
length-decimal (pos n) l = omega (arith, length_digits 18 (suc n) n (omega arith))
length-decimal (negsuc n) l = omega (arith, length_digits 18 (suc (suc n)) (suc n) (omega arith))
