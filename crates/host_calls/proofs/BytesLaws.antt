-- Numbers as bytes: numbers_bytes-small, length-number_bytes, length-numbers_bytes, numbers_bytes-append. The numbers of 64 bits can be read back from the
-- bytes: signed_of-number_bytes, number_at-numbers_bytes, number_at-same; so number_bytes-injective and numbers_bytes-injective.
use mathlib.Core.Path.{◌≡◌, refl, sym, ◌∙◌, ap}
use mathlib.Core.List.{List, [], ◌∷◌, ◌++◌, append_assoc, append-nil}
use Prim.Native.Nat.{ℕ, zero, suc, ◌+◌, ◌-◌, ◌*◌, ◌/◌, ◌^◌, ◌≤◌, ◌<◌}
use native.Mathlib.Nat.{pow-succ', mod-lt}
use native.Mathlib.Omega.{arith}
use borrow.Author.Tests.{lt-ltb, le-ltb}
use lib.ListN.{length, get_or, take, drop, length-append, length-drop}
use lib.Seq.{take_at, drop-append-add, ext_get_or, length-take-le, get_or-take, get_or-drop}
use lib.IntN.{ℤ, pos, negsuc}
use lib.Signed.{mag}
use Rattle.lists.proofs.SplicesLaws.{each_append}
use Rattle.host_calls.specs.Bytes.{low_bytes, number_bytes, numbers_bytes, unsigned_of, signed_of, number_at}

-- ---- each is a byte

low_bytes-small : (size n k : ℕ) → get_or (low_bytes size n) k 0 < 256
unfolding low_bytes
low_bytes-small zero n k = omega arith
low_bytes-small (suc size) n zero = mod-lt n (omega arith)
low_bytes-small (suc size) n (suc k) = low_bytes-small size (n / 256) k

number_bytes-small : (x : ℤ) (k : ℕ) → get_or (number_bytes x) k 0 < 256
unfolding number_bytes
number_bytes-small (pos n) k = low_bytes-small 8 n k
number_bytes-small (negsuc n) k = low_bytes-small 8 (2 ^ 64 - suc n) k

pub numbers_bytes-small : (l : List ℤ) (k : ℕ) → get_or (numbers_bytes l) k 0 < 256
unfolding numbers_bytes
numbers_bytes-small [] k = omega arith
numbers_bytes-small (x ∷ l) k = each_append (λ b. b < 256) 0 (omega arith) (number_bytes x) (numbers_bytes l) (number_bytes-small x) (numbers_bytes-small l) k

-- ---- lengths

pub length-low_bytes : (size n : ℕ) → length (low_bytes size n) ≡ size
unfolding low_bytes
length-low_bytes zero n = refl
length-low_bytes (suc size) n = ap suc (length-low_bytes size (n / 256))

pub length-number_bytes : (x : ℤ) → length (number_bytes x) ≡ 8
unfolding number_bytes
length-number_bytes (pos n) = length-low_bytes 8 n
length-number_bytes (negsuc n) = length-low_bytes 8 (2 ^ 64 - suc n)

pub length-numbers_bytes : (l : List ℤ) → length (numbers_bytes l) ≡ 8 * length l
unfolding numbers_bytes
length-numbers_bytes [] = refl
length-numbers_bytes (x ∷ l) =
    omega (arith, length-append (number_bytes x) (numbers_bytes l), length-number_bytes x, length-numbers_bytes l)

pub numbers_bytes-append : (l m : List ℤ) → numbers_bytes (l ++ m) ≡ numbers_bytes l ++ numbers_bytes m
unfolding numbers_bytes
numbers_bytes-append [] m = refl
numbers_bytes-append (x ∷ l) m =
    ap (λ (t : List ℕ). number_bytes x ++ t) (numbers_bytes-append l m) ∙ sym (append_assoc (number_bytes x) (numbers_bytes l) (numbers_bytes m))

-- one number more
pub numbers_bytes-snoc : (l : List ℤ) (x : ℤ) → numbers_bytes (l ++ (x ∷ [])) ≡ numbers_bytes l ++ number_bytes x
unfolding numbers_bytes
numbers_bytes-snoc l x =
    numbers_bytes-append l (x ∷ []) ∙ ap (λ (t : List ℕ). numbers_bytes l ++ t) (append-nil (number_bytes x))

-- ---- reading back

pub unsigned_of-low_bytes : (size n : ℕ) → n < 256 ^ size → unsigned_of (low_bytes size n) ≡ n
unfolding low_bytes unsigned_of
unsigned_of-low_bytes zero n h = omega arith
unsigned_of-low_bytes (suc size) n h =
    omega (arith, unsigned_of-low_bytes size (n / 256) (omega (arith, pow-succ' 256 size)))

-- a signed 64-bit number
pub record Word (x : ℤ) : Type 0 where
  pub within : mag x < 2 ^ 63

pub signed_of-number_bytes : (x : ℤ) → Word x → signed_of (number_bytes x) ≡ x
unfolding number_bytes signed_of
signed_of-number_bytes (pos n) h =
    rw (unsigned_of-low_bytes 8 n (omega (arith, h.within)), lt-ltb n (2 ^ 63) h.within)
signed_of-number_bytes (negsuc n) h =
    rw (unsigned_of-low_bytes 8 (2 ^ 64 - suc n) (omega (arith, h.within)), le-ltb (2 ^ 64 - suc n) (2 ^ 63) (omega (arith, h.within)))
    (ap negsuc (omega (arith, h.within)))

pub number_bytes-injective : (x y : ℤ) → Word x → Word y → number_bytes x ≡ number_bytes y → x ≡ y
number_bytes-injective x y h k e = sym (signed_of-number_bytes x h) ∙ ap signed_of e ∙ signed_of-number_bytes y k

-- whatever follows them, the bytes of the numbers give number i
pub number_at-numbers_bytes : (l : List ℤ) (rest : List ℕ) (i : ℕ) → i < length l → Word (get_or l i (pos 0))
    → number_at (numbers_bytes l ++ rest) i ≡ get_or l i (pos 0)
unfolding number_at numbers_bytes
number_at-numbers_bytes [] rest i h w = absurd (omega arith)
number_at-numbers_bytes (x ∷ l) rest zero h w =
    ap (λ (t : List ℕ). signed_of (take 8 t)) (append_assoc (number_bytes x) (numbers_bytes l) rest)
    ∙ ap signed_of (take_at (number_bytes x) (numbers_bytes l ++ rest) 8 (length-number_bytes x))
    ∙ signed_of-number_bytes x w
number_at-numbers_bytes (x ∷ l) rest (suc i) h w =
    ap (λ (t : List ℕ). signed_of (take 8 (drop (8 * suc i) t))) (append_assoc (number_bytes x) (numbers_bytes l) rest)
    ∙ ap (λ (t : ℕ). signed_of (take 8 (drop t (number_bytes x ++ (numbers_bytes l ++ rest))))) past
    ∙ ap (λ (t : List ℕ). signed_of (take 8 t)) (drop-append-add (number_bytes x) (numbers_bytes l ++ rest) (8 * i))
    ∙ number_at-numbers_bytes l rest i (omega arith) w
  where
    past : 8 * suc i ≡ length (number_bytes x) + 8 * i
    past = omega (arith, length-number_bytes x)

-- where the eight bytes are the same, so is the number
pub number_at-same : (b b' : List ℕ) (k k' : ℕ) → 8 * k + 8 ≤ length b → 8 * k' + 8 ≤ length b'
    → ((t : ℕ) → t < 8 → get_or b (8 * k + t) 0 ≡ get_or b' (8 * k' + t) 0) → number_at b k ≡ number_at b' k'
unfolding number_at
number_at-same b b' k k' l l' same = ap signed_of (ext_get_or 0 (bytes b k) (bytes b' k') (size b k l ∙ sym (size b' k' l')) at)
  where
    bytes : List ℕ → ℕ → List ℕ
    bytes x i = take 8 (drop (8 * i) x)

    size : (x : List ℕ) (i : ℕ) → 8 * i + 8 ≤ length x → length (bytes x i) ≡ 8
    size x i h = length-take-le 8 (drop (8 * i) x) (omega (arith, length-drop (8 * i) x))

    byte : (x : List ℕ) (i t : ℕ) → t < 8 → get_or (bytes x i) t 0 ≡ get_or x (8 * i + t) 0
    byte x i t h = get_or-take 8 (drop (8 * i) x) t 0 h ∙ get_or-drop (8 * i) x t 0

    at : (t : ℕ) → t < length (bytes b k) → get_or (bytes b k) t 0 ≡ get_or (bytes b' k') t 0
    at t h = let short : t < 8 = omega (arith, size b k l) in byte b k t short ∙ same t short ∙ sym (byte b' k' t short)

-- as many numbers of 64 bits with the same bytes are the same
pub numbers_bytes-injective : (l m : List ℤ) → length l ≡ length m → ((i : ℕ) → i < length l → Word (get_or l i (pos 0)))
    → ((i : ℕ) → i < length m → Word (get_or m i (pos 0))) → numbers_bytes l ≡ numbers_bytes m → l ≡ m
numbers_bytes-injective l m e h k same = ext_get_or (pos 0) l m e at
  where
    at : (i : ℕ) → i < length l → get_or l i (pos 0) ≡ get_or m i (pos 0)
    at i a =
        sym (number_at-numbers_bytes l [] i a (h i a))
        ∙ ap (λ (t : List ℕ). number_at (t ++ []) i) same
        ∙ number_at-numbers_bytes m [] i (omega arith) (k i (omega arith))
