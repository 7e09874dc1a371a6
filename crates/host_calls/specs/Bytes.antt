-- Numbers as bytes, low byte first: document 01, "Host calls .. carry these numbers as bytes, low byte first: 4 for a coefficient, 8 for a reported number
-- or coordinate".
use Rattle.std.specs.Prelude.{cond, List, [], ◌∷◌, ◌++◌, ℕ, zero, suc, ◌+◌, ◌-◌, ◌*◌, ◌/◌, ◌%◌, ◌^◌, eqb, ltb, length, get_or, take, drop, ℤ, pos, negsuc}
use Rattle.lists.specs.Tabulate.{tabulate}

-- ---- numbers as bytes

-- the `size` lowest bytes of n, low byte first
unfoldable pub low_bytes : ℕ → ℕ → List ℕ
low_bytes zero n = []
low_bytes (suc size) n = (n % 256) ∷ low_bytes size (n / 256)

-- a signed 64-bit number: of a negative one the bytes of its sum with 2 ^ 64
unfoldable pub number_bytes : ℤ → List ℕ
number_bytes (pos n) = low_bytes 8 n
number_bytes (negsuc n) = low_bytes 8 (2 ^ 64 - suc n)

unfoldable pub numbers_bytes : List ℤ → List ℕ
numbers_bytes [] = []
numbers_bytes (x ∷ l) = number_bytes x ++ numbers_bytes l

-- ---- numbers read from bytes

-- the number whose bytes these are, low byte first
unfoldable pub unsigned_of : List ℕ → ℕ
unsigned_of [] = 0
unsigned_of (b ∷ l) = b + 256 * unsigned_of l

-- the signed 64-bit number whose eight bytes these are
unfoldable pub signed_of : List ℕ → ℤ
signed_of b = cond (ltb (unsigned_of b) (2 ^ 63)) (pos (unsigned_of b)) (negsuc (2 ^ 64 - suc (unsigned_of b)))

-- number i of the bytes b
unfoldable pub number_at : List ℕ → ℕ → ℤ
number_at b i = signed_of (take 8 (drop (8 * i) b))

-- the signed 32-bit number whose four bytes stand at byte i
unfoldable pub coefficient_at : List ℕ → ℕ → ℤ
coefficient_at b i = signed (get_or b i 0 + 256 * (get_or b (i + 1) 0 + 256 * (get_or b (i + 2) 0 + 256 * get_or b (i + 3) 0)))
  where
    signed : ℕ → ℤ
    signed n = cond (ltb n (2 ^ 31)) (pos n) (negsuc (2 ^ 32 - suc n))

-- coefficient i of a chain
abbrev pub coefficient_in : List ℕ → ℕ → ℤ
coefficient_in chain i = coefficient_at chain (4 * i)

-- a chain of another length than n
unfoldable pub other_length : ℕ → List ℤ
other_length zero = pos 0 ∷ []
other_length (suc n) = []

-- the chain of 4 × n bytes; other than 4 × n bytes stand for a chain of another length than n
unfoldable pub chain_from : ℕ → List ℕ → List ℤ
chain_from n chain = cond (eqb (length chain) (4 * n)) (tabulate n (λ i. coefficient_in chain i)) (other_length n)

-- the bytes of chain i of many, of n coefficients each
abbrev pub chain_bytes : ℕ → List ℕ → ℕ → List ℕ
chain_bytes n chains i = take (4 * n) (drop (i * (4 * n)) chains)
