-- The lines of a text. `refusal_line-injective`: the line of a refusal tells its number. `feeds`: the line feeds of a text, of which a line has one
-- (feeds-line) and a text has those of its parts (feeds-append).
use mathlib.Core.Path.{◌≡◌, refl, ◌∙◌, ap}
use mathlib.Core.Logic.{◌≢◌}
use mathlib.Core.Bool.{cond}
use mathlib.Core.List.{List, [], ◌∷◌, ◌++◌, append-nil}
use Prim.Native.Nat.{ℕ, zero, suc, ◌+◌, ◌*◌, ◌-◌, ◌/◌, ◌%◌, ◌<◌}
use native.Mathlib.Omega.{arith}
use native.Mathlib.Decide.{dec_lt}
use borrow.Author.Tests.{ne_eqb}
use lib.Dec.{eqb}
use lib.ListN.{drop}
use lib.IntN.{ℤ, pos, negsuc}
use Rattle.program_text.specs.Text.{digits, decimal, spaced, line, refusal_line}
use Rattle.program_text.proofs.DigitsLaws.{digits-small, digits_more}

-- ---- the number that digits give

-- the digits of `value`, then these
unfoldable read : ℕ → List ℕ → ℕ
read value [] = value
read value (x ∷ l) = read (10 * value + (x - 48)) l

read-append : (value : ℕ) (l m : List ℕ) → read value (l ++ m) ≡ read (read value l) m
unfolding read
read-append value [] m = refl
read-append value (x ∷ l) m = read-append (10 * value + (x - 48)) l m

read-digits : (most n : ℕ) → n < most → read 0 (digits most n) ≡ n
unfolding read
read-digits zero n l = absurd (omega arith)
read-digits (suc most) n l = elim (dec_lt n 10) [
  | yes h ↦ ap (read 0) (digits-small most n h) ∙ omega arith
  | no h ↦
      ap (read 0) (digits_more most n (omega arith))
      ∙ read-append 0 (digits most (n / 10)) ((48 + n % 10) ∷ [])
      ∙ omega (arith, read-digits most (n / 10) (omega arith))
]

-- read like a digit, the line feed adds nothing
read-line : (k : ℕ) → read 0 (drop 2 (refusal_line k)) ≡ 10 * k
unfolding spaced decimal read
read-line k =
    read-append 0 (digits (suc k) k ++ []) (10 ∷ [])
    ∙ omega (arith, ap (read 0) (append-nil (digits (suc k) k)), read-digits (suc k) k (omega arith))

pub refusal_line-injective : (j k : ℕ) → refusal_line j ≡ refusal_line k → j ≡ k
refusal_line-injective j k e = omega (arith, read-line j, read-line k, ap (λ (l : List ℕ). read 0 (drop 2 l)) e)

-- ---- line feeds

unfoldable pub feeds : List ℕ → ℕ
feeds [] = 0
feeds (x ∷ l) = cond (eqb x 10) 1 0 + feeds l

pub feeds-append : (l m : List ℕ) → feeds (l ++ m) ≡ feeds l + feeds m
unfolding feeds
feeds-append [] m = omega arith
feeds-append (x ∷ l) m = omega (arith, feeds-append l m)

feeds-other : (x : ℕ) (l : List ℕ) → x ≢ 10 → feeds (x ∷ l) ≡ feeds l
unfolding feeds
feeds-other x l d = rw (ne_eqb x 10 d) (omega arith)

feeds-digits : (most n : ℕ) → feeds (digits most n) ≡ 0
unfolding feeds digits
feeds-digits zero n = refl
feeds-digits (suc most) n = elim (dec_lt n 10) [
  | yes h ↦ ap feeds (digits-small most n h) ∙ feeds-other (48 + n) [] (λ e. absurd (omega arith))
  | no h ↦
      ap feeds (digits_more most n (omega arith))
      ∙ feeds-append (digits most (n / 10)) ((48 + n % 10) ∷ [])
      ∙ omega (arith, feeds-digits most (n / 10), feeds-other (48 + n % 10) [] (λ e. absurd (omega arith)))
]

feeds-decimal : (x : ℤ) → feeds (decimal x) ≡ 0
unfolding feeds decimal
feeds-decimal (pos n) = feeds-digits (suc n) n
feeds-decimal (negsuc n) = omega (arith, feeds-digits (suc (suc n)) (suc n))

feeds-spaced : (l : List ℤ) → feeds (spaced l) ≡ 0
unfolding feeds spaced
feeds-spaced [] = refl
feeds-spaced (x ∷ l) = omega (arith, feeds-append (decimal x) (spaced l), feeds-decimal x, feeds-spaced l)

pub feeds-line : (letter : ℕ) (numbers : List ℤ) → letter ≢ 10 → feeds (line letter numbers) ≡ 1
unfolding feeds
feeds-line letter numbers d =
    feeds-other letter (spaced numbers ++ (10 ∷ [])) d ∙ omega (arith, feeds-append (spaced numbers) (10 ∷ []), feeds-spaced numbers)
