-- Lists made of pieces, one after another, and where each piece stands.
--     Carries             the list b holds the list s from place `at` on
--     pieces            part 0, .., part (n - 1), joined
--     carries-pieces      b holds the joined pieces exactly when it holds each where it starts
--     length-pieces     the length of the joined pieces
use mathlib.Core.Path.{◌≡◌, refl, sym, ap, ◌∙◌, subst, ap₂}
use mathlib.Core.Logic.{◌↔◌}
use mathlib.Core.List.{List, [], ◌++◌}
use Prim.Native.Nat.{ℕ, zero, suc, ◌+◌, ◌-◌, ◌<◌, suc-le-suc}
use native.Mathlib.Nat.{le_of_suc-le-suc, not-suc-le-zero, zero-lt-suc, add_assoc, add-zero, zero-add}
use native.Mathlib.Decide.{dec_lt}
use native.Mathlib.Omega.{arith}
use lib.ListN.{length, get_or, length-append, get_or-append}
use lib.Seq.{get_or-append-add, ext_get_or}
use Rattle.sheet_format.specs.Sheet.{Bytes}

-- b holds s from place `at` on
pub record Carries (b : List ℕ) (at : ℕ) (s : List ℕ) : Type 0 where
  pub agree : (r : ℕ) → r < length s → get_or b (at + r) 0 ≡ get_or s r 0

pub carries-self : (b : List ℕ) → Carries b 0 b
carries-self b = record { agree = λ r h. ap (λ (i : ℕ). get_or b i 0) (zero-add r) }

pub carries-all : (b s : List ℕ) → Carries b 0 s → length s ≡ length b → s ≡ b
carries-all b s h e = ext_get_or 0 s b e (λ i k. sym (h.agree i k) ∙ ap (λ (i : ℕ). get_or b i 0) (zero-add i))

pub carries-append : (b : List ℕ) (at : ℕ) (s t : List ℕ) → Carries b at (s ++ t) ↔ Carries b at s × Carries b (at + length s) t
carries-append b at s t = (λ h. (first h, second h), λ k. record { agree = λ r l. both k r (dec_lt r (length s)) l })
  where
    first : Carries b at (s ++ t) → Carries b at s
    first h = record { agree = λ r l. h.agree r (omega (arith, length-append s t)) ∙ get_or-append s t 0 r l }

    second : Carries b at (s ++ t) → Carries b (at + length s) t
    second h = record {
      agree = λ r l.
          ap (λ (i : ℕ). get_or b i 0) (add_assoc at (length s) r) ∙ h.agree (length s + r) (omega (arith, length-append s t)) ∙ get_or-append-add s t r 0;
    }

    both : Carries b at s × Carries b (at + length s) t → (r : ℕ) → Dec (r < length s) → r < length (s ++ t) → get_or b (at + r) 0 ≡ get_or (s ++ t) r 0
    both k r (yes l) _ = k.0.agree r l ∙ sym (get_or-append s t 0 r l)
    both k r (no l) m =
        let e : length s + (r - length s) ≡ r = omega arith in
        ap (λ (i : ℕ). get_or b i 0) (omega arith)
        ∙ k.1.agree (r - length s) (omega (arith, length-append s t))
        ∙ sym (get_or-append-add s t (r - length s) 0)
        ∙ ap (λ (i : ℕ). get_or (s ++ t) i 0) e

-- ---- pieces

unfoldable pub pieces : ℕ → (ℕ → List ℕ) → List ℕ
pieces zero part = []
pieces (suc n) part = part zero ++ pieces n (λ i. part (suc i))

pub pieces-ext : (n : ℕ) (part other : ℕ → List ℕ) → ((i : ℕ) → i < n → part i ≡ other i) → pieces n part ≡ pieces n other
unfolding pieces
pieces-ext zero part other e = refl
pieces-ext (suc n) part other e =
    ap₂ ◌++◌ (e 0 (zero-lt-suc n)) (pieces-ext n (λ i. part (suc i)) (λ i. other (suc i)) (λ i h. e (suc i) (suc-le-suc h)))

-- piece i starts at the place `at i`
pub record Starts (n : ℕ) (at : ℕ → ℕ) (part : ℕ → List ℕ) : Type 0 where
  pub next : (i : ℕ) → i < n → at (suc i) ≡ at i + length (part i)

starts-later : (n : ℕ) (at : ℕ → ℕ) (part : ℕ → List ℕ) → Starts (suc n) at part → Starts n (λ i. at (suc i)) (λ i. part (suc i))
starts-later n at part h = record { next = λ i k. h.next (suc i) (suc-le-suc k) }

pub length-pieces : (n : ℕ) (at : ℕ → ℕ) (part : ℕ → List ℕ) → Starts n at part → at 0 + length (pieces n part) ≡ at n
unfolding pieces
length-pieces zero at part h = add-zero (at 0)
length-pieces (suc n) at part h =
    omega (
      arith,
      length-append (part zero) (pieces n (λ i. part (suc i))),
      h.next 0 (zero-lt-suc n),
      length-pieces n (λ i. at (suc i)) (λ i. part (suc i)) (starts-later n at part h),
    )

pub carries-pieces : (b : List ℕ) (n : ℕ) (at : ℕ → ℕ) (part : ℕ → List ℕ) → Starts n at part
    → Carries b (at 0) (pieces n part) ↔ ((i : ℕ) → i < n → Carries b (at i) (part i))
unfolding pieces
carries-pieces b zero at part h = (λ k i l. absurd (not-suc-le-zero l), λ k. record { agree = λ r l. absurd (not-suc-le-zero l) })
carries-pieces b (suc n) at part h =
    join (carries-pieces b n (λ i. at (suc i)) (λ i. part (suc i)) (starts-later n at part h))
  where
    step : at 1 ≡ at 0 + length (part 0)
    step = h.next 0 (zero-lt-suc n)

    cut : Carries b (at 0) (part 0 ++ pieces n (λ i. part (suc i)))
        ↔ Carries b (at 0) (part 0) × Carries b (at 0 + length (part 0)) (pieces n (λ i. part (suc i)))
    cut = carries-append b (at 0) (part 0) (pieces n (λ i. part (suc i)))

    cases : Carries b (at 0) (part 0) → ((i : ℕ) → i < n → Carries b (at (suc i)) (part (suc i))) → (i : ℕ) → i < suc n → Carries b (at i) (part i)
    cases a c zero l = a
    cases a c (suc i) l = c i (le_of_suc-le-suc l)

    join : Carries b (at 1) (pieces n (λ i. part (suc i))) ↔ ((i : ℕ) → i < n → Carries b (at (suc i)) (part (suc i)))
        → Carries b (at 0) (part 0 ++ pieces n (λ i. part (suc i))) ↔ ((i : ℕ) → i < suc n → Carries b (at i) (part i))
    join rest = (
      λ k. cases (cut.0 k).0 (rest.0 (rw step (cut.0 k).1)),
      λ k. cut.1 (k 0 (zero-lt-suc n), rw (← step) (rest.1 (λ i l. k (suc i) (suc-le-suc l)))),
    )

-- ---- bytes

pub bytes-append : (s t : List ℕ) → Bytes s → Bytes t → Bytes (s ++ t)
bytes-append s t h k = record { small = λ i. pick i (dec_lt i (length s)) }
  where
    pick : (i : ℕ) → Dec (i < length s) → get_or (s ++ t) i 0 < 256
    pick i (yes l) = rw (get_or-append s t 0 i l) (h.small i)
    pick i (no l) =
        let e : length s + (i - length s) ≡ i = omega arith in
        subst (λ (r : ℕ). get_or (s ++ t) r 0 < 256) e (rw (get_or-append-add s t (i - length s) 0) (k.small (i - length s)))

pub bytes-pieces : (n : ℕ) (part : ℕ → List ℕ) → ((i : ℕ) → i < n → Bytes (part i)) → Bytes (pieces n part)
unfolding pieces
bytes-pieces zero part h = record { small = λ i. omega arith }
bytes-pieces (suc n) part h =
    bytes-append (part 0) (pieces n (λ i. part (suc i))) (h 0 (zero-lt-suc n)) (bytes-pieces n (λ i. part (suc i)) (λ i l. h (suc i) (suc-le-suc l)))
