-- Laws of `splices`, where no list is longer than the distance and all fit.
--     length-splices     the length stays
--     splices-in         an element of list i
--     splices-between    an element behind list i and before the next is untouched
--     splices-past       so is one past the last list's places
--     splices-same       lists that are the same give the same
--     splices-nothing    empty lists change nothing
--     splices-single     one list is written from the start on
--     splices-each       what holds of each element of all lists holds of the result
use mathlib.Core.Path.{◌≡◌, refl, ◌∙◌, ap₂}
use mathlib.Core.List.{List, [], ◌∷◌, ◌++◌}
use Prim.Native.Nat.{ℕ, zero, suc, ◌+◌, ◌*◌, ◌≤◌, ◌<◌}
use native.Mathlib.Nat.{suc-mul, mul-le-mul_right, zero-mul}
use native.Mathlib.Decide.{dec_lt}
use native.Mathlib.Omega.{arith}
use lib.ListN.{length, get_or, take, drop}
use Rattle.lists.specs.Splice.{splice, splices}
use Rattle.lists.specs.SpliceLaws.{splice-nil, splice-zero, length-splice, get_or-splice, get_or-splice-before, get_or-splice-past}

module _ {ℓ} {A : Type ℓ} where
  pub splices-same : (apart : ℕ) (xs ys : ℕ → List A) (many : ℕ) (l : List A) → ((i : ℕ) → i < many → xs i ≡ ys i) → splices apart xs many l ≡ splices apart ys many l
  unfolding splices
  splices-same apart xs ys zero l same = refl
  splices-same apart xs ys (suc m) l same =
      ap₂ (splice (m * apart)) (same m (omega arith)) (splices-same apart xs ys m l (λ i h. same i (omega arith)))

  pub splices-nothing : (apart : ℕ) (xs : ℕ → List A) (many : ℕ) (l : List A) → ((i : ℕ) → i < many → xs i ≡ []) → splices apart xs many l ≡ l
  unfolding splices
  splices-nothing apart xs zero l none = refl
  splices-nothing apart xs (suc m) l none =
      ap₂ (splice (m * apart)) (none m (omega arith)) (splices-nothing apart xs m l (λ i h. none i (omega arith))) ∙ splice-nil (m * apart) l

  module _ (apart : ℕ) (xs : ℕ → List A) (l : List A) where
    -- the first lists fit
    pub record Fit (many : ℕ) : Type ℓ where
      pub short : (i : ℕ) → i < many → length (xs i) ≤ apart
      pub room : many * apart ≤ length l

    fewer : {m : ℕ} → Fit (suc m) → Fit m
    fewer {m} f = record { short = λ i h. f.short i (omega arith); room = omega (arith, f.room, suc-mul m apart) }

    -- the last of them
    last_fits : {m : ℕ} → Fit (suc m) → m * apart + length (xs m) ≤ length l
    last_fits {m} f = omega (arith, f.room, f.short m (omega arith), suc-mul m apart)

    pub length-splices : (many : ℕ) → Fit many → length (splices apart xs many l) ≡ length l
    unfolding splices
    length-splices zero f = refl
    length-splices (suc m) f =
        let before = length-splices m (fewer f) in
        length-splice (m * apart) (xs m) (splices apart xs m l) (omega (arith, before, last_fits f)) ∙ before

    inside : {m : ℕ} → Fit (suc m) → m * apart ≤ length (splices apart xs m l)
    inside {m} f = omega (arith, length-splices m (fewer f), last_fits f)

    pub splices-past : (many : ℕ) → Fit many → (k : ℕ) (d : A) → many * apart ≤ k → get_or (splices apart xs many l) k d ≡ get_or l k d
    unfolding splices
    splices-past zero f k d h = refl
    splices-past (suc m) f k d h =
        get_or-splice-past (m * apart) (xs m) (splices apart xs m l) (inside f) k d (omega (arith, suc-mul m apart, f.short m (omega arith)))
        ∙ splices-past m (fewer f) k d (omega (arith, suc-mul m apart))

    -- a place of list i comes before those of a later list
    before : (m i j : ℕ) → i < m → j < apart → i * apart + j < m * apart
    before m i j h l = omega (arith, suc-mul i apart, mul-le-mul_right apart h)

    pub splices-in : (many : ℕ) → Fit many → (i j : ℕ) (d : A) → i < many → j < length (xs i) → get_or (splices apart xs many l) (i * apart + j) d ≡ get_or (xs i) j d
    unfolding splices
    splices-in zero f i j d h k = absurd (omega arith)
    splices-in (suc m) f i j d h k = go (dec_lt i m) (λ e. splices-in m (fewer f) i j d e k)
      where
        last : i ≡ m → get_or (splice (m * apart) (xs m) (splices apart xs m l)) (i * apart + j) d ≡ get_or (xs i) j d
        last e = rw e (get_or-splice (m * apart) (xs m) (splices apart xs m l) (inside f) j d (rw e at k))

        go : Dec (i < m) → (i < m → get_or (splices apart xs m l) (i * apart + j) d ≡ get_or (xs i) j d)
            → get_or (splice (m * apart) (xs m) (splices apart xs m l)) (i * apart + j) d ≡ get_or (xs i) j d
        go (yes e) earlier =
            get_or-splice-before (m * apart) (xs m) (splices apart xs m l) (inside f) (i * apart + j) d (before m i j e (omega (arith, f.short i h)))
            ∙ earlier e
        go (no e) earlier = last (omega arith)

    pub splices-between : (many : ℕ) → Fit many → (i j : ℕ) (d : A) → i < many → length (xs i) ≤ j → j < apart
        → get_or (splices apart xs many l) (i * apart + j) d ≡ get_or l (i * apart + j) d
    unfolding splices
    splices-between zero f i j d h k a = absurd (omega arith)
    splices-between (suc m) f i j d h k a = go (dec_lt i m) (λ e. splices-between m (fewer f) i j d e k a)
      where
        last : i ≡ m → get_or (splice (m * apart) (xs m) (splices apart xs m l)) (i * apart + j) d ≡ get_or l (i * apart + j) d
        last e =
            get_or-splice-past (m * apart) (xs m) (splices apart xs m l) (inside f) (i * apart + j) d (rw e (omega (arith, rw e at k)))
            ∙ splices-past m (fewer f) (i * apart + j) d (rw e (omega arith))

        go : Dec (i < m) → (i < m → get_or (splices apart xs m l) (i * apart + j) d ≡ get_or l (i * apart + j) d)
            → get_or (splice (m * apart) (xs m) (splices apart xs m l)) (i * apart + j) d ≡ get_or l (i * apart + j) d
        go (yes e) earlier = get_or-splice-before (m * apart) (xs m) (splices apart xs m l) (inside f) (i * apart + j) d (before m i j e a) ∙ earlier e
        go (no e) earlier = last (omega arith)

-- one list, written from the start on
pub splices-single : {A : Type 0} (apart : ℕ) (xs : ℕ → List A) (l : List A) → splices apart xs 1 l ≡ xs 0 ++ drop (length (xs 0)) l
unfolding splices
splices-single apart xs l = rw (zero-mul apart) (splice-zero (xs 0) l)

-- what holds of each element, and of what stands past the end, of a list and of the lists put over it, holds of the result
module _ {A : Type 0} (P : A → Type 0) (blank : A) (past : P blank) where
  abbrev pub Each : List A → Type 0
  Each l = (k : ℕ) → P (get_or l k blank)

  pub each_append : (l m : List A) → Each l → Each m → Each (l ++ m)
  each_append [] m h g k = g k
  each_append (x ∷ l) m h g zero = h 0
  each_append (x ∷ l) m h g (suc k) = each_append l m (λ i. h (suc i)) g k

  each_take : (n : ℕ) (l : List A) → Each l → Each (take n l)
  each_take zero l h k = past
  each_take (suc n) [] h k = past
  each_take (suc n) (x ∷ l) h zero = h 0
  each_take (suc n) (x ∷ l) h (suc k) = each_take n l (λ i. h (suc i)) k

  each-drop : (n : ℕ) (l : List A) → Each l → Each (drop n l)
  each-drop zero l h = h
  each-drop (suc n) [] h = h
  each-drop (suc n) (x ∷ l) h = each-drop n l (λ i. h (suc i))

  each-splice : (at : ℕ) (xs l : List A) → Each xs → Each l → Each (splice at xs l)
  unfolding splice
  each-splice at xs l h g =
      each_append (take at l) (xs ++ drop (at + length xs) l) (each_take at l g) (each_append xs (drop (at + length xs) l) h (each-drop (at + length xs) l g))

  pub splices-each : (apart : ℕ) (xs : ℕ → List A) (many : ℕ) (l : List A) → ((i : ℕ) → Each (xs i)) → Each l → Each (splices apart xs many l)
  unfolding splices
  splices-each apart xs zero l h g = g
  splices-each apart xs (suc i) l h g = each-splice (i * apart) (xs i) (splices apart xs i l) (h i) (splices-each apart xs i l h g)
