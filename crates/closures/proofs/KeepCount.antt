-- How many cells a choice keeps, and which properties they still have.
--     rising-steps                                         what falls at no step does not fall
--     kept-none, kept_next, kept-stays, kept_goes          none of the cells; one cell more, in general, that stays, that goes
--     length-stays, length-goes, kept-few                  their number; of n cells at most n stay
--     kept-all                                             what all of the first n cells have, those that stay have
--     length-keep, section-keep, count-keep, sized-keep    the sections of the cells that stay
--     cells_below-next, cells_below-within                   the cells of lower dimensions
use mathlib.Core.Path.{◌≡◌, refl, sym, ap, ◌∙◌, subst}
use mathlib.Core.Bool.{Bool, true, false, cond}
use mathlib.Core.List.{List, [], ◌∷◌, ◌++◌, append-nil}
use Prim.Native.Nat.{ℕ, zero, suc, ◌+◌, ◌-◌, ◌≤◌, ◌<◌}
use native.Mathlib.Nat.{add-zero, add-suc, add-sub_of_le, le_refl, le_trans}
use native.Mathlib.Decide.{dec_lt}
use native.Mathlib.Omega.{arith}
use lib.ListN.{length, get_or, length-append, get_or-append, get_or-eq_default}
use lib.Seq.{get_or-append-add}
use Rattle.lists.proofs.TabulateLaws.{length-tabulate, get_or-tabulate, get_or-tabulate-beyond}
use Rattle.complexes.specs.Cell.{Cell}
use Rattle.complexes.specs.Complex.{Sections, section, count, cell}
use Rattle.closures.specs.Rising.{All}
use Rattle.closures.specs.Keep.{kept, keep, cells_below}

-- ---- numbers

-- what falls at no step does not fall
pub rising-steps : (f : ℕ → ℕ) → ((n : ℕ) → f n ≤ f (suc n)) → (n m : ℕ) → n ≤ m → f n ≤ f m
rising-steps f step n m h = subst (λ (k : ℕ). f n ≤ f k) (add-sub_of_le h) (go (m - n))
  where
    go : (k : ℕ) → f n ≤ f (n + k)
    go zero = rw (add-zero n) (le_refl (f n))
    go (suc k) = rw (add-suc n k) (le_trans (go k) (step (n + k)))

-- ---- one section

module _ (keeps : ℕ → Bool) (l : List Cell) where
  pub kept-none : kept keeps l 0 ≡ []
  unfolding kept
  kept-none = refl

  pub kept_next : (n : ℕ) → kept keeps l (suc n) ≡ kept keeps l n ++ cond (keeps n) (get_or l n [] ∷ []) []
  unfolding kept
  kept_next n = refl

  pub kept-stays : (n : ℕ) → keeps n ≡ true → kept keeps l (suc n) ≡ kept keeps l n ++ (get_or l n [] ∷ [])
  kept-stays n e = kept_next n ∙ ap (λ (b : Bool). kept keeps l n ++ cond b (get_or l n [] ∷ []) []) e

  pub kept_goes : (n : ℕ) → keeps n ≡ false → kept keeps l (suc n) ≡ kept keeps l n
  kept_goes n e =
      kept_next n ∙ ap (λ (b : Bool). kept keeps l n ++ cond b (get_or l n [] ∷ []) []) e ∙ append-nil (kept keeps l n)

  pub length-stays : (n : ℕ) → keeps n ≡ true → length (kept keeps l (suc n)) ≡ suc (length (kept keeps l n))
  length-stays n e = omega (arith, ap length (kept-stays n e), length-append (kept keeps l n) (get_or l n [] ∷ []))

  pub length-goes : (n : ℕ) → keeps n ≡ false → length (kept keeps l (suc n)) ≡ length (kept keeps l n)
  length-goes n e = ap length (kept_goes n e)

  pub kept-few : (n : ℕ) → length (kept keeps l n) ≤ n
  kept-few zero = omega (arith, ap length kept-none)
  kept-few (suc n) = pick (keeps n) refl (kept-few n)
    where
      pick : (b : Bool) → keeps n ≡ b → length (kept keeps l n) ≤ n → length (kept keeps l (suc n)) ≤ suc n
      pick true e h = omega (arith, length-stays n e)
      pick false e h = omega (arith, length-goes n e)

  pub kept-all : (P : Cell → Type 0) (n : ℕ) → ((i : ℕ) → i < n → P (get_or l i [])) → All P [] (kept keeps l n)
  kept-all P zero h = λ i k. absurd (omega (arith, ap length kept-none))
  kept-all P (suc n) h = pick (keeps n) refl (kept-all P n (λ i k. h i (omega arith)))
    where
      pick : (b : Bool) → keeps n ≡ b → All P [] (kept keeps l n) → All P [] (kept keeps l (suc n))
      pick false e a = rw (kept_goes n e) a
      pick true e a = rw (kept-stays n e) snoc
        where
          snoc : All P [] (kept keeps l n ++ (get_or l n [] ∷ []))
          snoc i k = at (dec_lt i (length (kept keeps l n)))
            where
              at : Dec (i < length (kept keeps l n)) → P (get_or (kept keeps l n ++ (get_or l n [] ∷ [])) i [])
              at (yes m) = rw (get_or-append (kept keeps l n) (get_or l n [] ∷ []) [] i m) (a i m)
              at (no m) =
                  let last : i ≡ length (kept keeps l n) + 0 = omega (arith, length-append (kept keeps l n) (get_or l n [] ∷ [])) in
                  rw (last, get_or-append-add (kept keeps l n) (get_or l n [] ∷ []) 0 []) (h n (omega arith))

-- ---- all sections

module _ (keeps : ℕ → ℕ → Bool) (K : Sections) where
  pub length-keep : length (keep keeps K) ≡ length K
  unfolding keep
  length-keep = length-tabulate (length K) (λ p. kept (keeps p) (section K p) (count K p))

  pub section-keep : (p : ℕ) → section (keep keeps K) p ≡ kept (keeps p) (section K p) (count K p)
  unfolding keep
  section-keep p = pick (dec_lt p (length K))
    where
      pick : Dec (p < length K) → section (keep keeps K) p ≡ kept (keeps p) (section K p) (count K p)
      pick (yes l) = get_or-tabulate (length K) (λ q. kept (keeps q) (section K q) (count K q)) p [] l
      pick (no l) =
          get_or-tabulate-beyond (length K) (λ q. kept (keeps q) (section K q) (count K q)) p [] (omega arith)
          ∙ sym (kept-none (keeps p) (section K p))
          ∙ ap (kept (keeps p) (section K p)) (sym (ap length (get_or-eq_default K [] {n = p} (omega arith))))

  pub count-keep : (p : ℕ) → count (keep keeps K) p ≤ count K p
  count-keep p = omega (arith, ap length (section-keep p), kept-few (keeps p) (section K p) (count K p))

  pub sized-keep : (p n : ℕ) → ((i : ℕ) → i < count K p → length (cell K p i) ≡ n) → (i : ℕ) → i < count (keep keeps K) p
      → length (cell (keep keeps K) p i) ≡ n
  sized-keep p n h = rw (section-keep p) (kept-all (keeps p) (section K p) (λ c. length c ≡ n) (count K p) h)

-- ---- the cells of lower dimensions

pub cells_below-next : (n : ℕ → ℕ) (p : ℕ) → cells_below n (suc p) ≡ cells_below n p + n p
unfolding cells_below
cells_below-next n p = refl

cells_below-mono : (n : ℕ → ℕ) (p q : ℕ) → p ≤ q → cells_below n p ≤ cells_below n q
cells_below-mono n = rising-steps (cells_below n) (λ p. omega (arith, cells_below-next n p))

-- the cells of dimension p stand before those of a higher one
pub cells_below-within : (n : ℕ → ℕ) (p q : ℕ) → p < q → cells_below n p + n p ≤ cells_below n q
cells_below-within n p q h = omega (arith, cells_below-next n p, cells_below-mono n (suc p) q h)
