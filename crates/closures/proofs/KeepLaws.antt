-- Laws of kept cells.
--     KeptAt, kept-listed     a cell stands among those kept exactly when its place is kept
--     kept-rising             they rise if the list does
--     kept_whole              where every place is kept, they are all of them
--     keep-listed, keep-whole, keep-ext     the same for the sections of a complex, and for two choices that agree
--     keep-complex            where the faces of each cell kept are kept, they are a complex
use mathlib.Core.Path.{◌≡◌, refl, sym, ap, ap₂, ◌∙◌}
use mathlib.Core.Logic.{◌↔◌, ◌⊎◌, inl, inr}
use mathlib.Core.Bool.{Bool, true, false, cond, false≢true}
use mathlib.Core.List.{List, [], ◌∷◌, ◌++◌, append-nil}
use Prim.Native.Nat.{ℕ, zero, suc, ◌≤◌, ◌<◌}
use native.Mathlib.Decide.{dec_lt, ℕ_discrete}
use native.Mathlib.Omega.{arith}
use lib.ListN.{length, get_or, take, length-append, get_or-append}
use lib.Seq.{take-suc, take-length, ext_get_or, get_or-append-add}
use Rattle.lists.proofs.TabulateLaws.{tabulate-ext}
use Rattle.complexes.specs.Cell.{Cell, without, precedes, Listed}
use Rattle.complexes.specs.Complex.{Sections, section, count, cell, Complex}
use Rattle.closures.specs.Rising.{Rising}
use Rattle.closures.specs.Keep.{kept, keep}
use Rattle.closures.proofs.KeepCount.{length-keep, section-keep, count-keep}
use Rattle.closures.proofs.RisingLaws.{Stands, listed-stands, stands-append, stands_at, stands-cases, stands-nil, rising-before, cells-order}

-- c stands at a place below n of the list that the choice keeps
pub record KeptAt (keeps : ℕ → Bool) (l : List Cell) (n : ℕ) (c : Cell) : Type 0 where
  pub place : ℕ
  pub below : place < n
  pub stays : keeps place ≡ true
  pub is : get_or l place [] ≡ c

-- ---- one list

module _ (keeps : ℕ → Bool) (l : List Cell) where
  -- the cell at place n, if the choice keeps it
  abbrev last : ℕ → List Cell
  last n = cond (keeps n) (get_or l n [] ∷ []) []

  last-stands : (n : ℕ) (c : Cell) → Stands [] c (last n) ↔ ((keeps n ≡ true) × (get_or l n [] ≡ c))
  last-stands n c = (λ h. to (keeps n) refl h, λ h. from (keeps n) h.0 h.1)
    where
      one : Stands [] c (get_or l n [] ∷ []) → get_or l n [] ≡ c
      one h = pick (stands-cases h)
        where
          pick : (c ≡ get_or l n []) ⊎ Stands [] c [] → get_or l n [] ≡ c
          pick (inl e) = sym e
          pick (inr h) = absurd (stands-nil h)

      to : (t : Bool) → keeps n ≡ t → Stands [] c (cond t (get_or l n [] ∷ []) []) → (keeps n ≡ true) × (get_or l n [] ≡ c)
      to true e h = (e, one h)
      to false e h = absurd (stands-nil h)

      from : (t : Bool) → t ≡ true → get_or l n [] ≡ c → Stands [] c (cond t (get_or l n [] ∷ []) [])
      from true e q = record { place = 0; below = omega arith; is = q }
      from false e q = absurd (false≢true e)

  pub kept-stands : (n : ℕ) (c : Cell) → Stands [] c (kept keeps l n) ↔ KeptAt keeps l n c
  unfolding kept
  kept-stands zero c = (λ h. absurd (stands-nil h), λ h. absurd (omega (arith, h.below)))
  kept-stands (suc n) c = (
    λ h. to (kept-stands n c).0 ((stands-append c (kept keeps l n) (last n)).0 h),
    λ h. (stands-append c (kept keeps l n) (last n)).1 (from (kept-stands n c).1 h (ℕ_discrete h.place n)),
  )
    where
      to : (Stands [] c (kept keeps l n) → KeptAt keeps l n c) → Stands [] c (kept keeps l n) ⊎ Stands [] c (last n) → KeptAt keeps l (suc n) c
      to earlier (inl h) = let k = earlier h in record { place = k.place; below = omega (arith, k.below); stays = k.stays; is = k.is }
      to earlier (inr h) = let k = (last-stands n c).0 h in record { place = n; below = omega arith; stays = k.0; is = k.1 }

      from : (KeptAt keeps l n c → Stands [] c (kept keeps l n)) → (h : KeptAt keeps l (suc n) c) → Dec (h.place ≡ n) → Stands [] c (kept keeps l n) ⊎ Stands [] c (last n)
      from earlier h (yes e) = inr ((last-stands n c).1 (rw e at h.stays, rw e at h.is))
      from earlier h (no d) = inl (earlier (record { place = h.place; below = omega (arith, h.below); stays = h.stays; is = h.is }))

  pub kept-listed : (n : ℕ) (c : Cell) → Listed c (kept keeps l n) ↔ KeptAt keeps l n c
  kept-listed n c = (λ h. (kept-stands n c).0 (listed-stands.0 h), λ h. listed-stands.1 ((kept-stands n c).1 h))

  -- a cell behind a list that rises, all of whose cells are before it
  rising-last : (m : List Cell) (x : Cell) → Rising precedes [] m → ((y : Cell) → Stands [] y m → precedes y x ≡ true) → Rising precedes [] (m ++ (x ∷ []))
  rising-last m x r before i h = pick (dec_lt (suc i) (length m))
    where
      here : i < length m
      here = omega (arith, h, length-append m (x ∷ []))

      pick : Dec (suc i < length m) → precedes (get_or (m ++ (x ∷ [])) i []) (get_or (m ++ (x ∷ [])) (suc i) []) ≡ true
      pick (yes k) = rw (get_or-append m (x ∷ []) [] i here, get_or-append m (x ∷ []) [] (suc i) k) (r i k)
      pick (no k) =
          let at : get_or (m ++ (x ∷ [])) (suc i) [] ≡ x = ap (λ (j : ℕ). get_or (m ++ (x ∷ [])) j []) (omega (arith, here)) ∙ get_or-append-add m (x ∷ []) 0 [] in
          rw (get_or-append m (x ∷ []) [] i here, at) (before (get_or m i []) (stands_at m i here))

  pub kept-rising : Rising precedes [] l → (n : ℕ) → n ≤ length l → Rising precedes [] (kept keeps l n)
  unfolding kept
  kept-rising r zero h = λ i b. absurd (omega arith)
  kept-rising r (suc n) h = go (keeps n) (kept-rising r n (omega arith))
    where
      earlier : (y : Cell) → Stands [] y (kept keeps l n) → precedes y (get_or l n []) ≡ true
      earlier y s = let k = (kept-stands n y).0 s in rw k.is at (rising-before precedes cells-order [] l r k.place n k.below (omega arith))

      go : (t : Bool) → Rising precedes [] (kept keeps l n) → Rising precedes [] (kept keeps l n ++ cond t (get_or l n [] ∷ []) [])
      go true rising = rising-last (kept keeps l n) (get_or l n []) rising earlier
      go false rising = rw (append-nil (kept keeps l n)) rising

  kept-take : (n : ℕ) → n ≤ length l → ((i : ℕ) → i < n → keeps i ≡ true) → kept keeps l n ≡ take n l
  unfolding kept
  kept-take zero h e = refl
  kept-take (suc n) h e =
      rw (e n (omega arith)) (ap (λ (m : List Cell). m ++ (get_or l n [] ∷ [])) (kept-take n (omega arith) (λ i k. e i (omega arith))) ∙ sym (take-suc l n [] h))

  pub kept_whole : ((i : ℕ) → i < length l → keeps i ≡ true) → kept keeps l (length l) ≡ l
  kept_whole e = kept-take (length l) (omega arith) e ∙ take-length l

-- ---- the sections of a complex

module _ (keeps : ℕ → ℕ → Bool) (K : Sections) where
  pub keep-listed : (p : ℕ) (c : Cell) → Listed c (section (keep keeps K) p) ↔ KeptAt (keeps p) (section K p) (count K p) c
  keep-listed p c = rw (section-keep keeps K p) (kept-listed (keeps p) (section K p) (count K p) c)

  pub keep-whole : ((p i : ℕ) → i < count K p → keeps p i ≡ true) → keep keeps K ≡ K
  keep-whole e =
      ext_get_or [] (keep keeps K) K (length-keep keeps K) (λ p _. section-keep keeps K p ∙ kept_whole (keeps p) (section K p) (λ i h. e p i h))

  -- cell i of those kept is one of K's
  cell-kept : (p i : ℕ) → i < count (keep keeps K) p → KeptAt (keeps p) (section K p) (count K p) (cell (keep keeps K) p i)
  cell-kept p i h = (keep-listed p (cell (keep keeps K) p i)).0 (record { place = i; below = h; is = refl })

  pub keep-complex : {top limit : ℕ} → Complex top limit K
      → ((p i j : ℕ) → i < count K (suc p) → keeps (suc p) i ≡ true → j < suc (suc p) → KeptAt (keeps p) (section K p) (count K p) (without j (cell K (suc p) i)))
      → Complex top limit (keep keeps K)
  keep-complex {top} {limit} complex faces = record {
    dimensions = length-keep keeps K ∙ complex.dimensions;
    within = λ p. omega (arith, count-keep keeps K p, complex.within p);
    sized = λ p i h. let k = cell-kept p i h in rw (sym k.is) (complex.sized p k.place k.below);
    numbered = λ p i j h m. let k = cell-kept p i h in rw (sym k.is) (complex.numbered p k.place j k.below m);
    rising = λ p i h. let k = cell-kept p i h in rw (sym k.is) (complex.rising p k.place k.below);
    ordered = λ p i h. rw (section-keep keeps K p)
        (kept-rising (keeps p) (section K p) (complex.ordered p) (count K p) (omega arith) i (rw (section-keep keeps K p) at h));
    closed = λ p i j h m.
        let k = cell-kept (suc p) i h in
        (keep-listed p (without j (cell (keep keeps K) (suc p) i))).1
        (rw (sym k.is) (faces p k.place j k.below k.stays m));
  }

-- two choices that agree on the cells keep the same
kept-ext : (f g : ℕ → Bool) (l : List Cell) (n : ℕ) → ((i : ℕ) → i < n → f i ≡ g i) → kept f l n ≡ kept g l n
unfolding kept
kept-ext f g l zero e = refl
kept-ext f g l (suc n) e =
    ap₂ (λ (m : List Cell) (t : Bool). m ++ cond t (get_or l n [] ∷ []) []) (kept-ext f g l n (λ i h. e i (omega arith))) (e n (omega arith))

pub keep-ext : (f g : ℕ → ℕ → Bool) (K : Sections) → ((p i : ℕ) → i < count K p → f p i ≡ g p i) → keep f K ≡ keep g K
unfolding keep
keep-ext f g K e =
    tabulate-ext (length K) (λ p. kept (f p) (section K p) (count K p)) (λ p. kept (g p) (section K p) (count K p))
    (λ p _. kept-ext (f p) (g p) (section K p) (count K p) (e p))
