-- Bytes written one behind the other, and the parts of a sheet as such.
--     splice-behind                                                         bytes put over just behind others
--     cell_bytes-next, section_bytes-next, sections_bytes-next, header-next    one vertex, one cell, one section, one entry of the header more
--     section_bytes-append, section_bytes-one, sections_bytes-le               some cells and more of them, one cell, some of the sections
--     layout-put                                                            the sections behind the header
--     start_small, header-fits, section-fits, counts-small                  where the sections of a set start, and its counts
--     counts-are, length-sections, length-held                              the counts of the cells held, and the length of their sheet
use mathlib.Core.Path.{◌≡◌, refl, sym, ap, ap₂, ◌∙◌, fun_ext}
use mathlib.Core.List.{List, [], ◌∷◌, ◌++◌, append_assoc, append-nil}
use Prim.Native.Nat.{ℕ, zero, suc, ◌+◌, ◌*◌, ◌≤◌, ◌<◌}
use native.Mathlib.Nat.{add-zero, zero-add}
use native.Mathlib.Decide.{dec_lt}
use native.Mathlib.Omega.{arith}
use lib.ListN.{length, get_or, take, drop, length-append, take-append-drop, get_or-eq_default}
use lib.Seq.{take-suc, take_all}
use Rattle.limits.specs.Limits.{library_limit}
use Rattle.lists.specs.Splice.{splice}
use Rattle.lists.specs.SpliceLaws.{splice-zero, splice-splice}
use Rattle.complexes.specs.Cell.{Cell}
use Rattle.complexes.specs.Complex.{Sections, section, count}
use Rattle.sheet_format.specs.Layout.{top, header_length, field, cell_bytes, section_bytes, sections_bytes, start, header_bytes, layout, longest}
use Rattle.sheet_format.proofs.LayoutLaws.{length-header_bytes, length-section_bytes, length-parts}
use Rattle.sheet_format.specs.SheetLaws.{count-beyond, start-mono, start-le}
use Rattle.cell_sets.specs.Set.{Holds}
use Rattle.cell_sets.specs.declared.set.CellSet.{CellSet}
use Rattle.sheet_writer.specs.Write.{count_of, Small}

pub splice-behind : (at place : ℕ) (xs ys l l' l'' : List ℕ) → at ≤ length l → place ≡ at + length xs → l' ≡ splice at xs l → l'' ≡ splice place ys l'
    → l'' ≡ splice at (xs ++ ys) l
splice-behind at place xs ys l l' l'' h e p q =
    q ∙ ap₂ (λ (n : ℕ) (t : List ℕ). splice n ys t) e p ∙ splice-splice at xs l h ys

-- ---- lists written element by element

module _ {A : Type 0} (d : A) (bytes : List A → List ℕ) (one : A → List ℕ) (none : bytes [] ≡ [])
    (next : (x : A) (l : List A) → bytes (x ∷ l) ≡ one x ++ bytes l) where
  bytes-append : (l m : List A) → bytes (l ++ m) ≡ bytes l ++ bytes m
  bytes-append [] m = ap (λ (t : List ℕ). t ++ bytes m) (sym none)
  bytes-append (x ∷ l) m =
      next x (l ++ m)
      ∙ ap (λ (t : List ℕ). one x ++ t) (bytes-append l m)
      ∙ sym (append_assoc (one x) (bytes l) (bytes m))
      ∙ ap (λ (t : List ℕ). t ++ bytes m) (sym (next x l))

  bytes_one : (x : A) → bytes (x ∷ []) ≡ one x
  bytes_one x = next x [] ∙ ap (λ (t : List ℕ). one x ++ t) none ∙ append-nil (one x)

  bytes_next : (l : List A) (i : ℕ) → i < length l → bytes (take (suc i) l) ≡ bytes (take i l) ++ one (get_or l i d)
  bytes_next l i h =
      ap bytes (take-suc l i d h)
      ∙ bytes-append (take i l) (get_or l i d ∷ [])
      ∙ ap (λ (t : List ℕ). bytes (take i l) ++ t) (bytes_one (get_or l i d))

pub cell_bytes-next : (c : Cell) (j : ℕ) → j < length c → cell_bytes (take (suc j) c) ≡ cell_bytes (take j c) ++ field (get_or c j 0)
unfolding cell_bytes
cell_bytes-next = bytes_next 0 cell_bytes field refl (λ v c. refl)

pub section_bytes-next : (l : List Cell) (i : ℕ) → i < length l → section_bytes (take (suc i) l) ≡ section_bytes (take i l) ++ cell_bytes (get_or l i [])
unfolding section_bytes
section_bytes-next = bytes_next [] section_bytes cell_bytes refl (λ c l. refl)

pub sections_bytes-next : (K : Sections) (p : ℕ) → p < length K
    → sections_bytes (take (suc p) K) ≡ sections_bytes (take p K) ++ section_bytes (section K p)
unfolding sections_bytes
sections_bytes-next = bytes_next [] sections_bytes section_bytes refl (λ l K. refl)

pub section_bytes-append : (l m : List Cell) → section_bytes (l ++ m) ≡ section_bytes l ++ section_bytes m
unfolding section_bytes
section_bytes-append = bytes-append [] section_bytes cell_bytes refl (λ c l. refl)

pub section_bytes-one : (c : Cell) → section_bytes (c ∷ []) ≡ cell_bytes c
unfolding section_bytes
section_bytes-one = bytes_one [] section_bytes cell_bytes refl (λ c l. refl)

-- the first sections take no more than all
pub sections_bytes-le : (K : Sections) (p : ℕ) → length (sections_bytes (take p K)) ≤ length (sections_bytes K)
unfolding sections_bytes
sections_bytes-le K p =
    omega (
      arith,
      ap (λ (t : Sections). length (sections_bytes t)) (take-append-drop p K),
      ap length (bytes-append [] sections_bytes section_bytes refl (λ l L. refl) (take p K) (drop p K)),
      length-append (sections_bytes (take p K)) (sections_bytes (drop p K)),
    )

-- ---- the header

entries : (n : ℕ → ℕ) (q more : ℕ) → header_bytes n q (suc more) ≡ header_bytes n q more ++ (field (n (q + more)) ++ field (start n (q + more)))
unfolding header_bytes
entries n q zero = rw (add-zero q)
entries n q (suc more) =
    ap (λ (t : List ℕ). field (n q) ++ (field (start n q) ++ t))
    (entries n (suc q) more ∙ ap (λ (p : ℕ). header_bytes n (suc q) more ++ (field (n p) ++ field (start n p))) place)
  where
    place : suc q + more ≡ q + suc more
    place = omega arith

pub header-next : (n : ℕ → ℕ) (p : ℕ) → header_bytes n 0 (suc p) ≡ header_bytes n 0 p ++ (field (n p) ++ field (start n p))
header-next n p = rw (zero-add p) at (entries n 0 p)

-- the sections put over behind the header
pub layout-put : (K : Sections) {n : ℕ → ℕ} → n ≡ count K → (s s' s'' : List ℕ) → s' ≡ splice 0 (header_bytes n 0 (suc top)) s
    → s'' ≡ splice header_length (sections_bytes K) s' → s'' ≡ layout K ++ drop (length (layout K)) s
unfolding layout
layout-put K e s s' s'' first second =
    splice-behind 0 header_length (header_bytes (count K) 0 (suc top)) (sections_bytes K) s s' s'' (omega arith)
    (omega (arith, length-header_bytes (count K) (suc top)))
    (first ∙ ap (λ (n : ℕ → ℕ). splice 0 (header_bytes n 0 (suc top)) s) e) second
    ∙ splice-zero (layout K) s

-- ---- the cells held

pub start-next : (n : ℕ → ℕ) (p : ℕ) → start n (suc p) ≡ start n p + 2 * (suc p * n p)
unfolding start
start-next n p = refl

pub start_small : (n : ℕ → ℕ) → ((p : ℕ) → p ≤ top → n p ≤ library_limit) → (p : ℕ) → p ≤ suc top → start n p ≤ longest library_limit
start_small n small p h = omega (arith, start-mono n p (suc top) h, start-le n library_limit (suc top) (λ q l. small q (omega arith)))

-- the sections of a set end within its sheet
pub section-fits : (s : CellSet) (p : ℕ) → p ≤ top → start (count_of s.counts) p + 2 * (suc p * count_of s.counts p) ≤ start (count_of s.counts) (suc top)
section-fits s p h = omega (arith, start-next (count_of s.counts) p, start-mono (count_of s.counts) (suc p) (suc top) (omega arith))

pub header-fits : (s : CellSet) → header_length ≤ start (count_of s.counts) (suc top)
unfolding start
header-fits s = omega (arith, start-mono (count_of s.counts) 0 (suc top) (omega arith))

pub counts-small : (s : CellSet) → Small s.counts
counts-small s = record { within = λ p l. omega (arith, (s.rise p l).0, s.small) }

module _ {s : CellSet} {K : Sections} (holds : Holds s K) where
  pub counts-are : count_of s.counts ≡ count K
  counts-are = fun_ext (λ p. at p (dec_lt p (suc top)))
    where
      at : (p : ℕ) → Dec (p < suc top) → count_of s.counts p ≡ count K p
      at p (yes l) = (holds.sections p (omega arith)).counted
      at p (no l) =
          get_or-eq_default s.counts 0 {n = p} (omega (arith, holds.sized)) ∙ sym (count-beyond K p (omega (arith, holds.dimensions)))

  -- the first p sections end where the next one starts
  pub length-sections : (p : ℕ) → p ≤ suc top → header_length + length (sections_bytes (take p K)) ≡ start (count K) p
  unfolding start sections_bytes
  length-sections zero h = refl
  length-sections (suc p) h =
      omega (
        arith,
        ap length (sections_bytes-next K p (omega (arith, holds.dimensions))),
        length-append (sections_bytes (take p K)) (section_bytes (section K p)),
        length-sections p (omega arith),
        length-section_bytes (suc p) (section K p) (λ i l. ((holds.sections p (omega arith)).vertices i l).sized),
      )

  pub length-held : length (layout K) ≡ start (count_of s.counts) (suc top)
  length-held =
      length-parts K
      ∙ ap (λ (t : Sections). header_length + length (sections_bytes t)) (sym (take_all (suc top) K (omega (arith, holds.dimensions))))
      ∙ length-sections (suc top) (omega arith)
      ∙ ap (λ (n : ℕ → ℕ). start n (suc top)) (sym counts-are)
