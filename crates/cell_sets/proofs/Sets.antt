-- The sections of a set that holds the cells of a complex.
--     section-ends, holds-word                    where a section ends, and the word of a cell
--     put-rise, kept-rise, adds, adds_none        what a set is after a word was inserted into a section
use mathlib.Core.Path.{◌≡◌, refl, sym, ap, ◌∙◌}
use mathlib.Core.List.{List, [], ◌∷◌, ◌++◌, map}
use Prim.Native.Nat.{ℕ, suc, ◌+◌, ◌*◌, ◌≤◌, ◌<◌}
use native.Mathlib.Nat.{suc-mul, mul-le-mul_right}
use native.Mathlib.Decide.{ℕ_discrete, dec_lt}
use native.Mathlib.Omega.{arith}
use borrow.Rule.Slice.PartMut.{put_mid}
use lib.Dec.{ltb}
use lib.ListN.{length, get_or, take, drop, set, length-set, length-map, get_or-map, take-append-drop}
use lib.Seq.{length-take-le, take-take, take-append_seam, drop_at, ext_get_or, get_or-set_same, get_or-set_other}
use Rattle.limits.specs.Limits.{library_limit}
use Rattle.lists.specs.Splice.{splice}
use Rattle.lists.specs.SpliceLaws.{length-splice, get_or-splice-before, get_or-splice-past}
use Rattle.complexes.specs.Cell.{Cell, precedes}
use Rattle.complexes.specs.Complex.{Sections, section}
use Rattle.complexes.specs.Packed.{packed}
use Rattle.closures.specs.Closure.{element_top}
use Rattle.closures.specs.Insert.{insert, insert_all}
use Rattle.closures.specs.Rising.{All, Rising, HasVertices}
use Rattle.closures.proofs.RisingLaws.{cells-order, numbers-order}
use Rattle.closures.proofs.InsertLaws.{insert-rising, insert_all_lem}
use Rattle.closures.proofs.PackedInsertLaws.{precedes-words, insert-words}
use Rattle.cells.specs.Word.{Packs}
use Rattle.cell_sets.specs.Words.{part, Rise}
use Rattle.cell_sets.specs.Insert.{Puts, Lacks}
use Rattle.cell_sets.specs.Set.{HoldsSection, Holds, adding, Overfull}
use Rattle.cell_sets.specs.declared.set.CellSet.{CellSet}
use Rattle.cell_sets.proofs.Words.{length_part, get_or-part, splice-part}

-- ---- where the sections stand

pub section-ends : (limit p : ℕ) (words : List ℕ) → suc element_top * limit ≤ length words → p ≤ element_top → p * limit + limit ≤ length words
section-ends limit p words room h = omega (arith, suc-mul p limit, mul-le-mul_right {m = suc p} {n = suc element_top} limit (omega arith))

-- a place of section q is before those of a later section p, or behind those of an earlier one
before : (limit p q i : ℕ) → i < limit → q < p → q * limit + i < p * limit
before limit p q i h l = omega (arith, suc-mul q limit, mul-le-mul_right {m = suc q} {n = p} limit l)

behind : (limit p q i : ℕ) → p < q → p * limit + limit ≤ q * limit + i
behind limit p q i l = omega (arith, suc-mul p limit, mul-le-mul_right {m = suc p} {n = q} limit l)

-- ---- other words put over those of section p

module _ (limit p : ℕ) (ws words : List ℕ) (fit : p * limit + limit ≤ length words) (few : length ws ≤ limit) where
  abbrev after : List ℕ
  after = splice (p * limit) ws words

  long : length after ≡ length words
  long = length-splice (p * limit) ws words (omega arith)

  part_same : part (p * limit) (length ws) after ≡ ws
  unfolding splice
  part_same =
      ap (take (length ws))
      (drop_at (take (p * limit) words) (ws ++ drop (p * limit + length ws) words) (p * limit)
      (length-take-le (p * limit) words (omega arith)))
      ∙ take-append_seam ws (drop (p * limit + length ws) words)

  part-other : (q n : ℕ) → (q ≡ p → ⊥) → n ≤ limit → q * limit + limit ≤ length words → part (q * limit) n after ≡ part (q * limit) n words
  part-other q n d h k =
      ext_get_or 0 (part (q * limit) n after) (part (q * limit) n words) (size ∙ sym (length_part (q * limit) n words (omega arith)))
      (λ i l. at i (omega (arith, size)))
    where
      size : length (part (q * limit) n after) ≡ n
      size = length_part (q * limit) n after (omega (arith, long))

      beside : (i : ℕ) → i < n → Dec (q < p) → get_or after (q * limit + i) 0 ≡ get_or words (q * limit + i) 0
      beside i l (yes m) =
          get_or-splice-before (p * limit) ws words (omega arith) (q * limit + i) 0 (before limit p q i (omega arith) m)
      beside i l (no m) =
          get_or-splice-past (p * limit) ws words (omega arith) (q * limit + i) 0 (omega (arith, behind limit p q i (omega arith)))

      at : (i : ℕ) → i < n → get_or (part (q * limit) n after) i 0 ≡ get_or (part (q * limit) n words) i 0
      at i l =
          get_or-part (q * limit) n after (omega (arith, long)) i l
          ∙ beside i l (dec_lt q p)
          ∙ sym (get_or-part (q * limit) n words (omega arith) i l)

  -- the sections rise where they did
  rise-other : suc element_top * limit ≤ length words → (counts : List ℕ) → p < length counts → Rising ltb 0 ws → Rise limit words counts
      → Rise limit after (set counts p (length ws))
  rise-other room counts sized rising rise q h = at (ℕ_discrete q p)
    where
      at : Dec (q ≡ p) → (get_or (set counts p (length ws)) q 0 ≤ limit) × Rising ltb 0 (part (q * limit) (get_or (set counts p (length ws)) q 0) after)
      at (yes e) = rw (e, get_or-set_same counts p (length ws) 0 sized, part_same) (few, rising)
      at (no d) =
          rw (get_or-set_other counts p q (length ws) 0 d, part-other q (get_or counts q 0) d (rise q h).0 (section-ends limit q words room h))
          (rise q h)

-- ---- the words of a section

words-rising : {n : ℕ} (l : List Cell) → All (HasVertices n) [] l → Rising precedes [] l → Rising ltb 0 (map packed l)
unfolding packed
words-rising {n} l a r i h =
    let k : suc i < length l = omega (arith, length-map l packed) in
    rw (get_or-map packed l i [], get_or-map packed l (suc i) [])
    (sym (precedes-words n (get_or l i []) (get_or l (suc i) []) (a i (omega arith)) (a (suc i) k)) ∙ r i k)

pub holds-word : {s : CellSet} {K : Sections} → Holds s K → (p i : ℕ) → p ≤ element_top → i < length (section K p)
    → Packs (suc p) (get_or (section K p) i []) (get_or s.words (p * s.limit + i) 0)
unfolding packed
holds-word {s} {K} h p i small l =
    let t = h.sections p small in
    let fit : p * s.limit + length (section K p) ≤ length s.words = omega (arith, t.within, section-ends s.limit p s.words h.room small) in
    record {
      sized = (t.vertices i l).sized;
      numbered = (t.vertices i l).numbered;
      is =
          sym (get_or-part (p * s.limit) (length (section K p)) s.words fit i l)
          ∙ ap (λ (x : List ℕ). get_or x i 0) t.words
          ∙ get_or-map packed (section K p) i [];
    }

-- ---- the word w inserted into the k words of section p, of which some are used

module _ (s : CellSet) (room : suc element_top * s.limit ≤ length s.words) (sized : length s.counts ≡ suc element_top) (p : ℕ)
    (h : p ≤ element_top) (k : ℕ) (all : k ≡ s.limit) where
  abbrev from : ℕ
  from = p * s.limit

  abbrev many : ℕ
  many = get_or s.counts p 0

  abbrev words : List ℕ
  words = part from many s.words

  abbrev slots : List ℕ
  slots = part from k s.words

  fit : from + s.limit ≤ length s.words
  fit = section-ends s.limit p s.words room h

  length-slots : length slots ≡ k
  length-slots = length_part from k s.words (omega (arith, fit))

  used : take many slots ≡ words
  used = take-take many k (drop from s.words) (omega (arith, (s.rise p h).0))

  put-kept : put_mid from k s.words slots ≡ s.words
  put-kept = ap (λ (t : List ℕ). take from s.words ++ t) (take-append-drop k (drop from s.words)) ∙ take-append-drop from s.words

  module _ {w : ℕ} {after : List ℕ} (lacks : Lacks w (take many slots) slots after) where
    lacks-kept : put_mid from k s.words after ≡ s.words
    lacks-kept = ap (put_mid from k s.words) lacks.unchanged ∙ put-kept

    pub kept-rise : Rise s.limit (put_mid from k s.words after) s.counts
    kept-rise = rw lacks-kept s.rise

  module _ {w n : ℕ} {after : List ℕ} (puts : Puts w (take many slots) slots n after) where
    number : n ≡ length (insert ltb w words)
    number = rw used at puts.number

    few : length (insert ltb w words) ≤ s.limit
    few = omega (arith, number, puts.room, length-slots)

    put-words : put_mid from k s.words after ≡ splice from (insert ltb w words) s.words
    put-words =
        ap (put_mid from k s.words) (puts.is ∙ ap (λ (t : List ℕ). splice 0 (insert ltb w t) slots) used)
        ∙ splice-part from k (insert ltb w words) s.words (omega (arith, fit)) (omega (arith, few))

    pub put-rise : Rise s.limit (put_mid from k s.words after) (set s.counts p n)
    put-rise =
        rw (put-words, number)
        (rise-other s.limit p (insert ltb w words) s.words fit few room s.counts (omega (arith, sized))
        (insert-rising ltb numbers-order 0 w words (s.rise p h).1) s.rise)

  -- .. the word of the cell c
  module _ {K : Sections} (holds : Holds s K) {c : Cell} {w : ℕ} (packs : Packs (suc p) c w) where
    abbrev in_p : HoldsSection s p (section K p)
    in_p = holds.sections p h

    abbrev new : List Cell
    new = insert precedes c (section K p)

    has-vertices : HasVertices (suc p) c
    has-vertices = record { sized = packs.sized; numbered = packs.numbered }

    new-words : insert ltb w words ≡ map packed new
    new-words = rw (in_p.counted, in_p.words, packs.is) (sym (insert-words (suc p) c (section K p) has-vertices in_p.vertices))

    length-new : length (insert ltb w words) ≡ length new
    length-new = ap length new-words ∙ length-map new packed

    module _ {n : ℕ} {after : List ℕ} (puts : Puts w (take many slots) slots n after) (small' : s.limit ≤ library_limit)
        (rise' : Rise s.limit (put_mid from k s.words after) (set s.counts p n)) where
      abbrev s' : CellSet
      s' = record { words = put_mid from k s.words after; counts = set s.counts p n; limit = s.limit; small = small'; rise = rise' }

      few' : length (map packed new) ≤ s.limit
      few' = omega (arith, length-map new packed, length-new, few puts)

      spliced : put_mid from k s.words after ≡ splice from (map packed new) s.words
      spliced = put-words puts ∙ ap (λ (t : List ℕ). splice from t s.words) new-words

      same : HoldsSection s' p new
      same = record {
        counted = get_or-set_same s.counts p n 0 (omega (arith, sized)) ∙ number puts ∙ length-new;
        within = omega (arith, few', length-map new packed);
        words = rw (spliced, ← length-map new packed) (part_same s.limit p (map packed new) s.words fit few');
        rising = insert-rising precedes cells-order [] c (section K p) in_p.rising;
        vertices = insert_all_lem precedes cells-order [] (HasVertices (suc p)) c (section K p) has-vertices in_p.vertices;
      }

      other : (q : ℕ) → q ≤ element_top → (q ≡ p → ⊥) → HoldsSection s' q (section K q)
      other q l d =
          let t = holds.sections q l in
          record {
            counted = get_or-set_other s.counts p q n 0 d ∙ t.counted;
            within = t.within;
            words =
                ap (part (q * s.limit) (length (section K q))) spliced
                ∙ part-other s.limit p (map packed new) s.words fit few' q (length (section K q)) d t.within
                (section-ends s.limit q s.words room l)
                ∙ t.words;
            rising = t.rising;
            vertices = t.vertices;
          }

      pub adds : Holds s' (adding K p (c ∷ []))
      unfolding adding insert_all
      adds = record {
        room = omega (arith, room, ap length spliced, long s.limit p (map packed new) s.words fit few');
        sized = length-set s.counts p n ∙ sized;
        dimensions = length-set K p new ∙ holds.dimensions;
        sections = λ q l. at q l (ℕ_discrete q p);
      }
        where
          at : (q : ℕ) → q ≤ element_top → Dec (q ≡ p) → HoldsSection s' q (section (set K p new) q)
          at q l (yes m) = rw (m, get_or-set_same K p new [] (omega (arith, holds.dimensions))) same
          at q l (no d) = rw (get_or-set_other K p q new [] d) (other q l d)

    pub adds_none : {after : List ℕ} → Lacks w (take many slots) slots after
        → (small' : s.limit ≤ library_limit) (rise' : Rise s.limit (put_mid from k s.words after) s.counts)
        → Overfull K p c s (record { words = put_mid from k s.words after; counts = s.counts; limit = s.limit; small = small'; rise = rise' })
    adds_none lacks small' rise' = record {
      longer = omega (arith, length-new, rw used at lacks.longer, length-slots);
      words-kept = lacks-kept lacks;
      counts-kept = refl;
    }
