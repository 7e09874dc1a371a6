-- Words of cells.
--     packed-precedes, packed-injective    of two cells with as many vertices, the one that stands first has the lesser word, and no other, and only
--                                          equal cells share one
--     packed-below, packed-fits            the word of n vertices is below 65536 ^ n, and so up to `word_vertices` of them fit 64 bits
--     packed-append                        the word of one list after another
--     packed-take, packed-drop             the words of the first and of the last vertices, from that of the cell
--     packed-without                       the word of a face, from that of the cell
--     numbered-without                     the vertices of a face are vertex numbers
use mathlib.Core.Path.{◌≡◌, sym, ap, ◌∙◌}
use mathlib.Core.Logic.{◌↔◌}
use mathlib.Core.Bool.{true, true≢false}
use mathlib.Core.List.{[], ◌∷◌, ◌++◌}
use Prim.Native.Nat.{ℕ, zero, suc, ◌+◌, ◌*◌, ◌/◌, ◌%◌, ◌^◌, ◌≤◌, ◌<◌}
use native.Mathlib.Nat.{mul-le-mul_right, suc-mul, add-mul, mul_assoc, pow-suc, one-le-pow, pow-le-pow_right}
use native.Mathlib.Nat.{mul-add-div_right, mul-add-mod_self_right, mod-eq_of_lt, div-eq_of_lt, div-div-eq-div-mul}
use native.Mathlib.Omega.{arith}
use lib.ListN.{length, get_or, take, drop, length-append, length-drop, take-append-drop}
use lib.Seq.{get_or-drop}
use Rattle.integers.proofs.Power.{pow-add}
use Rattle.complexes.specs.Cell.{Cell, without, precedes}
use Rattle.complexes.specs.Complex.{vertex_bound}
use Rattle.complexes.proofs.OrderLaws.{Precedes, first, next, precedes-true, Compared, equal, before, after, precedes-total}
use Rattle.complexes.proofs.FaceLaws.{without-parts}
use Rattle.complexes.specs.Packed.{word_vertices, packed, Numbered}

numbered-rest : {v : ℕ} {c : Cell} → Numbered (v ∷ c) → Numbered c
numbered-rest h = record { at = λ j l. h.at (suc j) (omega arith) }

numbered-drop : (n : ℕ) (c : Cell) → Numbered c → Numbered (drop n c)
numbered-drop n c h = record { at = λ j l. rw (get_or-drop n c j 0) (h.at (n + j) (omega (arith, length-drop n c))) }

numbered_next : (v : ℕ) (c : Cell) → v < vertex_bound → Numbered c → Numbered (v ∷ c)
numbered_next v c l h = record { at = at }
  where
    at : (j : ℕ) → j < length (v ∷ c) → get_or (v ∷ c) j 0 < vertex_bound
    at zero m = l
    at (suc j) m = h.at j (omega arith)

pub numbered-without : (j : ℕ) (c : Cell) → Numbered c → Numbered (without j c)
unfolding without
numbered-without j [] h = h
numbered-without zero (v ∷ c) h = numbered-rest h
numbered-without (suc j) (v ∷ c) h = numbered_next v (without j c) (h.at 0 (omega arith)) (numbered-without j c (numbered-rest h))

-- ---- the bits of a word

pub packed-below : (c : Cell) → Numbered c → packed c < vertex_bound ^ length c
unfolding packed
packed-below [] h = omega arith
packed-below (v ∷ c) h =
    let n = length c in
    omega (
      arith,
      packed-below c (numbered-rest h),
      mul-le-mul_right (vertex_bound ^ n) (h.at 0 (omega arith)),
      suc-mul v (vertex_bound ^ n),
      pow-suc vertex_bound n,
    )

pub packed-fits : (c : Cell) → Numbered c → length c ≤ word_vertices → packed c < 2 ^ 64
packed-fits c h l = omega (arith, packed-below c h, pow-le-pow_right {n = vertex_bound} (omega arith) l)

-- ---- the words of parts of a cell

-- one part behind the other: the word of the first stands above that of the second
pub packed-append : (c d : Cell) → packed (c ++ d) ≡ packed c * vertex_bound ^ length d + packed d
unfolding packed
packed-append [] d = omega arith
packed-append (v ∷ c) d =
    rw (length-append c d, pow-add vertex_bound (length c) (length d))
    (omega (
      arith,
      packed-append c d,
      mul_assoc v (vertex_bound ^ length c) (vertex_bound ^ length d),
      add-mul (v * vertex_bound ^ length c) (packed c) (vertex_bound ^ length d),
    ))

module _ (c d : Cell) (h : Numbered d) where
  high : packed (c ++ d) / vertex_bound ^ length d ≡ packed c
  high =
      rw (packed-append c d, mul-add-div_right (one-le-pow (length d) vertex_bound (omega arith)) (packed c) (packed d), div-eq_of_lt (packed-below d h)) (omega arith)

  low : packed (c ++ d) % vertex_bound ^ length d ≡ packed d
  low =
      rw (packed-append c d, mul-add-mod_self_right (packed c) (vertex_bound ^ length d) (packed d)) (mod-eq_of_lt (packed-below d h))

-- the word of the vertices before the last m
pub packed-take : (c : Cell) (n m : ℕ) → Numbered c → length c ≡ n + m → packed c / vertex_bound ^ m ≡ packed (take n c)
packed-take c n m h e = rw (take-append-drop n c, behind) at (high (take n c) (drop n c) (numbered-drop n c h))
  where
    behind : length (drop n c) ≡ m
    behind = omega (arith, length-drop n c)

-- .. and of the last m
pub packed-drop : (c : Cell) (n m : ℕ) → Numbered c → length c ≡ n + m → packed c % vertex_bound ^ m ≡ packed (drop n c)
packed-drop c n m h e = rw (take-append-drop n c, behind) at (low (take n c) (drop n c) (numbered-drop n c h))
  where
    behind : length (drop n c) ≡ m
    behind = omega (arith, length-drop n c)

-- .. and of all but the one that m stand behind
pub packed-without : (c : Cell) (j m : ℕ) → Numbered c → length c ≡ suc (j + m)
    → packed (without j c) ≡ packed c / vertex_bound ^ m / vertex_bound * vertex_bound ^ m + packed c % vertex_bound ^ m
packed-without c j m h e =
    ap packed (without-parts j c (omega arith))
    ∙ packed-append (take j c) (drop (suc j) c)
    ∙ rw (behind, sym first_part, sym last-part)
  where
    behind : length (drop (suc j) c) ≡ m
    behind = omega (arith, length-drop (suc j) c)

    first_part : packed c / vertex_bound ^ m / vertex_bound ≡ packed (take j c)
    first_part = div-div-eq-div-mul (packed c) (vertex_bound ^ m) vertex_bound ∙ rw (pow-suc vertex_bound m) at (packed-take c j (suc m) h (omega arith))

    last-part : packed c % vertex_bound ^ m ≡ packed (drop (suc j) c)
    last-part = packed-drop c (suc j) m h (omega arith)

-- ---- the order of words

lesser : (c d : Cell) → Numbered c → Numbered d → length c ≡ length d → precedes c d ≡ true → packed c < packed d
unfolding precedes packed
lesser [] [] h k e p = absurd (true≢false (sym p))
lesser [] (w ∷ d) h k e p = absurd (omega arith)
lesser (v ∷ c) [] h k e p = absurd (omega arith)
lesser (v ∷ c) (w ∷ d) h k e p = rw e' (go (precedes-true v w c d p) (lesser c d (numbered-rest h) (numbered-rest k) e'))
  where
    e' : length c ≡ length d
    e' = omega arith

    go : Precedes v w c d → (precedes c d ≡ true → packed c < packed d)
        → v * vertex_bound ^ length d + packed c < w * vertex_bound ^ length d + packed d
    go (first l) rest =
        omega (
          arith,
          rw e' at (packed-below c (numbered-rest h)),
          mul-le-mul_right (vertex_bound ^ length d) l,
          suc-mul v (vertex_bound ^ length d),
        )
    go (next q r) rest = rw q (omega (arith, rest r))

module _ (c d : Cell) (h : Numbered c) (k : Numbered d) (e : length c ≡ length d) where
  pub packed-precedes : (precedes c d ≡ true) ↔ (packed c < packed d)
  packed-precedes = (lesser c d h k e, λ l. go l (precedes-total c d e))
    where
      go : packed c < packed d → Compared c d → precedes c d ≡ true
      go l (equal q) = absurd (omega (arith, ap packed q))
      go l (before p) = p
      go l (after p) = absurd (omega (arith, lesser d c k h (sym e) p))

  pub packed-injective : packed c ≡ packed d → c ≡ d
  packed-injective q = go (precedes-total c d e)
    where
      go : Compared c d → c ≡ d
      go (equal r) = r
      go (before p) = absurd (omega (arith, lesser c d h k e p))
      go (after p) = absurd (omega (arith, lesser d c k h (sym e) p))
