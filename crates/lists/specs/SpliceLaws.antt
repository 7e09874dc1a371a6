-- Laws of `splice`: splice-nil, splice-zero, length-splice, splice-splice (two texts one behind the other), splice-set (one element);
-- the parts of the result (take-splice, take-splice-before, take-splice-zero, drop-splice) and its elements (get_or-splice, -before, -past).
use Rattle.std.specs.Prelude.{◌≡◌, ℕ, ◌+◌, ◌-◌, ◌≤◌, ◌<◌, take, set}
use Rattle.std.proofs.Math.Path.{sym, ap}
use Rattle.std.proofs.Common.{◌∙◌, take-append-drop, take_at, drop_at, drop-drop, get_or-drop}
use mathlib.Core.List.{List, [], ◌∷◌, ◌++◌, append_assoc}
use Rattle.std.proofs.Math.Nat.{add-zero, zero-add}
use Rattle.std.proofs.Math.Numerals.{add-one}
use native.Mathlib.Omega.{arith}
use Rattle.std.proofs.Math.ListN.{length, get_or, drop, length-append, length-drop, get_or-append}
use Rattle.std.proofs.Math.Seq.{length-take-le, take-append-le, take-append_seam, take-take, get_or-append-add, get_or-take}
use Rattle.std.proofs.lemmas.List.{set_split}
use Rattle.lists.specs.Splice.{splice}

module _ {ℓ} {A : Type ℓ} where
  -- nothing put over changes nothing
  pub splice-nil : (at : ℕ) (l : List A) → splice at [] l ≡ l
  unfolding splice
  splice-nil at l = rw add-zero (take-append-drop at l)

  pub splice-zero : (xs l : List A) → splice 0 xs l ≡ xs ++ drop (length xs) l
  unfolding splice
  splice-zero xs l = rw zero-add

  -- one element put over
  pub splice-set : (at : ℕ) (x : A) (l : List A) → at < length l → splice at (x ∷ []) l ≡ set l at x
  unfolding splice
  splice-set at x l h = rw add-one (sym (set_split l at x h))

  -- where xs fits, the length stays
  pub length-splice : (at : ℕ) (xs l : List A) → at + length xs ≤ length l → length (splice at xs l) ≡ length l
  unfolding splice
  length-splice at xs l h =
      omega (
        arith,
        length-append (take at l) (xs ++ drop (at + length xs) l),
        length-append xs (drop (at + length xs) l),
        length-take-le at l (omega arith),
        length-drop (at + length xs) l,
      )

  module _ (at : ℕ) (xs l : List A) (h : at ≤ length l) where
    -- the front with xs behind it, and what is past xs
    splice-parts : splice at xs l ≡ (take at l ++ xs) ++ drop (at + length xs) l
    unfolding splice
    splice-parts = sym (append_assoc (take at l) xs (drop (at + length xs) l))

    length_front : length (take at l ++ xs) ≡ at + length xs
    length_front = omega (arith, length-append (take at l) xs, length-take-le at l h)

    pub take-splice : take (at + length xs) (splice at xs l) ≡ take at l ++ xs
    take-splice = rw splice-parts (take_at (take at l ++ xs) (drop (at + length xs) l) (at + length xs) length_front)

    -- what is past xs is untouched
    pub drop-splice : drop (at + length xs) (splice at xs l) ≡ drop (at + length xs) l
    drop-splice = rw splice-parts (drop_at (take at l ++ xs) (drop (at + length xs) l) (at + length xs) length_front)

    -- what is before xs is untouched
    pub take-splice-before : (n : ℕ) → n ≤ at → take n (splice at xs l) ≡ take n l
    unfolding splice
    take-splice-before n le =
        take-append-le n (take at l) (xs ++ drop (at + length xs) l) (omega (arith, length-take-le at l h)) ∙ take-take n at l le

    -- two texts put over one behind the other
    pub splice-splice : (ys : List A) → splice (at + length xs) ys (splice at xs l) ≡ splice at (xs ++ ys) l
    unfolding splice
    splice-splice ys =
        ap (λ (front : List A). front ++ (ys ++ drop (at + length xs + length ys) (splice at xs l))) take-splice
        ∙ ap (λ (rest : List A). (take at l ++ xs) ++ (ys ++ rest)) past
        ∙ simp append_assoc
      where
        place : at + length xs + length ys ≡ at + length (xs ++ ys)
        place = omega (arith, length-append xs ys)

        past : drop (at + length xs + length ys) (splice at xs l) ≡ drop (at + length (xs ++ ys)) l
        past =
            sym (drop-drop (length ys) (at + length xs) (splice at xs l))
            ∙ ap (λ (rest : List A). drop (length ys) rest) drop-splice
            ∙ drop-drop (length ys) (at + length xs) l
            ∙ ap (λ (n : ℕ). drop n l) place

    -- an element of xs
    pub get_or-splice : (i : ℕ) (d : A) → i < length xs → get_or (splice at xs l) (at + i) d ≡ get_or xs i d
    unfolding splice
    get_or-splice i d le =
        ap (λ (n : ℕ). get_or (splice at xs l) (n + i) d) (sym (length-take-le at l h))
        ∙ get_or-append-add (take at l) (xs ++ drop (at + length xs) l) i d
        ∙ get_or-append xs (drop (at + length xs) l) d i le

    pub get_or-splice-before : (i : ℕ) (d : A) → i < at → get_or (splice at xs l) i d ≡ get_or l i d
    unfolding splice
    get_or-splice-before i d le =
        get_or-append (take at l) (xs ++ drop (at + length xs) l) d i (omega (arith, length-take-le at l h)) ∙ get_or-take at l i d le

    pub get_or-splice-past : (i : ℕ) (d : A) → at + length xs ≤ i → get_or (splice at xs l) i d ≡ get_or l i d
    get_or-splice-past i d le =
        ap (λ (n : ℕ). get_or (splice at xs l) n d) place
        ∙ sym (get_or-drop (at + length xs) (splice at xs l) (i - (at + length xs)) d)
        ∙ ap (λ (rest : List A). get_or rest (i - (at + length xs)) d) drop-splice
        ∙ get_or-drop (at + length xs) l (i - (at + length xs)) d
        ∙ ap (λ (n : ℕ). get_or l n d) (sym place)
      where
        place : i ≡ at + length xs + (i - (at + length xs))
        place = omega arith

  -- the texts put over the start
  pub take-splice-zero : (xs l : List A) → take (length xs) (splice 0 xs l) ≡ xs
  take-splice-zero xs l = rw splice-zero (take-append_seam xs (drop (length xs) l))
