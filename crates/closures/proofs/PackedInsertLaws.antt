-- Words in place of cells: where all cells have as many vertices, to insert a cell is to insert its word among the words.
--     precedes-words     such cells stand as their words do
--     insert-words       the words of the result
use mathlib.Core.Path.{◌≡◌, refl, sym, ap, ◌∙◌}
use mathlib.Core.Logic.{◌↔◌}
use mathlib.Core.Bool.{Bool, true, false, cond}
use mathlib.Core.List.{List, [], ◌∷◌, map}
use Prim.Native.Nat.{ℕ, suc, ◌<◌}
use native.Mathlib.Omega.{arith}
use borrow.Author.Tests.{ltb-true, lt-ltb}
use lib.Dec.{ltb}
use lib.ListN.{get_or}
use Rattle.complexes.specs.Cell.{Cell, precedes}
use Rattle.complexes.specs.Packed.{packed}
use Rattle.complexes.proofs.PackedLaws.{packed-precedes}
use Rattle.closures.specs.Insert.{insert}
use Rattle.closures.specs.Rising.{All, HasVertices}

-- ---- a map that keeps the order

module _ {A B : Type 0} (before : A → A → Bool) (before' : B → B → Bool) (f : A → B) where
  -- x stands to y as f x to f y, both ways
  Kept : A → A → Type 0
  Kept x y = (before x y ≡ before' (f x) (f y)) × (before y x ≡ before' (f y) (f x))

  map-insert : (x d : A) (l : List A) → All (Kept x) d l → map f (insert before x l) ≡ insert before' (f x) (map f l)
  unfolding insert Kept
  map-insert x d [] k = refl
  map-insert x d (y ∷ l) k =
      rw (sym (k 0 (omega arith)).0, sym (k 0 (omega arith)).1) (go (before x y) (before y x) (map-insert x d l (λ i h. k (suc i) (omega arith))))
    where
      go : (a b : Bool) → map f (insert before x l) ≡ insert before' (f x) (map f l)
          → map f (cond a (x ∷ y ∷ l) (cond b (y ∷ insert before x l) (y ∷ l)))
          ≡ cond a (f x ∷ f y ∷ map f l) (cond b (f y ∷ insert before' (f x) (map f l)) (f y ∷ map f l))
      go true b r = refl
      go false true r = ap (λ (m : List B). f y ∷ m) r
      go false false r = refl

-- ---- words

module _ (n : ℕ) where
  pub precedes-words : (c e : Cell) → HasVertices n c → HasVertices n e → precedes c e ≡ ltb (packed c) (packed e)
  precedes-words c e h k = go (precedes c e) refl (ltb (packed c) (packed e)) refl
    where
      iff : (precedes c e ≡ true) ↔ (packed c < packed e)
      iff = packed-precedes c e h.numbered k.numbered (h.sized ∙ sym k.sized)

      go : (a : Bool) → precedes c e ≡ a → (b : Bool) → ltb (packed c) (packed e) ≡ b → a ≡ b
      go true p true q = refl
      go true p false q = sym (lt-ltb (packed c) (packed e) (iff.0 p)) ∙ q
      go false p true q = sym p ∙ iff.1 (ltb-true (packed c) (packed e) q)
      go false p false q = refl

  pub insert-words : (c : Cell) (l : List Cell) → HasVertices n c → All (HasVertices n) [] l
      → map packed (insert precedes c l) ≡ insert ltb (packed c) (map packed l)
  unfolding Kept
  insert-words c l h a =
      map-insert precedes ltb packed c [] l (λ i b. (precedes-words c (get_or l i []) h (a i b), precedes-words (get_or l i []) c (a i b) h))
