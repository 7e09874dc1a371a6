-- Words compared piece by piece.
--     same-append, same-last      words that are made of two pieces
--     same-sized                  words of different lengths differ
use mathlib.Core.Path.{◌≡◌, refl, sym, ap, ◌∙◌}
use mathlib.Core.Bool.{Bool, false, ◌&&◌, and-true, and-false, and_assoc}
use mathlib.Core.List.{List, [], ◌∷◌, ◌++◌}
use Prim.Native.Nat.{ℕ, suc}
use native.Mathlib.Decide.{ℕ_discrete}
use native.Mathlib.Omega.{arith}
use lib.Dec.{eqb}
use lib.ListN.{length, length-append}
use Rattle.lists.specs.Same.{same_list}
use Rattle.mesh_format.specs.Parse.{same_word}

pub same-append : (u v u' v' : List ℕ) → length u ≡ length u' → same_word (u ++ v) (u' ++ v') ≡ same_word u u' && same_word v v'
unfolding same_list
same-append [] v [] v' h = refl
same-append [] v (b ∷ u') v' h = absurd (omega arith)
same-append (a ∷ u) v [] v' h = absurd (omega arith)
same-append (a ∷ u) v (b ∷ u') v' h =
    ap (λ (t : Bool). eqb a b && t) (same-append u v u' v' (omega arith)) ∙ sym (and_assoc (eqb a b) (same_word u u') (same_word v v'))

pub same-sized : (u v : List ℕ) → (length u ≡ length v → ⊥) → same_word u v ≡ false
unfolding same_list
same-sized [] [] h = absurd (h refl)
same-sized [] (b ∷ v) h = refl
same-sized (a ∷ u) [] h = refl
same-sized (a ∷ u) (b ∷ v) h = ap (λ (t : Bool). eqb a b && t) (same-sized u v (λ e. h (ap suc e))) ∙ and-false (eqb a b)

pub same-last : (u v : List ℕ) (a b : ℕ) → same_word (u ++ (a ∷ [])) (v ++ (b ∷ [])) ≡ same_word u v && eqb a b
unfolding same_list
same-last u v a b = pick (ℕ_discrete (length u) (length v))
  where
    pick : Dec (length u ≡ length v) → same_word (u ++ (a ∷ [])) (v ++ (b ∷ [])) ≡ same_word u v && eqb a b
    pick (yes h) = same-append u (a ∷ []) v (b ∷ []) h ∙ ap (λ (t : Bool). same_word u v && t) (and-true (eqb a b))
    pick (no h) =
        rw (same-sized u v h)
        (same-sized (u ++ (a ∷ [])) (v ++ (b ∷ [])) (λ e. h (omega (arith, length-append u (a ∷ []), length-append v (b ∷ [])))))
