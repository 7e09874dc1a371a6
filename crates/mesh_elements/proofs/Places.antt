-- Whether all nodes of a word are listed, told place by place: all-listed.
use mathlib.Core.Path.{◌≡◌, refl, sym, ◌∙◌, subst}
use mathlib.Core.Bool.{Bool, true, false, and-false}
use mathlib.Core.List.{List, [], ◌∷◌}
use Prim.Native.Nat.{ℕ, zero, suc, ◌+◌, ◌-◌, ◌<◌}
use native.Mathlib.Nat.{zero-add}
use native.Mathlib.Omega.{arith}
use lib.ListN.{length, get_or}
use Rattle.std.specs.Bool.{MatchBool}
use Rattle.std.specs.List.{HoldsAt, AllWithin, range_with_len}
use Rattle.std.proofs.lemmas.List.FromFn.{length-range_with_len, get_or-range_with_len}
use Rattle.lists.specs.Same.{every}
use Rattle.cells.specs.Word.{Packs}
use Rattle.node_maps.specs.Map.{in_map}
use Rattle.mesh_elements.specs.Listed.{AllListed}

every-holds : (test : ℕ → Bool) (l : List ℕ) → ((j : ℕ) → j < length l → test (get_or l j 0) ≡ true) → every test l ≡ true
unfolding every
every-holds test [] h = refl
every-holds test (x ∷ l) h = rw (h 0 (omega arith)) (every-holds test l (λ j m. h (suc j) (omega arith)))

every-fails : (test : ℕ → Bool) (l : List ℕ) (j : ℕ) → j < length l → test (get_or l j 0) ≡ false → every test l ≡ false
unfolding every
every-fails test [] j m e = absurd (omega arith)
every-fails test (x ∷ l) zero m e = rw e refl
every-fails test (x ∷ l) (suc j) m e = rw (every-fails test l j (omega arith) e) (and-false (test x))

-- b tells whether the vertex that `behind` others stand behind is listed, told from the word w of the vertices
abbrev pub Tells : List ℕ → ℕ → Bool → ℕ → Type 0
Tells map w b behind = (j : ℕ) (vs : List ℕ) → Packs (suc (j + behind)) vs w → in_map map (get_or vs j 0) ≡ b

module _ (map : List ℕ) (w n : ℕ) where
  number_at : (i : ℕ) → i < n → get_or (range_with_len 0 n) i 0 ≡ i
  number_at i l = get_or-range_with_len 0 n i 0 l ∙ zero-add i

  pub all-listed : (r : Bool)
      → MatchBool r (AllWithin (Tells map w true) (range_with_len 0 n) 0 (length (range_with_len 0 n)))
      ((k : ℕ) × (k < length (range_with_len 0 n)) × HoldsAt (Tells map w false) (range_with_len 0 n) k)
      → AllListed map w n r
  all-listed true h nodes e u q = sym (every-holds (in_map map) nodes (λ j m.
      let i : n - 1 - j < n = omega arith in
      let told : Tells map w true (n - 1 - j) =
      subst (Tells map w true) (number_at (n - 1 - j) i) (h (n - 1 - j) 0 (omega arith) (omega (arith, length-range_with_len 0 n))) in
      told j nodes (record { sized = omega arith; numbered = u; is = sym q })))
  all-listed false h nodes e u q =
      let within : h.0 < n = omega (arith, h.1, length-range_with_len 0 n) in
      let told : Tells map w false h.0 = subst (Tells map w false) (number_at h.0 within) (h.2 0) in
      sym (every-fails (in_map map) nodes (n - 1 - h.0) (omega arith) (told (n - 1 - h.0) nodes (record { sized = omega arith; numbered = u; is = sym q })))
