-- The line that closes a section.
--     by-cases                                       two facts by cases of one option
--     ending-found, ending-other                     a word compared with `$End` and a name
--     line-returned, line-other                      a line compared with a word and a carriage return
--     fed-within                                     where a line ends
--     closing-none, closing-found, closing-next      one line of the section that is passed over
use mathlib.Core.Path.{◌≡◌, refl, sym, ap, ◌∙◌}
use mathlib.Core.Bool.{Bool, not, true, false, cond, ◌&&◌, and_assoc, and-false, and-true}
use mathlib.Core.List.{List, [], ◌∷◌, ◌++◌}
use Prim.Native.Nat.{ℕ, suc, ◌+◌, ◌-◌, ◌≤◌, ◌<◌}
use native.Mathlib.Omega.{arith}
use lib.Dec.{eqb, ltb}
use lib.ListN.{length, get_or, take, drop, drop_of_length-le}
use lib.Seq.{take_all, take-suc, drop-cons}
use Rattle.std.specs.Prelude.{Option, Some, None, MatchOption}
use Rattle.std.specs.Cmp.Lexicographic.{pointwise}
use borrow.Author.Tests.{ltb-true}
use Rattle.lists.specs.Same.{same_list}
use Rattle.mesh_format.specs.Words.{carriage_return, is_line_feed, ending}
use Rattle.mesh_format.specs.Parse.{malformed, parsed, then, run, part, same_word, is_line_of, closing_line}
use Rattle.mesh_format.proofs.StepLaws.{closing_line-step}
use Rattle.mesh_format.proofs.ReadLaws.{malformed-fails, parsed-inj}
use Rattle.mesh_words.specs.Steps.{fed_line}
use Rattle.mesh_words.proofs.Bytes.{same_is}
use Rattle.mesh_words.proofs.Steps.{fails, goes}
use Rattle.mesh_reader.proofs.Parts.{same-last}

-- ---- words

same-front : (front u back : List ℕ) → same_word u (front ++ back) ≡ same_word (take (length front) u) front && same_word (drop (length front) u) back
unfolding same_list
same-front [] u back = refl
same-front (b ∷ front) [] back = refl
same-front (b ∷ front) (a ∷ u) back =
    ap (λ (t : Bool). eqb a b && t) (same-front front u back)
    ∙ sym (and_assoc (eqb a b) (same_word (take (length front) u) front) (same_word (drop (length front) u) back))

same-none : (w : List ℕ) (b : ℕ) → same_word [] (w ++ (b ∷ [])) ≡ false
unfolding same_list
same-none [] b = refl
same-none (a ∷ w) b = refl

same-back : (u w : List ℕ) (b : ℕ)
    → same_word u (w ++ (b ∷ [])) ≡ same_word (take (length u - 1) u) w && same_word (drop (length u - 1) u) (b ∷ [])
unfolding same_list
same-back [] w b = same-none w b ∙ sym (and-false (same_word [] w))
same-back (x ∷ v) w b =
    let u : List ℕ = x ∷ v in let n : ℕ = length u - 1 in let size : suc n ≡ length u = omega arith in
    let whole : u ≡ take n u ++ (get_or u n 0 ∷ []) =
    sym (take_all (suc n) u (omega (arith, size))) ∙ take-suc u n 0 (omega (arith, size))
    in
    let back : drop n u ≡ get_or u n 0 ∷ [] =
    drop-cons u n 0 (omega (arith, size)) ∙ ap (λ (l : List ℕ). get_or u n 0 ∷ l) (drop_of_length-le u {i = suc n} (omega (arith, size)))
    in
    ap (λ (l : List ℕ). same_word l (w ++ (b ∷ []))) whole ∙ same-last (take n u) w (get_or u n 0) b
    ∙ rw back (ap (λ (t : Bool). same_word (take n u) w && t) (sym (and-true (eqb (get_or u n 0) b))))

-- two facts by cases of one option
pub by-cases : {X G : Type 0} (o : Option X) {A C : Type 0} (B D : X → Type 0) → MatchOption o A B → MatchOption o C D → (A → C → G)
    → ((x : X) → B x → D x → G) → G
by-cases None B D a c none some = none a c
by-cases (Some x) B D b d none some = some x b d

-- $End
abbrev end : List ℕ
end = 36 ∷ 69 ∷ 110 ∷ 100 ∷ []

-- a word u, with `$End` at its front or not
module _ (u name : List ℕ) where
  pub ending-found : {rest : List ℕ} → pointwise eqb (take 4 u) end ≡ true → rest ≡ drop 4 u → same_word rest name ≡ same_word u (ending name)
  ending-found e f = sym (same-front end u name ∙ rw (← same_is (take 4 u) end, e, f))

  pub ending-other : pointwise eqb (take 4 u) end ≡ false → false ≡ same_word u (ending name)
  ending-other e = sym (same-front end u name ∙ rw (← same_is (take 4 u) end, e))

-- a line u that is not w, with a carriage return at its end or not
module _ (u w : List ℕ) (other : false ≡ same_word u w) where
  pub line-returned : {front : List ℕ} → pointwise eqb (drop (length u - 1) u) (carriage_return ∷ []) ≡ true → front ≡ take (length u - 1) u
      → same_word front w ≡ is_line_of w u
  line-returned e f =
      rw (← other, same-back u w carriage_return, ← same_is (drop (length u - 1) u) (carriage_return ∷ []), e, f) (sym (and-true (same_word (take (length u - 1) u) w)))

  pub line-other : pointwise eqb (drop (length u - 1) u) (carriage_return ∷ []) ≡ false → false ≡ is_line_of w u
  line-other e =
      rw (← other, same-back u w carriage_return, ← same_is (drop (length u - 1) u) (carriage_return ∷ []), e) (sym (and-false (same_word (take (length u - 1) u) w)))

-- ---- line by line

-- where a line that is fed ends
module _ (s : List ℕ) (at : ℕ) where
  abbrev many : ℕ
  many = run (λ b. not (is_line_feed b)) (drop at s)

  ends : (b : Bool) → ltb (at + many) (length s) ≡ b → {line : List ℕ} {next : ℕ}
      → cond b (parsed (part s at many) (suc (at + many))) malformed ≡ parsed line next → (at < next) × (next ≤ length s)
  ends true l e = let m = ltb-true (at + many) (length s) l in let k = (parsed-inj e).1 in (omega (arith, k), omega (arith, k, m))
  ends false l e = absurd (malformed-fails e)

  pub fed-within : {line : List ℕ} {next : ℕ} → fed_line s at ≡ parsed line next → (at < next) × (next ≤ length s)
  unfolding fed_line
  fed-within = ends (ltb (at + many) (length s)) refl

module _ (w s : List ℕ) (at : ℕ) where
  -- one line, if it is fed
  by-line : (b : Bool) → cond b (cond (is_line_of w (part s at (many s at))) (parsed tt (suc (at + many s at))) (closing_line w s (suc (at + many s at)))) malformed
      ≡ then (cond b (parsed (part s at (many s at)) (suc (at + many s at))) malformed) (λ line next. cond (is_line_of w line) (parsed tt next) (closing_line w s next))
  unfolding then
  by-line true = refl
  by-line false = refl

  step : closing_line w s at ≡ then (fed_line s at) (λ line next. cond (is_line_of w line) (parsed tt next) (closing_line w s next))
  unfolding fed_line
  step = closing_line-step w s at ∙ by-line (ltb (at + many s at) (length s))

  pub closing-none : fed_line s at ≡ malformed → closing_line w s at ≡ malformed
  closing-none e = step ∙ fails _ e

  module _ {line : List ℕ} {next : ℕ} (fed : fed_line s at ≡ parsed line next) {found : Bool} (told : found ≡ is_line_of w line) where
    pub closing-found : found ≡ true → closing_line w s at ≡ parsed tt next
    closing-found e = step ∙ goes _ fed (rw (← told, e))

    pub closing-next : found ≡ false → closing_line w s at ≡ closing_line w s next
    closing-next e = step ∙ goes _ fed (rw (← told, e))
