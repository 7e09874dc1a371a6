-- What the readers of parts of a line read: words, spaces, line ends and numbers.
--     word-iff, gap-iff, line_end-iff      by what stands in the text and what follows
--     number-iff, node-iff, the_word-iff   by the word that they read
use mathlib.Core.Path.{◌≡◌, refl, sym, ap, ◌∙◌, ap₂, subst}
use mathlib.Core.Logic.Iff
use mathlib.Core.Logic.{◌↔◌}
use mathlib.Core.Bool.{Bool, true, false, not, cond, ◌&&◌, ◌||◌, and-eq-true_iff}
use mathlib.Core.List.{List, [], ◌∷◌, ◌++◌}
use Prim.Native.Nat.{ℕ, suc, ◌+◌, ◌≤◌, ◌<◌}
use native.Mathlib.Nat.{add-zero}
use native.Mathlib.Numerals.{add-one}
use native.Mathlib.Omega.{arith}
use lib.Dec.{T, eqb, ltb, leb, eqb→eq}
use lib.ListN.{length, get_or, drop}
use lib.Seq.{get_or-drop}
use borrow.Author.Tests.{ltb-true, lt-ltb, leb-true, le-leb, eqb-true, eq-eqb, ne_eqb, not-true}
use Rattle.lists.specs.Same.{every, same_list, same_list-eq}
use Rattle.complexes.specs.Complex.{vertex_bound}
use Rattle.mesh_format.specs.Words.{line_feed, carriage_return, is_space, is_line_feed, in_word, is_digit, value_from, most_digits}
use Rattle.mesh_format.specs.Form.{IsWord, IsGap, IsLineEnd, feed, return-feed, IsNumber, IsNode}
use Rattle.mesh_format.specs.Parse.{Parsed, malformed, parsed, then, run, part, same_word, word, gap, line_end, digits_at, number, node, the_word}
use Rattle.mesh_format.proofs.ReadLaws.{parsed-inj, then-case, cond-split}
use Rattle.mesh_format.proofs.Spans.{Spans, Stands, spans-append, spans-split, get_or-front, byte-spans}
use Rattle.mesh_format.proofs.RunLaws.{run_none, run-one, every-implies, none-implies, RunAt, SomeAt, run_at, run_length, run-part, some_bytes-iff}

-- ---- bytes

pub space-no-word : (b : ℕ) → is_space b ≡ true → in_word b ≡ false
space-no-word b e = rw e

pub word-no-space : (b : ℕ) → in_word b ≡ true → is_space b ≡ false
word-no-space b e = pick (is_space b) e
  where
    pick : (t : Bool) → not (t || eqb b carriage_return || is_line_feed b) ≡ true → t ≡ false
    pick true h = sym h
    pick false h = refl

pub digit-word : (b : ℕ) → is_digit b ≡ true → in_word b ≡ true
digit-word b e =
    let least : 48 ≤ b = leb-true 48 b ((and-eq-true_iff (leb 48 b) (leb b 57)).0 e).0 in
    rw (ne_eqb b 32 (λ h. omega arith), ne_eqb b carriage_return (λ h. omega arith), ne_eqb b line_feed (λ h. omega arith))

-- ---- words and spaces

module _ (s : List ℕ) (at : ℕ) {w : List ℕ} {next : ℕ} where
  pub word-iff : word s at ≡ parsed w next ↔ SomeAt in_word s at w next
  unfolding word
  word-iff = some_bytes-iff s at in_word

  pub gap-iff : gap s at ≡ parsed w next ↔ SomeAt is_space s at w next
  unfolding gap
  gap-iff = some_bytes-iff s at is_space

pub word-is : {s : List ℕ} {at next : ℕ} {w : List ℕ} → SomeAt in_word s at w next → IsWord w
word-is h = record { some = h.some; plain = h.run.passes }

pub gap_is : {s : List ℕ} {at next : ℕ} {g : List ℕ} → SomeAt is_space s at g next → IsGap g
gap_is h = record { some = h.some; spaces = h.run.passes }

-- the first byte of one or more that pass a test passes it
first_passes : {test : ℕ → Bool} (w : List ℕ) → 0 < length w → every test w ≡ true → (other : ℕ → Bool)
    → ((b : ℕ) → test b ≡ true → other b ≡ false) → (r : List ℕ) → run other (w ++ r) ≡ 0
unfolding every
first_passes [] h e other k r = absurd (omega arith)
first_passes {test} (b ∷ w) h e other k r = run-one other b (k b ((and-eq-true_iff (test b) (every test w)).0 e).0) (w ++ r)

-- spaces go on with no word, and a word with no space
pub gap-stops : {g : List ℕ} → IsGap g → (r : List ℕ) → run in_word (g ++ r) ≡ 0
gap-stops {g} h r = first_passes g h.some h.spaces in_word space-no-word r

pub word-stops : {w : List ℕ} → IsWord w → (r : List ℕ) → run is_space (w ++ r) ≡ 0
word-stops {w} h r = first_passes w h.some h.plain is_space word-no-space r

-- ---- line ends

pub line_end-stops : {e : List ℕ} → IsLineEnd e → (r : List ℕ) → run in_word (e ++ r) ≡ 0
line_end-stops feed r = run-one in_word line_feed refl r
line_end-stops return-feed r = run-one in_word carriage_return refl (line_feed ∷ r)

pub line_end-iff : (s : List ℕ) (at : ℕ) {next : ℕ} → line_end s at ≡ parsed tt next ↔ Stands IsLineEnd s at next
unfolding line_end
line_end-iff s at {next} = (to fed refl, λ h. from h.is h.spans)
  where
    fed : Bool
    fed = is_line_feed (get_or s at 0)

    returned : Bool
    returned = eqb (get_or s at 0) carriage_return

    fed-next : Bool
    fed-next = is_line_feed (get_or s (suc at) 0)

    feed-spans : (i : ℕ) → is_line_feed (get_or s i 0) ≡ true → Spans s i (line_feed ∷ []) (suc i)
    feed-spans i e = byte-spans s i line_feed (omega arith) (eqb-true (get_or s i 0) line_feed e)

    return-spans : returned ≡ true → Spans s at (carriage_return ∷ []) (suc at)
    return-spans e = byte-spans s at carriage_return (omega arith) (eqb-true (get_or s at 0) carriage_return e)

    to : (t : Bool) → fed ≡ t
        → cond {A = Parsed Unit} t (parsed tt (suc at)) (cond (returned && fed-next) (parsed tt (suc (suc at))) malformed) ≡ parsed tt next
        → Stands IsLineEnd s at next
    to true e h = record { text = line_feed ∷ []; is = feed; spans = rw (parsed-inj h).1 at (feed-spans at e) }
    to false e h =
        let k = cond-split (returned && fed-next) h in
        let both = (and-eq-true_iff returned fed-next).0 k.0 in
        record {
          text = carriage_return ∷ line_feed ∷ [];
          is = return-feed;
          spans = rw (parsed-inj k.1).1 at (spans-append (return-spans both.0) (feed-spans (suc at) both.1));
        }

    from : {e : List ℕ} → IsLineEnd e → Spans s at e next → line_end s at ≡ parsed tt next
    from feed h = rw (get_or-front s at line_feed 0 (drop next s) h.reads) (ap (parsed tt) (omega (arith, h.ends)))
    from return-feed h =
        let k = spans-split (carriage_return ∷ []) (line_feed ∷ []) h in
        let first = get_or-front s at carriage_return 0 (line_feed ∷ drop next s) h.reads in
        let second = get_or-front s (suc at) line_feed 0 (drop next s) (rw add-one at k.1.reads) in
        rw (first, second) (ap (parsed tt) (omega (arith, h.ends)))

-- ---- numbers

-- from `at` to `next` stands a word of this sort
pub record WordAt (Sort : List ℕ → Type 0) (s : List ℕ) (at next : ℕ) : Type 0 where
  pub word : List ℕ
  pub is : Sort word
  pub stands : SomeAt in_word s at word next

-- the byte at a position does not go on with a word: past its end a text counts as spaces
stops-iff : (s : List ℕ) (i : ℕ) → not (in_word (get_or s i 32)) ≡ true ↔ run in_word (drop i s) ≡ 0
unfolding run
stops-iff s i = rw slot-front (pick (drop i s))
  where
    slot-front : get_or s i 32 ≡ get_or (drop i s) 0 32
    slot-front = ap (λ (k : ℕ). get_or s k 32) (sym (add-zero i)) ∙ sym (get_or-drop i s 0 32)

    pick : (u : List ℕ) → not (in_word (get_or u 0 32)) ≡ true ↔ run in_word u ≡ 0
    pick [] = (λ e. refl, λ e. refl)
    pick (b ∷ u) = (λ e. (run_none in_word b u).1 (not-true (in_word b) e), λ e. ap not ((run_none in_word b u).0 e))

pub number-iff : (s : List ℕ) (at : ℕ) {v next : ℕ} → number s at ≡ parsed v next ↔ WordAt (IsNumber v) s at next
unfolding number digits_at
number-iff s at {v} {next} = (to, from)
  where
    n : ℕ
    n = run is_digit (drop at s)

    to : number s at ≡ parsed v next → WordAt (IsNumber v) s at next
    to e =
        let k = cond-split (ltb 0 n && leb n most_digits && not (in_word (get_or s (at + n) 32))) e in
        let tests = (and-eq-true_iff (ltb 0 n && leb n most_digits) (not (in_word (get_or s (at + n) 32)))).0 k.0 in
        let sizes = (and-eq-true_iff (ltb 0 n) (leb n most_digits)).0 tests.0 in
        let same : (value_from 0 (part s at n) ≡ v) × (at + n ≡ next) = parsed-inj k.1 in
        let r = run_at is_digit s at in
        let size : n ≡ length (part s at n) = run_length is_digit s at r in
        let some : 0 < length (part s at n) = rw size at (ltb-true 0 n sizes.0) in
        record {
          word = part s at n;
          is = record { some = some; short = rw size at (leb-true n most_digits sizes.1); digits = r.passes; value = same.0 };
          stands = record {
            some = some;
            run = record {
              passes = every-implies digit-word (part s at n) r.passes;
              spans = rw same.1 at r.spans;
              stops = rw same.1 at ((stops-iff s (at + n)).0 tests.1);
            };
          };
        }

    from : WordAt (IsNumber v) s at next → number s at ≡ parsed v next
    from h =
        let w : List ℕ = h.word in
        let stops : run in_word (drop (at + length w) s) ≡ 0 = rw h.stands.run.spans.ends at h.stands.run.stops in
        ap (digits_at s at) (run_length is_digit s at (digits h))
        ∙ rw (lt-ltb 0 (length w) h.is.some, le-leb (length w) most_digits h.is.short, (stops-iff s (at + length w)).1 stops)
        (ap₂ parsed (ap (value_from 0) (run-part is_digit s at (digits h)) ∙ h.is.value) (sym h.stands.run.spans.ends))
      where
        digits : (h : WordAt (IsNumber v) s at next) → RunAt is_digit s at h.word next
        digits h = record {
          passes = h.is.digits;
          spans = h.stands.run.spans;
          stops = none-implies digit-word (drop next s) h.stands.run.stops;
        }

pub node-iff : (s : List ℕ) (at : ℕ) {v next : ℕ} → node s at ≡ parsed v next ↔ WordAt (IsNode v) s at next
unfolding node then
node-iff s at {v} {next} = (to, from)
  where
    to : node s at ≡ parsed v next → WordAt (IsNode v) s at next
    to e = then-case (number s at) e (λ x a e₁ r.
        let k = cond-split (ltb x vertex_bound) r in
        let h : WordAt (IsNumber v) s at next = (number-iff s at).0 (e₁ ∙ k.1) in
        record { word = h.word; is = record { number = h.is; below = rw (parsed-inj k.1).0 at (ltb-true x vertex_bound k.0) }; stands = h.stands })

    from : WordAt (IsNode v) s at next → node s at ≡ parsed v next
    from h =
        let e = (number-iff s at).1 (record { word = h.word; is = h.is.number; stands = h.stands }) in
        rw (e, lt-ltb v vertex_bound h.is.below)

-- ---- a given word

pub same_word-iff : (v w : List ℕ) → same_word v w ≡ true ↔ v ≡ w
unfolding same_list
same_word-iff v w = (λ e. same_list-eq eqb eqb→eq v w (subst T (sym e) tt), λ e. rw e (same w))
  where
    same : (u : List ℕ) → same_word u u ≡ true
    same [] = refl
    same (b ∷ u) = (and-eq-true_iff (eqb b b) (same_word u u)).1 (eq-eqb b b refl, same u)

-- what was read, held to the word w
abbrev pub held : List ℕ → Parsed (List ℕ) → Parsed Unit
held w p = then p (λ v next. cond (same_word v w) (parsed tt next) malformed)

pub held-iff : (w : List ℕ) (p : Parsed (List ℕ)) {next : ℕ} → held w p ≡ parsed tt next ↔ p ≡ parsed w next
unfolding then
held-iff w p {next} = (to, from)
  where
    to : held w p ≡ parsed tt next → p ≡ parsed w next
    to e = then-case p e (λ v a e₁ r.
        let k = cond-split (same_word v w) r in e₁ ∙ ap₂ parsed ((same_word-iff v w).0 k.0) (parsed-inj k.1).1)

    from : p ≡ parsed w next → held w p ≡ parsed tt next
    from e = rw (e, (same_word-iff w w).1 refl)

pub the_word-iff : (w s : List ℕ) (at : ℕ) {next : ℕ} → the_word w s at ≡ parsed tt next ↔ SomeAt in_word s at w next
unfolding the_word
the_word-iff w s at = Iff.trans (held-iff w (word s at)) (word-iff s at)
