-- Lines of a text by their positions, and what the readers of lines of few words read.
--     LineAt, line-text, text-line      a line of these words, by the words' positions or by its text
--     word_line-iff, title_line-iff, format_line-iff, count_line-iff, node_line-iff
--     words-rest, rest-words      words that are passed over
use mathlib.Core.Path.{◌≡◌, refl, ap}
use mathlib.Core.Logic.Iff
use mathlib.Core.Logic.{◌↔◌}
use mathlib.Core.List.{List, [], ◌∷◌, ◌++◌, append-nil, append_assoc}
use Prim.Native.Nat.{ℕ, zero, suc}
use native.Mathlib.Omega.{arith}
use lib.ListN.{length, drop}
use Rattle.mesh_format.specs.Words.{is_space, in_word, version_word, zero_word}
use Rattle.mesh_format.specs.Form.{IsWord, IsGap, IsLineEnd, LineText, last_word, more-words, IsNumber, IsNode, NodeLine, node-line}
use Rattle.mesh_format.specs.Parse.{parsed, then, run, word, gap, line_end, number, node, the_word, words, word_line, title_line, format_line, count_line, node_line}
use Rattle.mesh_format.proofs.ReadLaws.{parsed-inj, then-case}
use Rattle.mesh_format.proofs.Spans.{Spans, Stands, spans-append, spans-split}
use Rattle.mesh_format.proofs.RunLaws.{SomeAt}
use Rattle.mesh_format.proofs.WordLaws.{word-iff, gap-iff, word-is, gap_is, gap-stops, word-stops, line_end-stops, line_end-iff, number-iff, node-iff, held-iff, the_word-iff}

-- ---- the words of a line and where they stand

-- from `at` to `next` stands the rest of a line behind a word: these words, each after spaces, and the line's end
pub data RestAt (s : List ℕ) : List (List ℕ) → ℕ → ℕ → Type 0 where
  line-ends : {at next : ℕ} → Stands IsLineEnd s at next → RestAt s [] at next
  word-follows : {at a b next : ℕ} {g w : List ℕ} {ws : List (List ℕ)}
      → SomeAt is_space s at g a → SomeAt in_word s a w b → RestAt s ws b next → RestAt s (w ∷ ws) at next

-- .. a line of these words
pub data LineAt (s : List ℕ) : List (List ℕ) → ℕ → ℕ → Type 0 where
  line_at : {at a next : ℕ} {w : List ℕ} {ws : List (List ℕ)} → SomeAt in_word s at w a → RestAt s ws a next → LineAt s (w ∷ ws) at next

-- ---- the text of a line

-- a line starts with no space
line-starts : {ws : List (List ℕ)} {t : List ℕ} → LineText ws t → (r : List ℕ) → run is_space (t ++ r) ≡ 0
line-starts (last_word {w = w} {e = e} h k) r = rw (append_assoc w e r) (word-stops h (e ++ r))
line-starts (more-words {w = w} {g = g} {t = t} h k l) r = rw (append_assoc w (g ++ t) r) (word-stops h ((g ++ t) ++ r))

module _ {s : List ℕ} where
  rest-text : {w : List ℕ} {ws : List (List ℕ)} {at a next : ℕ}
      → SomeAt in_word s at w a → RestAt s ws a next → Stands (LineText (w ∷ ws)) s at next
  rest-text {w} h (line-ends e) = record {
    text = w ++ e.text;
    is = last_word (word-is h) e.is;
    spans = spans-append h.run.spans e.spans;
  }
  rest-text {w} h (word-follows {g = g} k l r) = let t = rest-text l r in record {
    text = w ++ (g ++ t.text);
    is = more-words (word-is h) (gap_is k) t.is;
    spans = spans-append h.run.spans (spans-append k.run.spans t.spans);
  }

  pub line-text : {ws : List (List ℕ)} {at next : ℕ} → LineAt s ws at next → Stands (LineText ws) s at next
  line-text (line_at h r) = rest-text h r

  word_at : {w : List ℕ} {at next : ℕ} → IsWord w → Spans s at w next → run in_word (drop next s) ≡ 0 → SomeAt in_word s at w next
  word_at h k e = record { some = h.some; run = record { passes = h.plain; spans = k; stops = e } }

  gap_at : {g : List ℕ} {at next : ℕ} → IsGap g → Spans s at g next → run is_space (drop next s) ≡ 0 → SomeAt is_space s at g next
  gap_at h k e = record { some = h.some; run = record { passes = h.spaces; spans = k; stops = e } }

  pub text-line : {ws : List (List ℕ)} {t : List ℕ} {at next : ℕ} → LineText ws t → Spans s at t next → LineAt s ws at next
  text-line {next = next} (last_word {w = w} {e = e} h k) l =
      let c = spans-split w e l in
      line_at (word_at h c.0 (rw c.1.reads (line_end-stops k (drop next s)))) (line-ends (record { text = e; is = k; spans = c.1 }))
  text-line {next = next} (more-words {w = w} {g = g} {t = t} h k l) m =
      let c = spans-split w (g ++ t) m in
      let d = spans-split g t c.1 in
      follow (word_at h c.0 (rw (c.1.reads, append_assoc g t (drop next s)) (gap-stops k (t ++ drop next s))))
      (gap_at k d.0 (rw d.1.reads (line-starts l (drop next s))))
      (text-line l d.1)
    where
      follow : {w g : List ℕ} {ws : List (List ℕ)} {at a b next : ℕ}
          → SomeAt in_word s at w a → SomeAt is_space s a g b → LineAt s ws b next → LineAt s (w ∷ ws) at next
      follow h k (line_at l r) = line_at h (word-follows k l r)

-- ---- lines of few words

-- from `at` to `next` stands a line of words of this sort
pub record LineOf (Sort : List (List ℕ) → Type 0) (s : List ℕ) (at next : ℕ) : Type 0 where
  pub words : List (List ℕ)
  pub is : Sort words
  pub stands : LineAt s words at next

-- .. the line `2.2 0` and a number
pub record FormatAt (s : List ℕ) (at next : ℕ) : Type 0 where
  pub version : ℕ
  pub word : List ℕ
  pub is : IsNumber version word
  pub stands : LineAt s (version_word ∷ zero_word ∷ word ∷ []) at next

-- .. the line of the count n
pub record CountAt (n : ℕ) (s : List ℕ) (at next : ℕ) : Type 0 where
  pub word : List ℕ
  pub is : IsNumber n word
  pub stands : LineAt s (word ∷ []) at next

-- a line's end behind x
pub then-line_end : {A : Type 0} (s : List ℕ) (at : ℕ) {x y : A} {next : ℕ}
    → then (line_end s at) (λ _ a. parsed x a) ≡ parsed y next ↔ (x ≡ y) × Stands IsLineEnd s at next
unfolding then
then-line_end s at {x} {y} {next} = (to, λ h. rw ((line_end-iff s at).1 h.1, h.0))
  where
    to : then (line_end s at) (λ _ a. parsed x a) ≡ parsed y next → (x ≡ y) × Stands IsLineEnd s at next
    to e = then-case (line_end s at) e (λ _ a e₁ r. ((parsed-inj r).0, (line_end-iff s at).0 (rw (parsed-inj r).1 at e₁)))

module _ (s : List ℕ) (at : ℕ) {next : ℕ} where
  pub word_line-iff : {w : List ℕ} → word_line s at ≡ parsed w next ↔ LineAt s (w ∷ []) at next
  unfolding word_line then
  word_line-iff {w} = (to, from)
    where
      to : word_line s at ≡ parsed w next → LineAt s (w ∷ []) at next
      to e = then-case (word s at) e (λ v a e₁ r.
          let d = (then-line_end s a).0 r in line_at ((word-iff s at).0 (rw d.0 at e₁)) (line-ends d.1))

      from : LineAt s (w ∷ []) at next → word_line s at ≡ parsed w next
      from (line_at {a = a} h (line-ends e)) = rw ((word-iff s at).1 h) ((then-line_end s a).1 (refl, e))

  pub title_line-iff : (w : List ℕ) → title_line w s at ≡ parsed tt next ↔ LineAt s (w ∷ []) at next
  unfolding title_line
  title_line-iff w = Iff.trans (held-iff w (word_line s at)) word_line-iff

  pub format_line-iff : format_line s at ≡ parsed tt next ↔ FormatAt s at next
  unfolding format_line then
  format_line-iff = (to, λ h. from h.is h.stands)
    where
      to : format_line s at ≡ parsed tt next → FormatAt s at next
      to e =
          then-case (the_word version_word s at) e (λ _ a e₁ r₁. then-case (gap s a) r₁ (λ _ b e₂ r₂. then-case (the_word zero_word s b) r₂ (λ _ c e₃ r₃.
          then-case (gap s c) r₃ (λ _ d e₄ r₄. then-case (number s d) r₄ (λ v f e₅ r₅.
          let h = (number-iff s d).0 e₅ in
          record {
            version = v;
            word = h.word;
            is = h.is;
            stands =
                line_at ((the_word-iff version_word s at).0 e₁)
                (word-follows ((gap-iff s a).0 e₂) ((the_word-iff zero_word s b).0 e₃)
                (word-follows ((gap-iff s c).0 e₄) h.stands (line-ends ((line_end-iff s f).0 r₅))));
          })))))

      from : {v : ℕ} {w : List ℕ} → IsNumber v w → LineAt s (version_word ∷ zero_word ∷ w ∷ []) at next → format_line s at ≡ parsed tt next
      from k (line_at {a = a} h (word-follows {a = b} {b = c} g z (word-follows {a = d} {b = e} i v (line-ends l)))) =
          rw (
            (the_word-iff version_word s at).1 h,
            (gap-iff s a).1 g,
            (the_word-iff zero_word s b).1 z,
            (gap-iff s c).1 i,
            (number-iff s d).1 (record { word = _; is = k; stands = v }),
            (line_end-iff s e).1 l,
          )

  pub count_line-iff : {n : ℕ} → count_line s at ≡ parsed n next ↔ CountAt n s at next
  unfolding count_line then
  count_line-iff {n} = (to, λ h. from h.is h.stands)
    where
      to : count_line s at ≡ parsed n next → CountAt n s at next
      to e = then-case (number s at) e (λ m a e₁ r.
          let d = (then-line_end s a).0 r in
          let h = (number-iff s at).0 (rw d.0 at e₁) in
          record { word = h.word; is = h.is; stands = line_at h.stands (line-ends d.1) })

      from : {w : List ℕ} → IsNumber n w → LineAt s (w ∷ []) at next → count_line s at ≡ parsed n next
      from k (line_at {a = a} h (line-ends e)) = rw ((number-iff s at).1 (record { word = _; is = k; stands = h })) ((then-line_end s a).1 (refl, e))

-- ---- words that are passed over

-- so many words, and behind them the rest of the line
pub record WordsAt (s : List ℕ) (n : ℕ) (at : ℕ) (ws : List (List ℕ)) (next : ℕ) : Type 0 where
  pub words : List (List ℕ)
  pub many : length words ≡ n
  pub stands : RestAt s (words ++ ws) at next

pub words-rest : (n : ℕ) (s : List ℕ) (at : ℕ) {a next : ℕ} {ws : List (List ℕ)} → words n s at ≡ parsed tt a → RestAt s ws a next → WordsAt s n at ws next
unfolding words
words-rest zero s at e r = record { words = []; many = refl; stands = rw (← (parsed-inj e).1) at r }
words-rest (suc n) s at e r = then-case (gap s at) e (λ _ b e₁ r₁. then-case (word s b) r₁ (λ v c e₂ r₂.
    let w = words-rest n s c r₂ r in
    record { words = v ∷ w.words; many = ap suc w.many; stands = word-follows ((gap-iff s at).0 e₁) ((word-iff s b).0 e₂) w.stands }))

-- where the words end
pub record RestFrom (s : List ℕ) (n : ℕ) (at : ℕ) (ws : List (List ℕ)) (next : ℕ) : Type 0 where
  pub mid : ℕ
  pub reads : words n s at ≡ parsed tt mid
  pub stands : RestAt s ws mid next

pub rest-words : {s : List ℕ} (v : List (List ℕ)) {ws : List (List ℕ)} {at next : ℕ} → RestAt s (v ++ ws) at next → RestFrom s (length v) at ws next
unfolding words then
rest-words [] r = record { mid = _; reads = refl; stands = r }
rest-words {s} (x ∷ v) {at = at} (word-follows {a = a} {b = b} g h r) =
    let k = rest-words v r in record { mid = k.mid; reads = rw ((gap-iff s at).1 g, (word-iff s a).1 h) k.reads; stands = k.stands }

-- three words behind a node number
node-line-of : {v : ℕ} {n : List ℕ} → IsNode v n → (ws : List (List ℕ)) → length ws ≡ 3 → NodeLine v (n ∷ ws)
node-line-of h [] e = absurd (omega arith)
node-line-of h (x ∷ []) e = absurd (omega arith)
node-line-of h (x ∷ y ∷ []) e = absurd (omega arith)
node-line-of h (x ∷ y ∷ z ∷ []) e = node-line h
node-line-of h (x ∷ y ∷ z ∷ u ∷ ws) e = absurd (omega arith)

pub node_line-iff : (s : List ℕ) (at : ℕ) {v next : ℕ} → node_line s at ≡ parsed v next ↔ LineOf (NodeLine v) s at next
unfolding node_line then
node_line-iff s at {v} {next} = (to, λ h. from h.is h.stands)
  where
    to : node_line s at ≡ parsed v next → LineOf (NodeLine v) s at next
    to e = then-case (node s at) e (λ u a e₁ r₁. then-case (words 3 s a) r₁ (λ _ b e₂ r₂.
        let l = (then-line_end s b).0 r₂ in
        let n = (node-iff s at).0 (rw l.0 at e₁) in
        let w = words-rest 3 s a e₂ (line-ends l.1) in
        record {
          words = n.word ∷ w.words;
          is = node-line-of n.is w.words w.many;
          stands = line_at n.stands (rw append-nil at w.stands);
        }))

    from : {ws : List (List ℕ)} → NodeLine v ws → LineAt s ws at next → node_line s at ≡ parsed v next
    from (node-line {x = x} {y = y} {z = z} k) (line_at {a = a} h r) =
        let w = rest-words (x ∷ y ∷ z ∷ []) r in
        rw ((node-iff s at).1 (record { word = _; is = k; stands = h }), w.reads) (end w.mid w.stands)
      where
        end : (b : ℕ) → RestAt s [] b next → then (line_end s b) (λ _ c. parsed v c) ≡ parsed v next
        end b (line-ends e) = (then-line_end s b).1 (refl, e)
