-- Every reader ends within the text and past where it began; so the readers that go round need no bound on their rounds.
--     node_numbers-step, closing_line-step, sections-step      one round and then the reader again
--     word-within, gap_within, line_end-within, node-within, word_line-within, closing_line-within      where a success ends
use mathlib.Core.Path.{◌≡◌, refl, sym, ap, ◌∙◌}
use mathlib.Core.Bool.{Bool, not, cond}
use mathlib.Core.List.{List, [], ◌∷◌}
use Prim.Native.Nat.{ℕ, zero, suc, ◌+◌, ◌-◌, ◌≤◌, ◌<◌}
use native.Mathlib.Omega.{arith}
use lib.Dec.{ltb}
use lib.ListN.{length, get_or, drop, length-append, length-drop}
use borrow.Author.Tests.{ltb-true}
use Rattle.mesh_format.specs.Words.{is_space, is_line_feed, nodes_name, opening, ending}
use Rattle.mesh_format.specs.Form.{IsLineEnd, feed, return-feed}
use Rattle.mesh_format.specs.Parse.{Parsed, malformed, parsed, then, run, part, same_word, word, gap, line_end, node, word_line, nodes_within, node_numbers, is_line_of, closing_within, closing_line, opens_section, sections_within, sections}
use Rattle.mesh_format.proofs.ReadLaws.{Within, EndsWithin, malformed-within, parsed-within, past-within, from-within, later-within, cond-within, then-within, cond-ext, then-ext}
use Rattle.mesh_format.proofs.Spans.{Spans}
use Rattle.mesh_format.proofs.RunLaws.{SomeAt}
use Rattle.mesh_format.proofs.WordLaws.{word-iff, gap-iff, line_end-iff, node-iff}

-- ---- parts of a line

-- a position of the text is within it
here : {s : List ℕ} {at : ℕ} → at ≤ length s → Within at s at
here h = record { past = omega arith; inside = h }

-- a part that is not empty ends past where it began
spans-within : {s t : List ℕ} {at next : ℕ} → Spans s at t next → 0 < length t → Within (suc at) s next
spans-within {s} {t} {at} {next} h k =
    let lengths : length s - at ≡ length t + (length s - next) = simp (length-append, length-drop) at (ap length h.reads) in
    record { past = omega (arith, h.ends); inside = omega (arith, h.ends) }

some-within : {test : ℕ → Bool} {s w : List ℕ} {at next : ℕ} → SomeAt test s at w next → Within (suc at) s next
some-within h = spans-within h.run.spans h.some

line_end-some : {e : List ℕ} → IsLineEnd e → 0 < length e
line_end-some feed = omega arith
line_end-some return-feed = omega arith

module _ (s : List ℕ) (at : ℕ) where
  pub word-within : EndsWithin (suc at) s (word s at)
  word-within = record { ends = λ w next e. some-within ((word-iff s at).0 e) }

  pub gap_within : EndsWithin (suc at) s (gap s at)
  gap_within = record { ends = λ g next e. some-within ((gap-iff s at).0 e) }

  pub line_end-within : EndsWithin (suc at) s (line_end s at)
  line_end-within = record { ends = λ _ next e. let h = (line_end-iff s at).0 e in spans-within h.spans (line_end-some h.is) }

  pub node-within : EndsWithin (suc at) s (node s at)
  node-within = record { ends = λ v next e. some-within ((node-iff s at).0 e).stands }

-- ---- lines

module _ (s : List ℕ) (at : ℕ) where
  pub word_line-within : EndsWithin (suc at) s (word_line s at)
  unfolding word_line
  word_line-within = then-within (word-within s at) (λ w a _. then-within (later-within (line_end-within s a)) (λ _ b h. parsed-within (here h)))

nodes_within-within : (rounds : ℕ) (s : List ℕ) (at : ℕ) → EndsWithin (suc at) s (nodes_within rounds s at)
unfolding nodes_within
nodes_within-within zero s at = malformed-within
nodes_within-within (suc rounds) s at =
    cond-within (is_space (get_or s at 0))
    (λ _. then-within (gap_within s at) (λ _ a _. then-within (later-within (node-within s a)) (λ v b _.
    then-within (later-within (nodes_within-within rounds s b)) (λ vs c h. parsed-within (here h)))))
    (λ _. then-within (line_end-within s at) (λ _ a h. parsed-within (here h)))

-- ---- sections

closing_within-within : (rounds : ℕ) (w s : List ℕ) (at : ℕ) → EndsWithin (suc at) s (closing_within rounds w s at)
unfolding closing_within
closing_within-within zero w s at = malformed-within
closing_within-within (suc rounds) w s at =
    let n : ℕ = run (λ b. not (is_line_feed b)) (drop at s) in
    cond-within (ltb (at + n) (length s))
    (λ e. cond-within (is_line_of w (part s at n))
    (λ _. parsed-within (record { past = omega arith; inside = ltb-true (at + n) (length s) e }))
    (λ _. from-within (omega arith) (closing_within-within rounds w s (suc (at + n)))))
    (λ _. malformed-within)

pub closing_line-within : (w s : List ℕ) (at : ℕ) → EndsWithin (suc at) s (closing_line w s at)
unfolding closing_line
closing_line-within w s at = closing_within-within (length s) w s at

sections_within-within : (rounds : ℕ) (s : List ℕ) (at : ℕ) → EndsWithin (suc at) s (sections_within rounds s at)
unfolding sections_within
sections_within-within zero s at = malformed-within
sections_within-within (suc rounds) s at =
    then-within (word_line-within s at) (λ w a h.
    cond-within (same_word w (opening nodes_name)) (λ _. parsed-within (here h))
    (λ _. cond-within (opens_section w)
    (λ _. then-within (later-within (closing_line-within (ending (drop 1 w)) s a)) (λ _ b _. later-within (sections_within-within rounds s b)))
    (λ _. malformed-within)))

-- ---- rounds

-- A reader that goes round ends within the text and past where it began, and a round goes on from later positions within the text only. So as
-- many rounds as the text has bytes are enough from everywhere.
module _ {A : Type 0} (s : List ℕ) (within : ℕ → ℕ → Parsed A) (body : (ℕ → Parsed A) → ℕ → Parsed A)
    (goes : (rounds at : ℕ) → within (suc rounds) at ≡ body (within rounds) at)
    (ends : (rounds at : ℕ) → EndsWithin (suc at) s (within rounds at))
    (later : (f g : ℕ → Parsed A) (at : ℕ) → ((b : ℕ) → Within (suc at) s b → f b ≡ g b) → body f at ≡ body g at) where
  one_more : (rounds at : ℕ) → length s ≤ at + rounds → within rounds at ≡ within (suc rounds) at
  one_more zero at h =
      let past : length s ≤ at = omega arith in past-within (within 0 at) (ends 0 at) past ∙ sym (past-within (within 1 at) (ends 1 at) past)
  one_more (suc rounds) at h =
      goes rounds at
      ∙ later (within rounds) (within (suc rounds)) at (λ b w. one_more rounds b (omega (arith, w.past)))
      ∙ sym (goes (suc rounds) at)

  rounds-step : (at : ℕ) → within (length s) at ≡ body (within (length s)) at
  rounds-step at = one_more (length s) at (omega arith) ∙ goes (length s) at

pub node_numbers-step : (s : List ℕ) (at : ℕ) → node_numbers s at
    ≡ cond (is_space (get_or s at 0))
    (then (gap s at) (λ _ a. then (node s a) (λ v b. then (node_numbers s b) (λ vs c. parsed (v ∷ vs) c))))
    (then (line_end s at) (λ _ a. parsed [] a))
unfolding node_numbers nodes_within
node_numbers-step s =
    rounds-step s (λ rounds at. nodes_within rounds s at) body (λ rounds at. refl) (λ rounds at. nodes_within-within rounds s at) later
  where
    body : (ℕ → Parsed (List ℕ)) → ℕ → Parsed (List ℕ)
    body f at =
        cond (is_space (get_or s at 0))
        (then (gap s at) (λ _ a. then (node s a) (λ v b. then (f b) (λ vs c. parsed (v ∷ vs) c))))
        (then (line_end s at) (λ _ a. parsed [] a))

    later : (f g : ℕ → Parsed (List ℕ)) (at : ℕ) → ((b : ℕ) → Within (suc at) s b → f b ≡ g b) → body f at ≡ body g at
    later f g at h =
        cond-ext (is_space (get_or s at 0))
        (λ _. then-ext (gap s at) (gap_within s at) (λ _ a k. then-ext (node s a) (node-within s a) (λ v b l.
        ap (λ (p : Parsed (List ℕ)). then p (λ vs c. parsed (v ∷ vs) c)) (h b (record { past = omega (arith, k.past, l.past); inside = l.inside })))))
        (λ _. refl)

pub closing_line-step : (w s : List ℕ) (at : ℕ) → closing_line w s at
    ≡ (let n : ℕ = run (λ b. not (is_line_feed b)) (drop at s) in
    cond (ltb (at + n) (length s)) (cond (is_line_of w (part s at n)) (parsed tt (suc (at + n))) (closing_line w s (suc (at + n)))) malformed)
unfolding closing_line closing_within
closing_line-step w s =
    rounds-step s (λ rounds at. closing_within rounds w s at) body (λ rounds at. refl) (λ rounds at. closing_within-within rounds w s at) later
  where
    -- the length of the line
    line : ℕ → ℕ
    line at = run (λ b. not (is_line_feed b)) (drop at s)

    body : (ℕ → Parsed Unit) → ℕ → Parsed Unit
    body f at =
        cond (ltb (at + line at) (length s)) (cond (is_line_of w (part s at (line at))) (parsed tt (suc (at + line at))) (f (suc (at + line at)))) malformed

    later : (f g : ℕ → Parsed Unit) (at : ℕ) → ((b : ℕ) → Within (suc at) s b → f b ≡ g b) → body f at ≡ body g at
    later f g at h =
        cond-ext (ltb (at + line at) (length s))
        (λ e. cond-ext (is_line_of w (part s at (line at))) (λ _. refl)
        (λ _. h (suc (at + line at)) (record { past = omega arith; inside = ltb-true (at + line at) (length s) e })))
        (λ _. refl)

pub sections-step : (s : List ℕ) (at : ℕ) → sections s at
    ≡ then (word_line s at) (λ w a.
    cond (same_word w (opening nodes_name)) (parsed tt a)
    (cond (opens_section w) (then (closing_line (ending (drop 1 w)) s a) (λ _ b. sections s b)) malformed))
unfolding sections sections_within
sections-step s =
    rounds-step s (λ rounds at. sections_within rounds s at) body (λ rounds at. refl) (λ rounds at. sections_within-within rounds s at) later
  where
    body : (ℕ → Parsed Unit) → ℕ → Parsed Unit
    body f at =
        then (word_line s at) (λ w a.
        cond (same_word w (opening nodes_name)) (parsed tt a)
        (cond (opens_section w) (then (closing_line (ending (drop 1 w)) s a) (λ _ b. f b)) malformed))

    later : (f g : ℕ → Parsed Unit) (at : ℕ) → ((b : ℕ) → Within (suc at) s b → f b ≡ g b) → body f at ≡ body g at
    later f g at h =
        then-ext (word_line s at) (word_line-within s at) (λ w a k.
        cond-ext (same_word w (opening nodes_name)) (λ _. refl)
        (λ _. cond-ext (opens_section w)
        (λ _. then-ext (closing_line (ending (drop 1 w)) s a) (closing_line-within (ending (drop 1 w)) s a) (λ _ b l.
        h b (record { past = omega (arith, k.past, l.past); inside = l.inside })))
        (λ _. refl)))
