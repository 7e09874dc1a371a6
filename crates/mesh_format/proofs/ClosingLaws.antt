-- What the reader of a section's inside reads.
--     is_line_of-iff        the test of the closing line
--     closing_line-iff     lines that do not close the section, and the one that does
use mathlib.Core.Path.{◌≡◌, refl, sym, ap, ◌∙◌, subst}
use mathlib.Core.Logic.{◌↔◌}
use mathlib.Core.Bool.{Bool, true, false, not, cond, ◌||◌, or-true, true≢false, false≢true}
use mathlib.Mathlib.Data.Bool.Basic.{eq-false_of_not-eq-true}
use mathlib.Core.List.{List, [], ◌∷◌, ◌++◌, append_assoc, append_cancel_right}
use Prim.Native.Nat.{ℕ, zero, suc, ◌+◌, ◌<◌}
use native.Mathlib.Omega.{arith}
use lib.Dec.{eqb, ltb}
use lib.ListN.{length, get_or, drop, length-drop}
use lib.Seq.{drop-cons}
use borrow.Author.Tests.{ltb-true, lt-ltb, eqb-true, not-false}
use Rattle.lists.specs.Same.{every}
use Rattle.mesh_format.specs.Words.{line_feed, carriage_return, is_space, is_line_feed, in_word, ending}
use Rattle.mesh_format.specs.Form.{All, all_none, all_more, IsWord, IsLineEnd, feed, return-feed, LineText, last_word, IsBetween, fed}
use Rattle.mesh_format.specs.Parse.{parsed, run, part, same_word, is_line_of, closing_within, closing_line}
use Rattle.mesh_format.proofs.ReadLaws.{malformed-fails, parsed-inj, cond-split}
use Rattle.mesh_format.proofs.StepLaws.{closing_line-step}
use Rattle.mesh_format.proofs.Spans.{Spans, spans-append, spans-split, spans-whole, whole-spans, byte-spans}
use Rattle.mesh_format.proofs.RunLaws.{every_append, every-implies, run_none, run-one, RunAt, run_at, run_length, run-part}
use Rattle.mesh_format.proofs.WordLaws.{same_word-iff}
use Rattle.mesh_format.proofs.LineLaws.{line-ends, LineAt, line_at, text-line}

-- ---- the line of one word

-- t is the word w and a line's end
record OneWord (w t : List ℕ) : Type 0 where
  end : List ℕ
  ends : IsLineEnd end
  text : t ≡ w ++ end

one_word : {w t : List ℕ} → LineText (w ∷ []) t → OneWord w t
one_word {w} {t} h = from (text-line h (spans-whole t))
  where
    from : LineAt t (w ∷ []) 0 (length t) → OneWord w t
    from (line_at k (line-ends e)) = record { end = e.text; ends = e.is; text = whole-spans (spans-append k.run.spans e.spans) }

pub is_line_of-iff : (w : List ℕ) → IsWord w → (l : List ℕ) → is_line_of w l ≡ true ↔ LineText (w ∷ []) (l ++ (line_feed ∷ []))
is_line_of-iff w h l = (pick (same_word l w) refl, λ t. from (one_word t).ends (one_word t).text)
  where
    Closes : List ℕ → Type 0
    Closes x = LineText (w ∷ []) (x ++ (line_feed ∷ []))

    returned : List ℕ
    returned = w ++ (carriage_return ∷ [])

    again : returned ++ (line_feed ∷ []) ≡ w ++ (carriage_return ∷ line_feed ∷ [])
    again = append_assoc w (carriage_return ∷ []) (line_feed ∷ [])

    pick : (t : Bool) → same_word l w ≡ t → t || same_word l returned ≡ true → Closes l
    pick true e k = subst Closes (sym ((same_word-iff l w).0 e)) (last_word h feed)
    pick false e k = subst Closes (sym ((same_word-iff l returned).0 k)) (rw again (last_word h return-feed))

    from : {e : List ℕ} → IsLineEnd e → l ++ (line_feed ∷ []) ≡ w ++ e → is_line_of w l ≡ true
    from feed k = rw ((same_word-iff l w).1 (append_cancel_right l w (line_feed ∷ []) k))
    from return-feed k = rw ((same_word-iff l returned).1 (append_cancel_right l returned (line_feed ∷ []) (k ∙ sym again))) (or-true (same_word l w))

-- ---- a line and its line feed

abbrev not_feed : ℕ → Bool
not_feed b = not (is_line_feed b)

word-no-feed : (b : ℕ) → in_word b ≡ true → not_feed b ≡ true
word-no-feed b e = pick (is_space b || eqb b carriage_return) (is_line_feed b) e
  where
    pick : (t u : Bool) → not (t || u) ≡ true → not u ≡ true
    pick true u h = absurd (false≢true h)
    pick false u h = h

-- t is a line and its line feed
record FedLine (t : List ℕ) : Type 0 where
  line : List ℕ
  no-feed : every not_feed line ≡ true
  text : t ≡ line ++ (line_feed ∷ [])

fed-line : {w t : List ℕ} → IsWord w → LineText (w ∷ []) t → FedLine t
unfolding every
fed-line {w} {t} h c = pick (one_word c).ends (one_word c).text
  where
    no-feed : every not_feed w ≡ true
    no-feed = every-implies word-no-feed w h.plain

    pick : {e : List ℕ} → IsLineEnd e → t ≡ w ++ e → FedLine t
    pick feed k = record { line = w; no-feed = no-feed; text = k }
    pick return-feed k = record {
      line = w ++ (carriage_return ∷ []);
      no-feed = every_append not_feed w (carriage_return ∷ []) no-feed refl;
      text = k ∙ sym (append_assoc w (carriage_return ∷ []) (line_feed ∷ []));
    }

-- ---- to the line that closes a section

-- the next line, if a line feed is left
line-spans : (s : List ℕ) (at : ℕ) → let n : ℕ = run not_feed (drop at s) in
    at + n < length s → Spans s at (part s at n ++ (line_feed ∷ [])) (suc (at + n))
line-spans s at h =
    let end : ℕ = at + run not_feed (drop at s) in
    let b : ℕ = get_or s end 0 in
    let r = run_at not_feed s at in
    let stops : run not_feed (b ∷ drop (suc end) s) ≡ 0 = rw (drop-cons s end 0 h) at r.stops in
    let fed : is_line_feed b ≡ true = not-false (is_line_feed b) ((run_none not_feed b (drop (suc end) s)).0 stops) in
    spans-append r.spans (byte-spans s end line_feed (omega arith) (eqb-true b line_feed fed))

-- one round, where the next line is l
closing-line : (w s : List ℕ) (at : ℕ) (l : List ℕ) {mid : ℕ} → every not_feed l ≡ true → Spans s at (l ++ (line_feed ∷ [])) mid
    → closing_line w s at ≡ cond (is_line_of w l) (parsed tt mid) (closing_line w s mid)
closing-line w s at l {mid} h k =
    let c = spans-split l (line_feed ∷ []) k in
    let stops : run not_feed (drop (at + length l) s) ≡ 0 = rw c.1.reads (run-one not_feed line_feed refl (drop mid s)) in
    let r : RunAt not_feed s at l (at + length l) = record { passes = h; spans = c.0; stops = stops } in
    let ends : mid ≡ suc (at + length l) = omega (arith, c.1.ends) in
    let inside : at + length l < length s = omega (arith, ap length c.1.reads, length-drop (at + length l) s) in
    closing_line-step w s at ∙ rw (run_length not_feed s at r, lt-ltb (at + length l) (length s) inside, run-part not_feed s at r, ends)

-- from `at` to `next` stand lines that do not close the section of this name, and the one that does
pub record ClosedAt (name s : List ℕ) (at next : ℕ) : Type 0 where
  pub between : List (List ℕ)
  pub passed : All (IsBetween name) between
  pub last : List ℕ
  pub closes : LineText (ending name ∷ []) last
  pub spans : Spans s at (fed between ++ last) next

ending-word : {name : List ℕ} → IsWord name → IsWord (ending name)
unfolding every
ending-word h = record { some = omega arith; plain = h.plain }

module _ (name : List ℕ) (h : IsWord name) (s : List ℕ) where
  closing-sound : (rounds at : ℕ) {next : ℕ} → closing_within rounds (ending name) s at ≡ parsed tt next → ClosedAt name s at next
  unfolding closing_within fed
  closing-sound zero at e = absurd (malformed-fails e)
  closing-sound (suc rounds) at {next} e =
      let c = cond-split (ltb (at + n) (length s)) e in
      let spans = line-spans s at (ltb-true (at + n) (length s) c.0) in
      pick (is_line_of (ending name) l) refl c.1 spans (λ e. closing-sound rounds (suc (at + n)) e)
    where
      n : ℕ
      n = run not_feed (drop at s)

      l : List ℕ
      l = part s at n

      iff : is_line_of (ending name) l ≡ true ↔ LineText (ending name ∷ []) (l ++ (line_feed ∷ []))
      iff = is_line_of-iff (ending name) (ending-word h) l

      pick : (t : Bool) → is_line_of (ending name) l ≡ t
          → cond t (parsed tt (suc (at + n))) (closing_within rounds (ending name) s (suc (at + n))) ≡ parsed tt next
          → Spans s at (l ++ (line_feed ∷ [])) (suc (at + n))
          → (closing_within rounds (ending name) s (suc (at + n)) ≡ parsed tt next → ClosedAt name s (suc (at + n)) next)
          → ClosedAt name s at next
      pick true t e spans go = record {
        between = [];
        passed = all_none;
        last = l ++ (line_feed ∷ []);
        closes = iff.0 t;
        spans = rw (parsed-inj e).1 at spans;
      }
      pick false t e spans go = let k = go e in record {
        between = l ∷ k.between;
        passed = all_more (record { no-feed = (run_at not_feed s at).passes; not-closing = λ c. true≢false (sym (iff.1 c) ∙ t) }) k.passed;
        last = k.last;
        closes = k.closes;
        spans = rw (append_assoc (l ++ (line_feed ∷ [])) (fed k.between) k.last) (spans-append spans k.spans);
      }

  between-differs : {l : List ℕ} → IsBetween name l → is_line_of (ending name) l ≡ false
  between-differs {l} b = eq-false_of_not-eq-true (λ e. b.not-closing ((is_line_of-iff (ending name) (ending-word h) l).0 e))

  closing-complete : {between : List (List ℕ)} {last : List ℕ} {at next : ℕ} → All (IsBetween name) between → LineText (ending name ∷ []) last
      → Spans s at (fed between ++ last) next → closing_line (ending name) s at ≡ parsed tt next
  unfolding fed
  closing-complete {last = last} {at = at} all_none c k =
      let f = fed-line (ending-word h) c in
      closing-line (ending name) s at f.line f.no-feed (rw f.text at k)
      ∙ rw ((is_line_of-iff (ending name) (ending-word h) f.line).1 (subst (LineText (ending name ∷ [])) f.text c))
  closing-complete {last = last} {at = at} (all_more {x = l} {l = ls} b bs) c k =
      let d = spans-split (l ++ (line_feed ∷ [])) (fed ls ++ last) (rw (append_assoc (l ++ (line_feed ∷ [])) (fed ls) last) at k) in
      closing-line (ending name) s at l b.no-feed d.0 ∙ rw (between-differs b) (closing-complete bs c d.1)

  pub closing_line-iff : (at : ℕ) {next : ℕ} → closing_line (ending name) s at ≡ parsed tt next ↔ ClosedAt name s at next
  unfolding closing_line
  closing_line-iff at = (closing-sound (length s) at, λ k. closing-complete k.passed k.closes k.spans)
