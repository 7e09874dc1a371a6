-- What the reader of sections passed over reads.
--     opens-test, opening-word     the words that open such a section
--     sections-iff                 sections, and behind them the line `$Nodes`
use mathlib.Core.Path.{◌≡◌, refl, sym, ap, ◌∙◌, ap₂, subst}
use mathlib.Core.Logic.{◌↔◌, ◌≢◌}
use mathlib.Core.Bool.{Bool, true, false, not, cond, ◌&&◌, ◌||◌, and-eq-true_iff, true≢false, false≢true}
use mathlib.Mathlib.Data.Bool.Basic.{eq-false_of_not-eq-true}
use mathlib.Core.List.{List, [], ◌∷◌, ◌++◌}
use Prim.Native.Nat.{ℕ, zero, suc, ◌+◌}
use native.Mathlib.Omega.{arith}
use lib.Dec.{eqb, ltb}
use lib.ListN.{length, drop}
use borrow.Author.Tests.{ltb-true, lt-ltb, eqb-true}
use Rattle.lists.specs.Same.{every, same_list}
use Rattle.mesh_format.specs.Words.{in_word, mesh_format_name, nodes_name, elements_name, opening, ending}
use Rattle.mesh_format.specs.Form.{All, all_none, all_more, joined, IsWord, fed, SectionText}
use Rattle.mesh_format.specs.Parse.{Parsed, malformed, parsed, then, same_word, word_line, closing_line, opens_section, sections_within, sections}
use Rattle.mesh_format.proofs.ReadLaws.{malformed-fails, parsed-inj, then-case, cond-split}
use Rattle.mesh_format.proofs.StepLaws.{sections-step}
use Rattle.mesh_format.proofs.Spans.{Spans, Stands, spans-nil, spans-append, spans-split}
use Rattle.mesh_format.proofs.WordLaws.{word-is, same_word-iff}
use Rattle.mesh_format.proofs.ClosingLaws.{ClosedAt, closing_line-iff}
use Rattle.mesh_format.proofs.LineLaws.{LineAt, line_at, line-text, text-line, word_line-iff}

-- ---- the words that open a section

same_word-differs : (v w : List ℕ) → same_word v w ≡ false ↔ v ≢ w
same_word-differs v w = (λ e k. true≢false (sym ((same_word-iff v w).1 k) ∙ e), λ h. eq-false_of_not-eq-true (λ e. h ((same_word-iff v w).0 e)))

-- the name may open a section that is passed over
pub record Opens (name : List ℕ) : Type 0 where
  pub is_word : IsWord name
  pub no-format : name ≢ mesh_format_name
  pub no-nodes : name ≢ nodes_name
  pub no-elements : name ≢ elements_name

opens-test : {name : List ℕ} → Opens name → (same_word (opening name) (opening nodes_name) ≡ false) × (opens_section (opening name) ≡ true)
unfolding same_list
opens-test {name} o =
    let f = (same_word-differs name mesh_format_name).1 o.no-format in
    let n = (same_word-differs name nodes_name).1 o.no-nodes in
    let e = (same_word-differs name elements_name).1 o.no-elements in
    (n, rw (f, n, e, lt-ltb 1 (suc (length name)) (omega (arith, o.is_word.some))))

-- a word that passes the tests is `$` and such a name
record OpeningWord (w : List ℕ) : Type 0 where
  opens : Opens (drop 1 w)
  word : w ≡ opening (drop 1 w)

none_of : (x y z : Bool) → not (x || y || z) ≡ true → (x ≡ false) × (y ≡ false) × (z ≡ false)
none_of true y z e = absurd (false≢true e)
none_of false true z e = absurd (false≢true e)
none_of false false true e = absurd (false≢true e)
none_of false false false e = (refl, refl, refl)

opening-word : (w : List ℕ) → IsWord w → opens_section w ≡ true → OpeningWord w
unfolding every
opening-word [] h e = absurd (false≢true e)
opening-word (b ∷ name) h e =
    let w : List ℕ = b ∷ name in
    let format : Bool = same_word w (opening mesh_format_name) in
    let nodes : Bool = same_word w (opening nodes_name) in
    let elements : Bool = same_word w (opening elements_name) in
    let tests = (and-eq-true_iff (eqb b 36 && ltb 1 (length w)) (not (format || nodes || elements))).0 e in
    let front = (and-eq-true_iff (eqb b 36) (ltb 1 (length w))).0 tests.0 in
    let none = none_of format nodes elements tests.1 in
    let dollar : b ≡ 36 = eqb-true b 36 front.0 in
    record {
      opens = record {
        is_word = record {
          some = omega (arith, ltb-true 1 (length w) front.1);
          plain = ((and-eq-true_iff (in_word b) (every in_word name)).0 h.plain).1;
        };
        no-format = λ k. (same_word-differs w (opening mesh_format_name)).0 none.0 (ap₂ ◌∷◌ dollar k);
        no-nodes = λ k. (same_word-differs w (opening nodes_name)).0 none.1 (ap₂ ◌∷◌ dollar k);
        no-elements = λ k. (same_word-differs w (opening elements_name)).0 none.2 (ap₂ ◌∷◌ dollar k);
      };
      word = ap (λ (x : ℕ). x ∷ name) dollar;
    }

-- ---- sections

-- from `at` to `next` stand sections that are passed over, and the line `$Nodes`
pub record SectionsAt (s : List ℕ) (at next : ℕ) : Type 0 where
  pub texts : List (List ℕ)
  pub passed_over : All SectionText texts
  pub mid : ℕ
  pub spans : Spans s at (joined texts) mid
  pub opens : LineAt s (opening nodes_name ∷ []) mid next

-- a section, from its opening line and what closes it
section-text : {name s : List ℕ} {at a b : ℕ} → Opens name → LineAt s (opening name ∷ []) at a → ClosedAt name s a b → Stands SectionText s at b
section-text {name} o l c = let t = line-text l in record {
  text = t.text ++ (fed c.between ++ c.last);
  is = record {
    name = name;
    is_word = o.is_word;
    no-format = o.no-format;
    no-nodes = o.no-nodes;
    no-elements = o.no-elements;
    first = t.text;
    opens = t.is;
    between = c.between;
    passed = c.passed;
    last = c.last;
    closes = c.closes;
    text = refl;
  };
  spans = spans-append t.spans c.spans;
}

line_word : {s w : List ℕ} {at next : ℕ} → LineAt s (w ∷ []) at next → IsWord w
line_word (line_at h r) = word-is h

sections-sound : (rounds : ℕ) (s : List ℕ) (at : ℕ) {next : ℕ} → sections_within rounds s at ≡ parsed tt next → SectionsAt s at next
unfolding sections_within joined
sections-sound zero s at e = absurd (malformed-fails e)
sections-sound (suc rounds) s at {next} e =
    then-case (word_line s at) e (λ w a e₁ r. pick w a ((word_line-iff s at).0 e₁) (same_word w (opening nodes_name)) refl r (λ b e. sections-sound rounds s b e))
  where
    -- the section that w opens, and what follows
    passed : List ℕ → ℕ → Parsed Unit
    passed w a = then (closing_line (ending (drop 1 w)) s a) (λ _ b. sections_within rounds s b)

    pick : (w : List ℕ) (a : ℕ) → LineAt s (w ∷ []) at a → (t : Bool) → same_word w (opening nodes_name) ≡ t
        → cond t (parsed tt a) (cond (opens_section w) (passed w a) malformed) ≡ parsed tt next
        → ((b : ℕ) → sections_within rounds s b ≡ parsed tt next → SectionsAt s b next)
        → SectionsAt s at next
    pick w a l true k e go =
        let named : LineAt s (opening nodes_name ∷ []) at a = subst (λ (v : List ℕ). LineAt s (v ∷ []) at a) ((same_word-iff w (opening nodes_name)).0 k) l in
        record { texts = []; passed_over = all_none; mid = at; spans = spans-nil; opens = rw (parsed-inj e).1 at named }
    pick w a l false k e go =
        let c = cond-split (opens_section w) e in
        let o = opening-word w (line_word l) c.0 in
        let named : LineAt s (opening (drop 1 w) ∷ []) at a = subst (λ (v : List ℕ). LineAt s (v ∷ []) at a) o.word l in
        then-case (closing_line (ending (drop 1 w)) s a) c.1 (λ _ b e₁ r.
        let t = section-text o.opens named ((closing_line-iff (drop 1 w) o.opens.is_word s a).0 e₁) in
        let m = go b r in
        record {
          texts = t.text ∷ m.texts;
          passed_over = all_more t.is m.passed_over;
          mid = m.mid;
          spans = spans-append t.spans m.spans;
          opens = m.opens;
        })

sections-complete : {s : List ℕ} {texts : List (List ℕ)} {at mid next : ℕ} → All SectionText texts → Spans s at (joined texts) mid
    → LineAt s (opening nodes_name ∷ []) mid next → sections s at ≡ parsed tt next
unfolding then joined
sections-complete {s} {at = at} {mid = mid} {next = next} all_none k l =
    let here : mid ≡ at = omega (arith, k.ends) in
    let opens : LineAt s (opening nodes_name ∷ []) at next = rw here at l in
    sections-step s at ∙ rw ((word_line-iff s at).1 opens, (same_word-iff (opening nodes_name) (opening nodes_name)).1 refl)
sections-complete {s} {at = at} (all_more {x = t} {l = ts} o os) k l =
    let c = spans-split t (joined ts) k in
    let whole = subst (λ (u : List ℕ). Spans s at u (at + length t)) o.text c.0 in
    let d = spans-split o.first (fed o.between ++ o.last) whole in
    let tests = opens-test (record { is_word = o.is_word; no-format = o.no-format; no-nodes = o.no-nodes; no-elements = o.no-elements }) in
    let closed : ClosedAt o.name s (at + length o.first) (at + length t) = record {
      between = o.between;
      passed = o.passed;
      last = o.last;
      closes = o.closes;
      spans = d.1;
    } in
    let first = (word_line-iff s at).1 (text-line o.opens d.0) in
    let last = (closing_line-iff o.name o.is_word s (at + length o.first)).1 closed in
    sections-step s at ∙ rw (first, tests.1, tests.0, last) (sections-complete os c.1 l)

pub sections-iff : (s : List ℕ) (at : ℕ) {next : ℕ} → sections s at ≡ parsed tt next ↔ SectionsAt s at next
unfolding sections
sections-iff s at = (sections-sound (length s) s at, λ k. sections-complete k.passed_over k.spans k.opens)
