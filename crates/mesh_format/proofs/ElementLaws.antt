-- What the reader of an element line reads.
--     node_numbers-iff     the rest of a line, node numbers all of it
--     element_line-iff     an element line
use mathlib.Core.Path.{◌≡◌, refl, sym, ◌∙◌, subst}
use mathlib.Core.Logic.{◌↔◌}
use mathlib.Core.Bool.{Bool, true, false, cond, and-eq-true_iff}
use mathlib.Core.List.{List, [], ◌∷◌, ◌++◌}
use Prim.Native.Nat.{ℕ, zero, suc}
use native.Mathlib.Omega.{arith}
use lib.ListN.{length, get_or, drop}
use Rattle.lists.specs.Same.{every}
use Rattle.mesh_format.specs.Mesh.{Element}
use Rattle.mesh_format.specs.Words.{line_feed, carriage_return, is_space}
use Rattle.mesh_format.specs.Form.{Each, each_none, each_more, IsLineEnd, feed, return-feed, IsNumber, IsNode, ElementLine, element-line}
use Rattle.mesh_format.specs.Parse.{Parsed, parsed, then, gap, line_end, number, node, words, nodes_within, node_numbers, element_line}
use Rattle.mesh_format.proofs.ReadLaws.{malformed-fails, parsed-inj, then-case}
use Rattle.mesh_format.proofs.StepLaws.{node_numbers-step}
use Rattle.mesh_format.proofs.Spans.{Spans, get_or-front}
use Rattle.mesh_format.proofs.RunLaws.{SomeAt}
use Rattle.mesh_format.proofs.WordLaws.{gap-iff, number-iff, node-iff}
use Rattle.mesh_format.proofs.LineLaws.{RestAt, line-ends, word-follows, LineAt, line_at, LineOf, then-line_end, words-rest, rest-words}

-- the rest of a line is the numbers of these nodes
pub record NumbersAt (vs : List ℕ) (s : List ℕ) (at next : ℕ) : Type 0 where
  pub words : List (List ℕ)
  pub are : Each IsNode vs words
  pub stands : RestAt s words at next

nodes-sound : (rounds : ℕ) (s : List ℕ) (at : ℕ) {vs : List ℕ} {next : ℕ} → nodes_within rounds s at ≡ parsed vs next → NumbersAt vs s at next
unfolding nodes_within
nodes-sound zero s at e = absurd (malformed-fails e)
nodes-sound (suc rounds) s at {vs} {next} e = pick (is_space (get_or s at 0)) e (λ b us e. nodes-sound rounds s b e)
  where
    more : Parsed (List ℕ)
    more = then (gap s at) (λ _ a. then (node s a) (λ v b. then (nodes_within rounds s b) (λ vs c. parsed (v ∷ vs) c)))

    pick : (t : Bool) → cond t more (then (line_end s at) (λ _ a. parsed [] a)) ≡ parsed vs next
        → ((b : ℕ) (us : List ℕ) → nodes_within rounds s b ≡ parsed us next → NumbersAt us s b next)
        → NumbersAt vs s at next
    pick true e go =
        then-case (gap s at) e (λ _ a e₁ r₁. then-case (node s a) r₁ (λ v b e₂ r₂. then-case (nodes_within rounds s b) r₂ (λ us c e₃ r₃.
        let w = (node-iff s a).0 e₂ in
        let r = go b us (rw (parsed-inj r₃).1 at e₃) in
        subst (λ (us : List ℕ). NumbersAt us s at next) (parsed-inj r₃).0 (record {
          words = w.word ∷ r.words;
          are = each_more w.is r.are;
          stands = word-follows ((gap-iff s at).0 e₁) w.stands r.stands;
        }))))
    pick false e go =
        let l = (then-line_end s at).0 e in
        subst (λ (us : List ℕ). NumbersAt us s at next) l.0 (record { words = []; are = each_none; stands = line-ends l.1 })

-- spaces begin with one, and a line's end with none
gap-space : {s : List ℕ} {at next : ℕ} (g : List ℕ) → SomeAt is_space s at g next → is_space (get_or s at 0) ≡ true
unfolding every
gap-space [] h = absurd (omega (arith, h.some))
gap-space {s} {at} {next} (b ∷ g) h =
    rw (get_or-front s at b 0 (g ++ drop next s) h.run.spans.reads) ((and-eq-true_iff (is_space b) (every is_space g)).0 h.run.passes).0

line_end-no-space : {s : List ℕ} {at next : ℕ} {e : List ℕ} → IsLineEnd e → Spans s at e next → is_space (get_or s at 0) ≡ false
line_end-no-space {s} {at} {next} feed h = rw (get_or-front s at line_feed 0 (drop next s) h.reads)
line_end-no-space {s} {at} {next} return-feed h = rw (get_or-front s at carriage_return 0 (line_feed ∷ drop next s) h.reads)

nodes-complete : {s : List ℕ} {vs : List ℕ} {ws : List (List ℕ)} {at next : ℕ} → Each IsNode vs ws → RestAt s ws at next → node_numbers s at ≡ parsed vs next
unfolding then
nodes-complete {s} {at = at} each_none (line-ends e) =
    node_numbers-step s at ∙ rw (line_end-no-space e.is e.spans) ((then-line_end s at).1 (refl, e))
nodes-complete {s} {at = at} (each_more k ks) (word-follows {a = a} {b = b} {g = g} h w r) =
    node_numbers-step s at
    ∙ rw (gap-space g h, (gap-iff s at).1 h, (node-iff s a).1 (record { word = _; is = k; stands = w }), nodes-complete ks r)

pub node_numbers-iff : (s : List ℕ) (at : ℕ) {vs : List ℕ} {next : ℕ} → node_numbers s at ≡ parsed vs next ↔ NumbersAt vs s at next
unfolding node_numbers
node_numbers-iff s at = (nodes-sound (length s) s at, λ h. nodes-complete h.are h.stands)

pub element_line-iff : (s : List ℕ) (at : ℕ) {e : Element} {next : ℕ} → element_line s at ≡ parsed e next ↔ LineOf (ElementLine e) s at next
unfolding element_line then
element_line-iff s at {e} {next} = (to, λ h. from h.is h.stands)
  where
    to : element_line s at ≡ parsed e next → LineOf (ElementLine e) s at next
    to e₀ =
        then-case (number s at) e₀ (λ _ a e₁ r₁. then-case (gap s a) r₁ (λ _ b e₂ r₂. then-case (number s b) r₂ (λ kind c e₃ r₃.
        then-case (gap s c) r₃ (λ _ d e₄ r₄. then-case (number s d) r₄ (λ n f e₅ r₅.
        then-case (words n s f) r₅ (λ _ g e₆ r₆. then-case (node_numbers s g) r₆ (λ vs h e₇ r₇.
        let i = (number-iff s at).0 e₁ in
        let k = (number-iff s b).0 e₃ in
        let t = (number-iff s d).0 e₅ in
        let ns = (node_numbers-iff s g).0 (rw (parsed-inj r₇).1 at e₇) in
        let ts = words-rest n s f e₆ ns.stands in
        subst (λ (x : Element). LineOf (ElementLine x) s at next) (parsed-inj r₇).0 (record {
          words = i.word ∷ k.word ∷ t.word ∷ (ts.words ++ ns.words);
          is = element-line ts.words i.is k.is (subst (λ (n : ℕ). IsNumber n t.word) (sym ts.many) t.is) ns.are;
          stands = line_at i.stands (word-follows ((gap-iff s a).0 e₂) k.stands (word-follows ((gap-iff s c).0 e₄) t.stands ts.stands));
        }))))))))

    from : {ws : List (List ℕ)} → ElementLine e ws → LineAt s ws at next → element_line s at ≡ parsed e next
    from (element-line tags {nodes = nodes} i k t ns) (line_at {a = a} h (word-follows {a = b} {b = c} g₁ w₁ (word-follows {a = d} {b = f} g₂ w₂ r))) =
        let p = rest-words tags r in
        rw (
          (number-iff s at).1 (record { word = _; is = i; stands = h }),
          (gap-iff s a).1 g₁,
          (number-iff s b).1 (record { word = _; is = k; stands = w₁ }),
          (gap-iff s c).1 g₂,
          (number-iff s d).1 (record { word = _; is = t; stands = w₂ }),
          p.reads,
          nodes-complete ns p.stands,
        )
