-- Lines one after another, and what the readers of a count and that many lines read.
--     LinesAt, lines-text, text-lines      lines of these words, by their positions or by their text
--     lines_join, lines_split              two lists of lines
--     CountedAt, counted-iff               a count, that many lines of one sort and the line that closes them
use mathlib.Core.Path.{◌≡◌, sym, ap, ◌∙◌, subst}
use mathlib.Core.Logic.{◌↔◌}
use mathlib.Core.List.{List, [], ◌∷◌, ◌++◌}
use Prim.Native.Nat.{ℕ, zero, suc}
use native.Mathlib.Omega.{arith}
use lib.ListN.{length}
use Rattle.mesh_format.specs.Form.{Each, each_none, each_more, LinesText, no_lines, more-lines, IsNumber}
use Rattle.mesh_format.specs.Parse.{Parsed, parsed, then, title_line, count_line}
use Rattle.mesh_format.proofs.ReadLaws.{parsed-inj, then-case, Repeats}
use Rattle.mesh_format.proofs.Spans.{Spans, Stands, spans-nil, spans-append, spans-split}
use Rattle.mesh_format.proofs.LineLaws.{LineAt, line-text, text-line, LineOf, title_line-iff, count_line-iff}

-- ---- lines and where they stand

-- from `at` to `next` stand lines of these words
pub data LinesAt (s : List ℕ) : List (List (List ℕ)) → ℕ → ℕ → Type 0 where
  no-lines-at : {at : ℕ} → LinesAt s [] at at
  more-lines-at : {at mid next : ℕ} {ws : List (List ℕ)} {l : List (List (List ℕ))} → LineAt s ws at mid → LinesAt s l mid next → LinesAt s (ws ∷ l) at next

module _ {s : List ℕ} where
  pub lines-text : {l : List (List (List ℕ))} {at next : ℕ} → LinesAt s l at next → Stands (LinesText l) s at next
  lines-text no-lines-at = record { text = []; is = no_lines; spans = spans-nil }
  lines-text (more-lines-at h k) =
      let t = line-text h in
      let u = lines-text k in
      record { text = t.text ++ u.text; is = more-lines t.is u.is; spans = spans-append t.spans u.spans }

  pub text-lines : {l : List (List (List ℕ))} {t : List ℕ} {at next : ℕ} → LinesText l t → Spans s at t next → LinesAt s l at next
  text-lines {at = at} {next = next} no_lines h = let e : at ≡ next = omega (arith, h.ends) in subst (LinesAt s [] at) e no-lines-at
  text-lines (more-lines {t = t} {u = u} k l) h = let c = spans-split t u h in more-lines-at (text-line k c.0) (text-lines l c.1)

  pub lines_join : {k l : List (List (List ℕ))} {at mid next : ℕ} → LinesAt s k at mid → LinesAt s l mid next → LinesAt s (k ++ l) at next
  lines_join no-lines-at h = h
  lines_join (more-lines-at a b) h = more-lines-at a (lines_join b h)

  pub lines_split : (k : List (List (List ℕ))) {l : List (List (List ℕ))} {at next : ℕ} {C : Type 0} → LinesAt s (k ++ l) at next
      → ((mid : ℕ) → LinesAt s k at mid → LinesAt s l mid next → C)
      → C
  lines_split [] {at = at} h go = go at no-lines-at h
  lines_split (ws ∷ k) (more-lines-at a b) go = lines_split k b (λ mid front back. go mid (more-lines-at a front) back)

-- ---- a count and that many lines

-- the lines of a count, these lines and the line of the word `close`
abbrev pub counted_lines : List ℕ → List (List (List ℕ)) → List ℕ → List (List (List ℕ))
counted_lines count lines close = (count ∷ []) ∷ (lines ++ ((close ∷ []) ∷ []))

-- from `at` to `next` stand the count of the list xs, a line of this sort for each of it, and the line that closes them
pub record CountedAt {A : Type 0} (Sort : A → List (List ℕ) → Type 0) (close : List ℕ) (xs : List A) (s : List ℕ) (at next : ℕ) : Type 0 where
  pub count : List ℕ
  pub counts : IsNumber (length xs) count
  pub lines : List (List (List ℕ))
  pub are : Each Sort xs lines
  pub stand : LinesAt s (counted_lines count lines close) at next

module _ {A : Type 0} (Sort : A → List (List ℕ) → Type 0) {line : List ℕ → ℕ → Parsed A} {lines : ℕ → List ℕ → ℕ → Parsed (List A)}
    (repeats : Repeats line lines)
    (line-iff : (s : List ℕ) (at : ℕ) (x : A) (next : ℕ) → line s at ≡ parsed x next ↔ LineOf (Sort x) s at next) where
  lines-sound : (n : ℕ) (s : List ℕ) (at : ℕ) {xs : List A} {next : ℕ} {C : Type 0} → lines n s at ≡ parsed xs next
      → ((l : List (List (List ℕ))) → Each Sort xs l → length xs ≡ n → LinesAt s l at next → C)
      → C
  lines-sound zero s at e go =
      let p = parsed-inj (sym (repeats.none s at) ∙ e) in
      go [] (subst (λ (xs : List A). Each Sort xs []) p.0 each_none) (ap length (sym p.0)) (subst (LinesAt s [] at) p.1 no-lines-at)
  lines-sound (suc n) s at {next = next} e go =
      then-case (line s at) (sym (repeats.more n s at) ∙ e) (λ x a e₁ r₁. then-case (lines n s a) r₁ (λ xs b e₂ r₂.
      let p = parsed-inj r₂ in
      let h = (line-iff s at x a).0 e₁ in
      lines-sound n s a (rw p.1 at e₂) (λ l are many stand.
      go (h.words ∷ l) (subst (λ (ys : List A). Each Sort ys (h.words ∷ l)) p.0 (each_more h.is are))
      (ap length (sym p.0) ∙ ap suc many) (more-lines-at h.stands stand))))

  lines-complete : {s : List ℕ} {xs : List A} {l : List (List (List ℕ))} {at next : ℕ}
      → Each Sort xs l → LinesAt s l at next → lines (length xs) s at ≡ parsed xs next
  unfolding then
  lines-complete {s} {at = at} each_none no-lines-at = repeats.none s at
  lines-complete {s} {at = at} (each_more {l = xs} h hs) (more-lines-at {mid = mid} k ks) =
      repeats.more (length xs) s at ∙ rw ((line-iff s at _ mid).1 (record { words = _; is = h; stands = k }), lines-complete hs ks)

  pub counted-iff : (close s : List ℕ) (at : ℕ) {xs : List A} {next : ℕ}
      → then (count_line s at) (λ n a. then (lines n s a) (λ xs b. then (title_line close s b) (λ _ c. parsed xs c))) ≡ parsed xs next
      ↔ CountedAt Sort close xs s at next
  unfolding then
  counted-iff close s at {xs} {next} = (to, λ h. from h h.stand)
    where
      to : then (count_line s at) (λ n a. then (lines n s a) (λ xs b. then (title_line close s b) (λ _ c. parsed xs c))) ≡ parsed xs next
          → CountedAt Sort close xs s at next
      to e =
          then-case (count_line s at) e (λ n a e₁ r₁. then-case (lines n s a) r₁ (λ ys b e₂ r₂. then-case (title_line close s b) r₂ (λ _ c e₃ r₃.
          let p = parsed-inj r₃ in
          let h = (count_line-iff s at).0 e₁ in
          let closes : LineAt s (close ∷ []) b next = (title_line-iff s b close).0 (rw p.1 at e₃) in
          lines-sound n s a (rw p.0 at e₂) (λ l are many stand. record {
            count = h.word;
            counts = subst (λ (k : ℕ). IsNumber k h.word) (sym many) h.is;
            lines = l;
            are = are;
            stand = more-lines-at h.stands (lines_join stand (more-lines-at closes no-lines-at));
          }))))

      from : (h : CountedAt Sort close xs s at next) → LinesAt s (counted_lines h.count h.lines close) at next
          → then (count_line s at) (λ n a. then (lines n s a) (λ xs b. then (title_line close s b) (λ _ c. parsed xs c))) ≡ parsed xs next
      from h (more-lines-at {mid = a} c rest) = lines_split h.lines rest (λ b l end.
          rw ((count_line-iff s at).1 (record { word = h.count; is = h.counts; stands = c }), lines-complete h.are l)
          (close-line b end))
        where
          close-line : (b : ℕ) → LinesAt s ((close ∷ []) ∷ []) b next → then (title_line close s b) (λ _ c. parsed xs c) ≡ parsed xs next
          close-line b (more-lines-at k no-lines-at) = rw ((title_line-iff s b close).1 k)
