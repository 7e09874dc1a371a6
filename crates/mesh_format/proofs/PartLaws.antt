-- What the readers of the parts of a text read.
--     head_of-iff         the lines up to the sections that are passed over, these, and the line `$Nodes`
--     nodes_of-iff        the other lines of the nodes
--     elements_of-iff     the lines of the elements
use mathlib.Core.Path.{◌≡◌}
use mathlib.Core.Logic.{◌↔◌}
use mathlib.Core.List.{List, [], ◌∷◌}
use Prim.Native.Nat.{ℕ}
use Rattle.mesh_format.specs.Mesh.{Element}
use Rattle.mesh_format.specs.Words.{mesh_format_name, nodes_name, elements_name, opening, ending}
use Rattle.mesh_format.specs.Form.{IsNumber, NodeLine, ElementLine, head_lines}
use Rattle.mesh_format.specs.Parse.{parsed, then, format_line, title_line, head_of, nodes_of, elements_of}
use Rattle.mesh_format.proofs.ReadLaws.{then-case, node_lines-repeats, element_lines-repeats}
use Rattle.mesh_format.proofs.LineLaws.{LineAt, title_line-iff, format_line-iff, node_line-iff}
use Rattle.mesh_format.proofs.ElementLaws.{element_line-iff}
use Rattle.mesh_format.proofs.LinesLaws.{LinesAt, no-lines-at, more-lines-at, CountedAt, counted-iff}
use Rattle.mesh_format.proofs.SectionLaws.{SectionsAt, sections-iff}

-- ---- before the nodes

-- from the start to `next` stand the lines up to the sections that are passed over, these, and the line `$Nodes`
pub record HeadAt (s : List ℕ) (next : ℕ) : Type 0 where
  pub version : ℕ
  pub version-word : List ℕ
  pub is-version : IsNumber version version-word
  pub mid : ℕ
  pub stand : LinesAt s (head_lines version-word) 0 mid
  pub sections : SectionsAt s mid next

pub head_of-iff : (s : List ℕ) {next : ℕ} → head_of s ≡ parsed tt next ↔ HeadAt s next
unfolding head_of then
head_of-iff s {next} = (to, λ h. from h.is-version h.stand h.sections)
  where
    to : head_of s ≡ parsed tt next → HeadAt s next
    to e =
        then-case (title_line (opening mesh_format_name) s 0) e (λ _ a e₁ r₁. then-case (format_line s a) r₁ (λ _ b e₂ r₂.
        then-case (title_line (ending mesh_format_name) s b) r₂ (λ _ c e₃ r₃.
        let f = (format_line-iff s a).0 e₂ in
        let opens : LineAt s (opening mesh_format_name ∷ []) 0 a = (title_line-iff s 0 (opening mesh_format_name)).0 e₁ in
        let ends : LineAt s (ending mesh_format_name ∷ []) b c = (title_line-iff s b (ending mesh_format_name)).0 e₃ in
        record {
          version = f.version;
          version-word = f.word;
          is-version = f.is;
          mid = c;
          stand = more-lines-at opens (more-lines-at f.stands (more-lines-at ends no-lines-at));
          sections = (sections-iff s c).0 r₃;
        })))

    from : {v : ℕ} {w : List ℕ} {c : ℕ} → IsNumber v w → LinesAt s (head_lines w) 0 c → SectionsAt s c next → head_of s ≡ parsed tt next
    from h (more-lines-at {mid = a} k (more-lines-at {mid = b} l (more-lines-at {mid = c} m no-lines-at))) n =
        rw (
          (title_line-iff s 0 (opening mesh_format_name)).1 k,
          (format_line-iff s a).1 (record { version = _; word = _; is = h; stands = l }),
          (title_line-iff s b (ending mesh_format_name)).1 m,
          (sections-iff s c).1 n,
        )

-- ---- nodes and elements

-- a count, that many lines of nodes and the line `$EndNodes`
abbrev pub NodesAt : List ℕ → List ℕ → ℕ → ℕ → Type 0
NodesAt = CountedAt NodeLine (ending nodes_name)

pub nodes_of-iff : (s : List ℕ) (at : ℕ) {vs : List ℕ} {next : ℕ} → nodes_of s at ≡ parsed vs next ↔ NodesAt vs s at next
unfolding nodes_of
nodes_of-iff s at = counted-iff NodeLine node_lines-repeats (λ s at v next. node_line-iff s at) (ending nodes_name) s at

-- from `at` to `next` stand the line `$Elements`, a count, that many lines of elements and the line `$EndElements`
pub record ElementsAt (es : List Element) (s : List ℕ) (at next : ℕ) : Type 0 where
  pub mid : ℕ
  pub opens : LineAt s (opening elements_name ∷ []) at mid
  pub counted : CountedAt ElementLine (ending elements_name) es s mid next

pub elements_of-iff : (s : List ℕ) (at : ℕ) {es : List Element} {next : ℕ} → elements_of s at ≡ parsed es next ↔ ElementsAt es s at next
unfolding elements_of then
elements_of-iff s at {es} {next} = (to, from)
  where
    to : elements_of s at ≡ parsed es next → ElementsAt es s at next
    to e = then-case (title_line (opening elements_name) s at) e (λ _ a e₁ r. record {
      mid = a;
      opens = (title_line-iff s at (opening elements_name)).0 e₁;
      counted = (counted-iff ElementLine element_lines-repeats (λ s at e next. element_line-iff s at) (ending elements_name) s a).0 r;
    })

    from : ElementsAt es s at next → elements_of s at ≡ parsed es next
    from h = rw ((title_line-iff s at (opening elements_name)).1 h.opens)
        ((counted-iff ElementLine element_lines-repeats (λ s at e next. element_line-iff s at) (ending elements_name) s h.mid).1 h.counted)
