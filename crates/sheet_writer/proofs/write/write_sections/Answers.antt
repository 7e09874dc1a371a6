use mathlib.Core.Path.{◌≡◌, refl, sym, ap, ◌∙◌}
use mathlib.Core.List.{List}
use Prim.Native.Nat.{ℕ, suc, ◌+◌, ◌≤◌, ◌<◌}
use native.Mathlib.Numerals.{add-one}
use native.Mathlib.Omega.{arith}
use lib.ListN.{length, take}
use lib.Seq.{take_all}
use Rattle.lists.specs.Splice.{splice}
use Rattle.lists.specs.SpliceLaws.{splice-nil}
use Rattle.complexes.specs.Complex.{Sections, section}
use Rattle.sheet_format.specs.Layout.{top, header_length, section_bytes, sections_bytes, start}
use Rattle.cell_sets.specs.Set.{words_of, HoldsSection, Holds}
use Rattle.cell_sets.specs.declared.set.CellSet.{CellSet}
use Rattle.sheet_writer.specs.Write.{count_of, WritesSection}
use Rattle.sheet_writer.proofs.Bytes.{splice-behind, sections_bytes-next, counts-are, counts-small, length-sections, header-fits, section-fits}
use Rattle.sheet_writer.proofs.write.write_sections.Invariants.{Invariant}
use Rattle.sheet_writer.proofs.write.write_sections.Goals as goal
use Rattle.sheet_writer.proofs.write.write_sections.Goals.{Start, In-loop-p, After-write_section}

none : (s : CellSet) (sheet : List ℕ) → Invariant s sheet sheet 0
unfolding sections_bytes
none s sheet = record { long = refl; is = λ K h. sym (splice-nil header_length sheet) }

module _ {s : CellSet} {sheet₀ sheet : List ℕ} {p : ℕ} (room : header_length ≤ length sheet₀) (inv : Invariant s sheet₀ sheet p) where
  one_more : p < suc top → {at : ℕ} → at ≡ start (count_of s.counts) p → (sheet' : List ℕ) → length sheet' ≡ length sheet
      → WritesSection (p + 1) (words_of s p) at sheet sheet' → Invariant s sheet₀ sheet' (p + 1)
  one_more l {at} e sheet' kept writes = record { long = kept ∙ inv.long; is = is }
    where
      is : (K : Sections) → Holds s K → sheet' ≡ splice header_length (sections_bytes (take (p + 1) K)) sheet₀
      is K h =
          splice-behind header_length at (sections_bytes (take p K)) (section_bytes (section K p)) sheet₀ sheet sheet' room
          (omega (arith, e, ap (λ (n : ℕ → ℕ). start n p) (counts-are h), length-sections h p (omega arith))) (inv.is K h)
          (writes (section K p) (rw (add-one p) t.vertices) (rw t.counted t.words))
          ∙ ap (λ (t : List ℕ). splice header_length t sheet₀)
          (sym (sections_bytes-next K p (omega (arith, h.dimensions))) ∙ ap (λ (n : ℕ). sections_bytes (take n K)) (sym (add-one p)))
        where
          t : HoldsSection s p (section K p)
          t = h.sections p (omega arith)

  all : suc top ≤ p → (K : Sections) → Holds s K → sheet ≡ splice header_length (sections_bytes K) sheet₀
  all l K h = inv.is K h ∙ ap (λ (t : Sections). splice header_length (sections_bytes t) sheet₀) (take_all p K (omega (arith, h.dimensions)))

pub loop-p-init : goal.loop-p-init
loop-p-init c = none _ _

pub section_start-start-requires : goal.section_start-start-requires
section_start-start-requires c = rw c.counts.ensures (omega arith, counts-small c.args.cells.now)

pub write_section-requires : goal.write_section-requires
write_section-requires c = (
  omega arith,
  rw (c.section.ensures.counted, add-one c.loop-p.p)
      (omega (
        arith,
        c.section_start-start.ensures,
        ap (λ (t : List ℕ). start (count_of t) c.loop-p.p) c.counts.ensures,
        section-fits c.args.cells.now c.loop-p.p (omega arith),
        c.requires,
        c.loop-p.invariant.long,
      )),
)

pub loop-p-preserved : goal.loop-p-preserved
loop-p-preserved c =
    one_more (omega (arith, header-fits c.args.cells.now, c.requires)) c.loop-p.invariant (omega arith)
    (c.section_start-start.ensures ∙ ap (λ (t : List ℕ). start (count_of t) c.loop-p.p) c.counts.ensures) _ c.write_section.auto.sheet
    (rw c.section.ensures.words at c.write_section.ensures)

pub returns : goal.returns
returns c = all (omega (arith, header-fits c.args.cells.now, c.requires)) c.loop-p.invariant c.loop-p-test.false
