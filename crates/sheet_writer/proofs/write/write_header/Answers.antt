use mathlib.Core.Path.{◌≡◌, refl, sym, ap, ◌∙◌}
use mathlib.Core.List.{List, ◌++◌, append_assoc}
use Prim.Native.Nat.{ℕ, suc, ◌+◌, ◌*◌, ◌<◌}
use native.Mathlib.Numerals.{add-one}
use native.Mathlib.Omega.{arith}
use lib.ListN.{length, length-append}
use Rattle.lists.specs.Splice.{splice}
use Rattle.lists.specs.SpliceLaws.{splice-nil}
use Rattle.sheet_format.specs.Layout.{top, field, start, header_bytes}
use Rattle.sheet_format.proofs.LayoutLaws.{length-header_bytes}
use Rattle.sheet_writer.proofs.Bytes.{splice-behind, header-next}
use Rattle.sheet_writer.proofs.write.write_header.Invariants.{Invariant}
use Rattle.sheet_writer.proofs.write.write_header.Goals as goal
use Rattle.sheet_writer.proofs.write.write_header.Goals.{After-write_field, After-section_start-start, After-write_field-in-loop-p}

none : (n : ℕ → ℕ) (sheet : List ℕ) → Invariant n sheet sheet 0
unfolding header_bytes
none n sheet = record { long = refl; is = sym (splice-nil 0 sheet) }

one_more : {n : ℕ → ℕ} {sheet₀ sheet : List ℕ} {p : ℕ} → Invariant n sheet₀ sheet p → p < suc top → (s s' : List ℕ) (at : ℕ)
    → s ≡ splice (4 * p) (field (n p)) sheet → at ≡ start n p → s' ≡ splice (4 * p + 2) (field at) s → length s ≡ length sheet → length s' ≡ length s
    → Invariant n sheet₀ s' (p + 1)
one_more {n} {sheet₀} {sheet} {p} inv l s s' at first e second k k' = record {
  long = k' ∙ k ∙ inv.long;
  is =
      splice-behind 0 (4 * p + 2) (before ++ field (n p)) (field at) sheet₀ s s' (omega arith)
      (omega (arith, length-append before (field (n p)), length-header_bytes n p)) counted second
      ∙ ap (λ (t : List ℕ). splice 0 t sheet₀) next;
}
  where
    before : List ℕ
    before = header_bytes n 0 p

    counted : s ≡ splice 0 (before ++ field (n p)) sheet₀
    counted = splice-behind 0 (4 * p) before (field (n p)) sheet₀ sheet s (omega arith) (omega (arith, length-header_bytes n p)) inv.is first

    next : (before ++ field (n p)) ++ field at ≡ header_bytes n 0 (p + 1)
    next =
        append_assoc before (field (n p)) (field at)
        ∙ ap (λ (t : ℕ). before ++ (field (n p) ++ field t)) e
        ∙ sym (header-next n p)
        ∙ ap (header_bytes n 0) (sym (add-one p))

pub loop-p-init : goal.loop-p-init
loop-p-init c = none _ _

pub section_start-start-requires : goal.section_start-start-requires
section_start-start-requires c = (omega arith, c.requires.0)

pub write_field-requires-in-loop-p : goal.write_field-requires-in-loop-p
write_field-requires-in-loop-p c = omega (arith, c.write_field.auto.sheet)

pub loop-p-preserved : goal.loop-p-preserved
loop-p-preserved c =
    let second = (goal.at.loop-p-preserved c).After-write_field-in-loop-p in
    let start = (goal.at.After-write_field-in-loop-p second).After-section_start-start in
    let first = (goal.at.After-section_start-start start).After-write_field in
    one_more first.loop-p.invariant (omega arith) _ _ _ first.write_field.ensures start.section_start-start.ensures
    second.write_field-in-loop-p.ensures first.write_field.auto.sheet second.write_field-in-loop-p.auto.sheet

pub returns : goal.returns
returns c =
    let last : c.loop-p.p ≡ suc top = omega arith in
    rw last at c.loop-p.invariant.is
