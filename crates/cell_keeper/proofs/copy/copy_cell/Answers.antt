use mathlib.Core.Path.{◌≡◌, refl, sym, ap, ◌∙◌}
use mathlib.Core.List.{List, ◌++◌}
use Prim.Native.Nat.{ℕ, ◌+◌, ◌*◌, ◌≤◌, ◌<◌}
use native.Mathlib.Numerals.{add-one}
use native.Mathlib.Omega.{arith}
use lib.ListN.{length, take}
use lib.Seq.{length-take-le, take_all}
use Rattle.lists.specs.Splice.{splice}
use Rattle.lists.specs.SpliceLaws.{splice-nil}
use Rattle.complexes.specs.Cell.{Cell}
use Rattle.sheet_format.specs.Layout.{field, cell_bytes}
use Rattle.sheet_format.specs.Check.{field_at, cell_of}
use Rattle.sheet_format.specs.SheetLaws.{length-cell_of, get_or-cell_of}
use Rattle.sheet_format.proofs.LayoutLaws.{length-cell_bytes}
use Rattle.sheet_writer.proofs.Bytes.{splice-behind, cell_bytes-next}
use Rattle.cell_keeper.proofs.copy.copy_cell.Invariants.{Invariant}
use Rattle.cell_keeper.proofs.copy.copy_cell.Goals as goal
use Rattle.cell_keeper.proofs.copy.copy_cell.Goals.{At-loop-j, After-write_field}

none : (s : List ℕ) (at n : ℕ) (sheet : List ℕ) (to : ℕ) → Invariant s at n sheet to sheet 0
unfolding cell_bytes
none s at n sheet to = record { within = omega arith; long = refl; is = sym (splice-nil to sheet) }

module _ {s : List ℕ} {at n : ℕ} {sheet₀ : List ℕ} {to : ℕ} {sheet : List ℕ} {j : ℕ} (room : to + 2 * n ≤ length sheet₀)
    (inv : Invariant s at n sheet₀ to sheet j) where
  one_more : j < n → {v : ℕ} → v ≡ field_at s (at + 2 * j) → {sheet' : List ℕ} → length sheet' ≡ length sheet
      → sheet' ≡ splice (to + 2 * j) (field v) sheet → Invariant s at n sheet₀ to sheet' (j + 1)
  one_more l {v} vertex {sheet'} kept e = record {
    within = omega arith;
    long = kept ∙ inv.long;
    is =
        splice-behind to (to + 2 * j) (cell_bytes (take j c)) (field v) sheet₀ sheet sheet' (omega arith)
        (omega (arith, length-cell_bytes (take j c), length-take-le j c (omega (arith, length-cell_of s n at)))) inv.is e
        ∙ ap (λ (t : List ℕ). splice to t sheet₀) next;
  }
    where
      c : Cell
      c = cell_of s n at

      next : cell_bytes (take j c) ++ field v ≡ cell_bytes (take (j + 1) c)
      next =
          ap (λ (u : ℕ). cell_bytes (take j c) ++ field u) (vertex ∙ sym (get_or-cell_of s n at j l))
          ∙ sym (cell_bytes-next c j (omega (arith, length-cell_of s n at)))
          ∙ ap (λ (t : ℕ). cell_bytes (take t c)) (sym (add-one j))

  all : n ≤ j → sheet ≡ splice to (cell_bytes (cell_of s n at)) sheet₀
  all l = inv.is ∙ ap (λ (t : Cell). splice to (cell_bytes t) sheet₀) (take_all j (cell_of s n at) (omega (arith, length-cell_of s n at)))

pub loop-j-init : goal.loop-j-init
loop-j-init c = none _ _ _ _ _

pub loop-j-preserved : goal.loop-j-preserved
loop-j-preserved c =
    let w = (goal.at.loop-j-preserved c).After-write_field in
    let l = (goal.at.After-write_field w).At-loop-j in
    one_more l.requires.2 l.loop-j.invariant (omega arith) w.field-v.ensures.is w.write_field.auto.sheet
    w.write_field.ensures

pub returns : goal.returns
returns c = all c.requires.2 c.loop-j.invariant c.loop-j-test.false
