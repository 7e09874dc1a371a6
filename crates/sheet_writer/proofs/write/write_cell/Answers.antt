use mathlib.Core.Path.{◌≡◌, refl, sym, ap, ◌∙◌}
use mathlib.Core.List.{List, ◌++◌}
use Prim.Native.Nat.{ℕ, suc, ◌+◌, ◌*◌, ◌-◌, ◌≤◌, ◌<◌}
use native.Mathlib.Numerals.{add-one}
use native.Mathlib.Omega.{arith}
use lib.ListN.{length, take}
use lib.Seq.{length-take-le, take_all}
use Rattle.lists.specs.Splice.{splice}
use Rattle.lists.specs.SpliceLaws.{splice-nil}
use Rattle.complexes.specs.Cell.{Cell}
use Rattle.sheet_format.specs.Layout.{field, cell_bytes}
use Rattle.sheet_format.proofs.LayoutLaws.{length-cell_bytes}
use Rattle.cells.specs.Word.{Packs}
use Rattle.cell_sets.specs.Vertices.{VertexAt}
use Rattle.sheet_writer.proofs.Bytes.{splice-behind, cell_bytes-next}
use Rattle.sheet_writer.proofs.write.write_cell.Invariants.{Invariant}
use Rattle.sheet_writer.proofs.write.write_cell.Goals as goal
use Rattle.sheet_writer.proofs.write.write_cell.Goals.{At-loop-j, After-write_field}

none : (word n : ℕ) (sheet : List ℕ) (at : ℕ) → Invariant word n sheet at sheet 0
unfolding cell_bytes
none word n sheet at = record { long = refl; is = λ c h. sym (splice-nil at sheet) }

module _ {word n : ℕ} {sheet₀ : List ℕ} {at : ℕ} {sheet : List ℕ} {j : ℕ} (room : at + 2 * n ≤ length sheet₀)
    (inv : Invariant word n sheet₀ at sheet j) where
  one_more : j < n → {v : ℕ} → VertexAt (n - 1 - j) word v → {sheet' : List ℕ} → length sheet' ≡ length sheet
      → sheet' ≡ splice (at + 2 * j) (field v) sheet → Invariant word n sheet₀ at sheet' (j + 1)
  one_more l {v} vertex {sheet'} kept e = record {
    long = kept ∙ inv.long;
    is = is;
  }
    where
      place : n ≡ suc (j + (n - 1 - j))
      place = omega arith

      is : (c : Cell) → Packs n c word → sheet' ≡ splice at (cell_bytes (take (j + 1) c)) sheet₀
      is c h =
          splice-behind at (at + 2 * j) (cell_bytes (take j c)) (field v) sheet₀ sheet sheet' (omega arith)
          (omega (arith, length-cell_bytes (take j c), length-take-le j c (omega (arith, h.sized)))) (inv.is c h) e
          ∙ ap (λ (t : List ℕ). splice at t sheet₀) next
        where
          next : cell_bytes (take j c) ++ field v ≡ cell_bytes (take (j + 1) c)
          next =
              ap (λ (u : ℕ). cell_bytes (take j c) ++ field u) (vertex.is j c (rw place at h))
              ∙ sym (cell_bytes-next c j (omega (arith, h.sized)))
              ∙ ap (λ (t : ℕ). cell_bytes (take t c)) (sym (add-one j))

  all : n ≤ j → (c : Cell) → Packs n c word → sheet ≡ splice at (cell_bytes c) sheet₀
  all l c h = inv.is c h ∙ ap (λ (t : Cell). splice at (cell_bytes t) sheet₀) (take_all j c (omega (arith, h.sized)))

pub loop-j-init : goal.loop-j-init
loop-j-init c = none _ _ _ _

pub loop-j-preserved : goal.loop-j-preserved
loop-j-preserved c =
    let w = (goal.at.loop-j-preserved c).After-write_field in
    let l = (goal.at.After-write_field w).At-loop-j in
    one_more l.requires.1 l.loop-j.invariant (omega arith) w.vertex-v.ensures w.write_field.auto.sheet
    w.write_field.ensures

pub returns : goal.returns
returns c = all c.requires.1 c.loop-j.invariant c.loop-j-test.false
