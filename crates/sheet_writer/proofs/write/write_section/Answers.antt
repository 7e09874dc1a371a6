use mathlib.Core.Path.{◌≡◌, refl, sym, ap, ◌∙◌}
use mathlib.Core.List.{List, [], map}
use Prim.Native.Nat.{ℕ, suc, ◌+◌, ◌*◌, ◌≤◌, ◌<◌}
use native.Mathlib.Nat.{mul-suc, mul-le-mul_left}
use native.Mathlib.Numerals.{add-one}
use native.Mathlib.Omega.{arith}
use lib.ListN.{length, get_or, take, length-map, get_or-map}
use lib.Seq.{length-take-le, get_or-take, take_all}
use Rattle.lists.specs.Splice.{splice}
use Rattle.lists.specs.SpliceLaws.{splice-nil}
use Rattle.complexes.specs.Cell.{Cell}
use Rattle.complexes.specs.Packed.{packed}
use Rattle.sheet_format.specs.Layout.{cell_bytes, section_bytes}
use Rattle.sheet_format.proofs.LayoutLaws.{length-section_bytes}
use Rattle.closures.specs.Rising.{All, HasVertices}
use Rattle.cells.specs.Word.{Packs}
use Rattle.sheet_writer.specs.Write.{WritesCell}
use Rattle.sheet_writer.proofs.Bytes.{splice-behind, section_bytes-next}
use Rattle.sheet_writer.proofs.write.write_section.Invariants.{Invariant}
use Rattle.sheet_writer.proofs.write.write_section.Goals as goal
use Rattle.sheet_writer.proofs.write.write_section.Goals.{In-loop-i}

none : (ws : List ℕ) (n : ℕ) (sheet : List ℕ) (at : ℕ) → Invariant ws n sheet at sheet 0
unfolding section_bytes
none ws n sheet at = record { long = refl; is = λ l a e. sym (splice-nil at sheet) }

module _ {ws : List ℕ} {n : ℕ} {sheet₀ : List ℕ} {at : ℕ} {sheet : List ℕ} {i : ℕ} (room : at ≤ length sheet₀)
    (inv : Invariant ws n sheet₀ at sheet i) where
  -- as many cells as words
  sized : (l : List Cell) → ws ≡ map packed l → length ws ≡ length l
  sized l e = ap length e ∙ length-map l packed

  one_more : i < length ws → {w : ℕ} → w ≡ get_or ws i 0 → (sheet' : List ℕ) → length sheet' ≡ length sheet
      → WritesCell n w (at + 2 * (n * i)) sheet sheet' → Invariant ws n sheet₀ at sheet' (i + 1)
  unfolding packed
  one_more h {w} word sheet' kept writes = record {
    long = kept ∙ inv.long;
    is = λ l a e. is l a e (omega (arith, sized l e));
  }
    where
      length_before : (l : List Cell) → All (HasVertices n) [] l → i < length l → length (section_bytes (take i l)) ≡ 2 * (n * i)
      length_before l a k =
          let long : length (take i l) ≡ i = length-take-le i l (omega arith) in
          length-section_bytes n (take i l) (λ j m. rw (get_or-take i l j [] (omega arith)) (a j (omega arith)).sized)
          ∙ ap (λ (t : ℕ). 2 * (n * t)) long

      is : (l : List Cell) → All (HasVertices n) [] l → ws ≡ map packed l → i < length l → sheet' ≡ splice at (section_bytes (take (i + 1) l)) sheet₀
      is l a e k =
          splice-behind at (at + 2 * (n * i)) (section_bytes (take i l)) (cell_bytes (get_or l i [])) sheet₀ sheet sheet' room
          (omega (arith, length_before l a k)) (inv.is l a e) (writes (get_or l i []) packs)
          ∙ ap (λ (t : List ℕ). splice at t sheet₀) (sym (section_bytes-next l i k) ∙ ap (λ (t : ℕ). section_bytes (take t l)) (sym (add-one i)))
        where
          packs : Packs n (get_or l i []) w
          packs = record {
            sized = (a i k).sized;
            numbered = (a i k).numbered;
            is = word ∙ ap (λ (t : List ℕ). get_or t i 0) e ∙ get_or-map packed l i [];
          }

  all : length ws ≤ i → (l : List Cell) → All (HasVertices n) [] l → ws ≡ map packed l → sheet ≡ splice at (section_bytes l) sheet₀
  all h l a e = inv.is l a e ∙ ap (λ (t : List Cell). splice at (section_bytes t) sheet₀) (take_all i l (omega (arith, sized l e)))

pub loop-i-init : goal.loop-i-init
loop-i-init c = none _ _ _ _

-- the place of cell i
module _ (c : In-loop-i) where
  room : c.args.at + 2 * (c.args.n * c.loop-i.i) + 2 * c.args.n ≤ length c.args.sheet.now
  room =
      omega (
        arith,
        c.requires.1,
        mul-le-mul_left {m = suc c.loop-i.i} {n = length c.args.words.now} c.args.n (omega arith),
        mul-suc c.args.n c.loop-i.i,
      )

pub overflow_mul-n : goal.overflow_mul-n
overflow_mul-n c = omega (arith, room (goal.at.overflow_mul-n c).In-loop-i)

pub overflow_mul-n-in-loop-i : goal.overflow_mul-n-in-loop-i
overflow_mul-n-in-loop-i c = omega (arith, room (goal.at.overflow_mul-n-in-loop-i c).In-loop-i)

pub overflow_add-at : goal.overflow_add-at
overflow_add-at c = omega (arith, room (goal.at.overflow_add-at c).In-loop-i)

pub write_cell-requires : goal.write_cell-requires
write_cell-requires c = (c.requires.0, omega (arith, room (goal.at.write_cell-requires c).In-loop-i, c.loop-i.invariant.long))

pub loop-i-preserved : goal.loop-i-preserved
loop-i-preserved c =
    one_more (omega (arith, c.requires.1)) c.loop-i.invariant (omega arith) refl _ c.write_cell.auto.sheet c.write_cell.ensures

pub returns : goal.returns
returns c = all (omega (arith, c.requires.1)) c.loop-i.invariant (omega arith)
