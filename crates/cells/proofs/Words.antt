-- Words of cells read from a sheet.
--     numbered-cell, packs-at           the vertices of a cell are vertex numbers; the word of a cell of a section
--     words-before, words-precede       what comparing two words tells of the order of the cells
--     words_same                        cells that share a word are equal
use mathlib.Core.Path.{◌≡◌, sym, ◌∙◌}
use mathlib.Core.Bool.{true}
use mathlib.Core.List.{List, []}
use Prim.Native.Nat.{ℕ, ◌+◌, ◌*◌, ◌<◌}
use native.Mathlib.Decide.{dec_lt}
use native.Mathlib.Omega.{arith}
use borrow.Author.Tests.{lt-ltb, le-ltb}
use lib.Dec.{ltb}
use lib.ListN.{length, get_or}
use Rattle.complexes.specs.Cell.{Cell, precedes}
use Rattle.complexes.specs.Packed.{Numbered}
use Rattle.complexes.proofs.PackedLaws.{packed-precedes, packed-injective}
use Rattle.sheet_format.specs.Check.{cell_of, cells_of}
use Rattle.sheet_format.specs.Sheet.{Bytes}
use Rattle.sheet_format.specs.SheetLaws.{field_at-lt, length-cell_of, get_or-cell_of, get_or-cells_of}
use Rattle.cells.specs.Word.{Packs}
use Rattle.cells.proofs.Cells.{is_false}

pub numbered-cell : (s : List ℕ) → Bytes s → (n at : ℕ) → Numbered (cell_of s n at)
numbered-cell s bytes n at = record { at = λ j l. rw (get_or-cell_of s n at j (omega (arith, length-cell_of s n at))) (field_at-lt s bytes (at + 2 * j)) }

pub packs-at : (s : List ℕ) (at n many i w : ℕ) → i < many → Packs n (cell_of s n (at + 2 * (n * i))) w → Packs n (get_or (cells_of s n many at) i []) w
packs-at s at n many i w l h = rw (get_or-cells_of s n many at i l) h

module _ {n : ℕ} {c d : Cell} {x y : ℕ} (h : Packs n c x) (k : Packs n d y) where
  as_long : length c ≡ length d
  as_long = h.sized ∙ sym k.sized

  pub words-before : x < y → precedes c d ≡ true
  words-before l = (packed-precedes c d h.numbered k.numbered as_long).1 (omega (arith, h.is, k.is))

  pub words-precede : ltb x y ≡ precedes c d
  words-precede = go (dec_lt x y)
    where
      go : Dec (x < y) → ltb x y ≡ precedes c d
      go (yes l) = lt-ltb x y l ∙ sym (words-before l)
      go (no l) =
          le-ltb x y (omega arith)
          ∙ sym (is_false (precedes c d) (λ p. omega (arith, h.is, k.is, (packed-precedes c d h.numbered k.numbered as_long).0 p)))

  pub words_same : x ≡ y → c ≡ d
  words_same e = packed-injective c d h.numbered k.numbered as_long (sym h.is ∙ e ∙ k.is)
