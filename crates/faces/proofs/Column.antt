-- The column of a cell c in a boundary matrix, made face by face: `part c t f` is the entry of the cell f after the first t faces.
--     part-face, part-other     what face number t adds
--     part-fresh                the row of face number t is 0 before
--     part-all                  after all faces it is the entry of the boundary matrix
use mathlib.Core.Path.{◌≡◌, refl, sym, ap, ◌∙◌}
use mathlib.Core.Logic.{◌≢◌}
use mathlib.Core.Bool.{cond}
use mathlib.Core.List.{List}
use Prim.Native.Nat.{ℕ, suc, ◌+◌, ◌<◌}
use native.Mathlib.Numerals.{add-one}
use native.Mathlib.Omega.{arith}
use lib.ListN.{length}
use lib.IntN.{ℤ, pos, ◌+ℤ◌}
use Rattle.integers.proofs.Ring.{add-zero}
use Rattle.matrices.specs.Sum.{sum}
use Rattle.matrices.proofs.SumLaws.{sum-zero}
use Rattle.complexes.specs.Cell.{Cell, without, same}
use Rattle.complexes.proofs.CellLaws.{eq-same, ne_same}
use Rattle.complexes.proofs.FaceLaws.{without-injective}
use Rattle.complexes.proofs.OrderLaws.{ordered-unique}
use Rattle.complexes.specs.Complex.{section, count, cell, Complex}
use Rattle.complexes.specs.Boundary.{sign, coefficient, boundary}
use Rattle.sheet_format.specs.Check.{sections_of}
use Rattle.faces.specs.Face.{IsFace}

abbrev pub part : Cell → ℕ → Cell → ℤ
part c t f = sum t (λ s. cond (same (without s c) f) (sign s) (pos 0))

pub part_none : (c f : Cell) → part c 0 f ≡ pos 0
unfolding sum
part_none c f = refl

-- the entry in row i of the column of cell j of section p + 1, after t faces
abbrev pub entry : List ℕ → ℕ → ℕ → ℕ → ℕ → ℤ
entry b p j t i = part (cell (sections_of b) (suc p) j) t (cell (sections_of b) p i)

module _ (b : List ℕ) {top limit : ℕ} (complex : Complex top limit (sections_of b)) (p j : ℕ) (below : j < count (sections_of b) (suc p)) where
  abbrev c : Cell
  c = cell (sections_of b) (suc p) j

  module _ (t r : ℕ) (face : IsFace b p j t r) where
    pub part-face : entry b p j (t + 1) r ≡ entry b p j t r +ℤ sign t
    unfolding sum
    part-face = rw (add-one t, eq-same (without t c) (cell (sections_of b) p r) (sym face.is))

    pub part-other : (i : ℕ) → i < count (sections_of b) p → i ≢ r → entry b p j (t + 1) i ≡ entry b p j t i
    unfolding sum
    part-other i l d =
        rw (add-one t, ne_same (without t c) (cell (sections_of b) p i) differs) (add-zero (entry b p j t i))
      where
        differs : without t c ≢ cell (sections_of b) p i
        differs e = d (ordered-unique (section (sections_of b) p) (complex.ordered p) i r l face.below (sym e ∙ sym face.is))

    pub part-fresh : t < suc (suc p) → entry b p j t r ≡ pos 0
    part-fresh l =
        rw face.is (sum-zero t (λ s. cond (same (without s c) (without t c)) (sign s) (pos 0))
        (λ s h. rw (ne_same (without s c) (without t c) (λ e. absurd (other s h e)))))
      where
        sized : length c ≡ suc (suc p)
        sized = complex.sized (suc p) j below

        other : (s : ℕ) → s < t → without s c ≢ without t c
        other s h e =
            let same : s ≡ t = without-injective c s t (complex.rising (suc p) j below) (omega (arith, sized)) (omega (arith, sized)) e in
            omega arith

  pub part-all : (i : ℕ) → boundary (sections_of b) (suc p) i j ≡ entry b p j (suc (suc p)) i
  unfolding boundary coefficient
  part-all i = ap (λ (n : ℕ). part (cell (sections_of b) (suc p) j) n (cell (sections_of b) p i)) (complex.sized (suc p) j below)
