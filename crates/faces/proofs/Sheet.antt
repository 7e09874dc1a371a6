-- What an accepted sheet holds: a complex (`complex`), with at most `library_limit` cells in each section (`count-le`). The search for the faces of a
-- cell may be made (`rising`), and finds their places (`found`).
use mathlib.Core.Path.{◌≡◌, ap, ◌∙◌}
use mathlib.Core.Bool.{Bool, false, not}
use mathlib.Core.List.{List}
use Prim.Native.Nat.{ℕ, suc, ◌+◌, ◌*◌, ◌≤◌, ◌<◌}
use native.Mathlib.Omega.{arith}
use borrow.Author.Tests.{not-false}
use Rattle.complexes.specs.Cell.{without, listed}
use Rattle.complexes.proofs.CellLaws.{Listed-listed}
use Rattle.complexes.specs.Complex.{count, cell, section, Complex}
use Rattle.sheet_format.specs.Layout.{top}
use Rattle.sheet_format.specs.Check.{start_at, cell_of, sections_of, some}
use Rattle.sheet_format.specs.CheckLaws.{some-false}
use Rattle.sheet_format.specs.Sheet.{Bytes}
use Rattle.sheet_format.proofs.Accept.{accepted-complex}
use Rattle.sheet_format.specs.SheetLaws.{section-sections_of, count-sections_of, cell-sections_of}
use Rattle.cells.specs.Find.{Rising, FindsFaces}
use Rattle.cells.specs.Section.{IsSection, cells_in}
use Rattle.cells.specs.declared.section.Section.{Section}
use Rattle.limits.specs.Limits.{library_limit}
use Rattle.faces.specs.Face.{Accepted, AreFaces}

-- cell j of section p + 1 starts at byte a, and its faces stand in the section S
pub record Looked (b : List ℕ) (p j a : ℕ) (S : Section) : Type 0 where
  pub inside : p < top
  pub below : j < count (sections_of b) (suc p)
  pub cell-starts : a ≡ start_at b (suc p) + 2 * (suc (suc p) * j)
  pub faces : IsSection b p S

-- whether face t of cell j of section p + 1 is missing
abbrev misses : List ℕ → ℕ → ℕ → ℕ → Bool
misses b p j t = not (listed (without t (cell (sections_of b) (suc p) j)) (section (sections_of b) p))

module _ {b : List ℕ} (bytes : Bytes b) (accepted : Accepted b) where
  pub complex : Complex top library_limit (sections_of b)
  complex = accepted-complex library_limit b bytes accepted.none-applies

  pub count-le : (p : ℕ) → count (sections_of b) p ≤ library_limit
  count-le p = complex.within p

  pub rising : {p j a : ℕ} {S : Section} → Looked b p j a S → Rising (cells_in b S)
  rising {p} l =
      rw (l.faces.sized, l.faces.counted, l.faces.starts, ← section-sections_of b p (omega (arith, l.inside))) (record { next = complex.ordered p })

  pub found : {p j a : ℕ} {S : Section} → Looked b p j a S → (all : Bool) (places : List ℕ)
      → FindsFaces S.vertices (cell_of b (suc S.vertices) a) (cells_in b S) all places → AreFaces b p j places
  found {p} {j} look all places f =
      go (rw (
        look.faces.sized,
        look.faces.counted,
        look.faces.starts,
        look.cell-starts,
        ← section-sections_of b p (omega (arith, look.inside)),
        ← cell-sections_of b (suc p) j look.inside (rw (count-sections_of b (suc p)) at look.below),
      ) at f)
    where
      none : some (suc (suc p)) (misses b p j) ≡ false
      none = (some-false (suc (suc p)) (misses b p j)).1 (λ t k. ap not (Listed-listed (complex.closed p j t look.below k)))

      go : FindsFaces (suc p) (cell (sections_of b) (suc p) j) (section (sections_of b) p) all places → AreFaces b p j places
      go f = record { sized = f.sized; face = λ t k. let h = f.finds (not-false all (f.tells ∙ none)) t k in record { below = h.0; is = h.1 } }
