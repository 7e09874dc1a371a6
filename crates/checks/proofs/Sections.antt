-- The checks 5, 6 and 7 over section p, as the code tries them on the section's bytes: vertices-fall, cells-fall, faces-miss.
-- In a sheet that passes check 6 every section rises: rising-section.
use mathlib.Core.Path.{◌≡◌, sym, ap, ap₂, ◌∙◌}
use mathlib.Core.Bool.{Bool, false, not}
use mathlib.Core.List.{List}
use Prim.Native.Nat.{ℕ, suc, pred, ◌+◌, ◌<◌}
use native.Mathlib.Numerals.{add-one, sub-one}
use native.Mathlib.Omega.{arith}
use borrow.Author.Tests.{not-false}
use Rattle.complexes.specs.Cell.{Cell, without, rises, precedes, listed}
use Rattle.complexes.specs.Complex.{section, count, cell}
use Rattle.sheet_format.specs.Layout.{top}
use Rattle.sheet_format.specs.Check.{sections_of, some, cells_do_not_rise}
use Rattle.sheet_format.specs.CheckLaws.{some-ext, some-false}
use Rattle.sheet_format.specs.SheetLaws.{section-sections_of, count-sections_of, cell-sections_of}
use Rattle.cells.specs.Find.{Rising}
use Rattle.cells.specs.Section.{IsSection, cell_in, cells_in}
use Rattle.cells.specs.declared.section.Section.{Section}

module _ {b : List ℕ} {p : ℕ} {S : Section} (s : IsSection b p S) where
  many-count : S.many ≡ count (sections_of b) p
  many-count = s.counted ∙ sym (count-sections_of b p)

  cell-is : (i : ℕ) → i < S.many → cell_in b S i ≡ cell (sections_of b) p i
  cell-is i l = rw (s.starts, s.sized) (sym (cell-sections_of b p i s.inside (omega (arith, s.counted))))

  section-is : cells_in b S ≡ section (sections_of b) p
  section-is = rw (s.starts, s.sized, s.counted) (sym (section-sections_of b p s.inside))

  pub vertices-fall : some S.many (λ i. not (rises (cell_in b S i))) ≡ some (count (sections_of b) p) (λ i. not (rises (cell (sections_of b) p i)))
  vertices-fall =
      rw (← many-count)
      (some-ext S.many (λ i. not (rises (cell_in b S i))) (λ i. not (rises (cell (sections_of b) p i)))
      (λ i l. ap (λ (c : Cell). not (rises c)) (cell-is i l)))

  pub cells-fall : some (pred S.many) (λ i. not (precedes (cell_in b S i) (cell_in b S (suc i))))
      ≡ some (pred (count (sections_of b) p)) (λ i. not (precedes (cell (sections_of b) p i) (cell (sections_of b) p (suc i))))
  cells-fall =
      rw (← many-count)
      (some-ext (pred S.many) (λ i. not (precedes (cell_in b S i) (cell_in b S (suc i))))
      (λ i. not (precedes (cell (sections_of b) p i) (cell (sections_of b) p (suc i))))
      (λ i l.
      ap₂ (λ (c d : Cell). not (precedes c d)) (cell-is i (omega (arith, sub-one S.many))) (cell-is (suc i) (omega (arith, sub-one S.many)))))

  pub rising-section : cells_do_not_rise (sections_of b) ≡ false → Rising (cells_in b S)
  unfolding cells_do_not_rise
  rising-section e =
      let K = sections_of b in
      rw section-is (record {
        next = λ i l.
            not-false (precedes (cell K p i) (cell K p (suc i)))
            ((some-false (pred (count K p)) (λ k. not (precedes (cell K p k) (cell K p (suc k))))).0
            ((some-false (suc top) (λ q. some (pred (count K q)) (λ k. not (precedes (cell K q k) (cell K q (suc k)))))).0 e p (omega (arith, s.inside)))
            i
            (omega (arith, sub-one (count K p))));
      })

-- whether cell i of S misses a face among the cells of T
abbrev pub Misses : List ℕ → Section → Section → ℕ → Bool
Misses b S T i = some S.vertices (λ j. not (listed (without j (cell_in b S i)) (cells_in b T)))

-- the faces of the cells of section p + 1 are looked for in section p
pub faces-miss : {b : List ℕ} {p : ℕ} {S T : Section} → IsSection b (p + 1) S → IsSection b p T → some S.many (Misses b S T)
    ≡ some (count (sections_of b) (suc p)) (λ i. some (suc (suc p)) (λ j. not (listed (without j (cell (sections_of b) (suc p) i)) (section (sections_of b) p))))
faces-miss {b} {p} {S} {T} s' t =
    let K = sections_of b in
    let s : IsSection b (suc p) S = rw (add-one p) at s' in
    rw (← many-count s)
    (some-ext S.many (Misses b S T) (λ i. some (suc (suc p)) (λ j. not (listed (without j (cell K (suc p) i)) (section K p))))
    (λ i l. ap₂ (λ (n : ℕ) (l : List Cell). some n (λ j. not (listed (without j (cell_in b S i)) l))) s.sized (section-is t)
    ∙ ap (λ (c : Cell). some (suc (suc p)) (λ j. not (listed (without j c) (section K p)))) (cell-is s i l)))
