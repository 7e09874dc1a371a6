-- The cells of a sheet whose marks are not 1.
--     length-unmarked, section-unmarked      their sections
--     count-unmarked, sized-unmarked         no more cells than the sheet has, and as many vertices
--     counts-are, layout-ends                the counts that were made are theirs, and their sheet ends where a further section would start
use mathlib.Core.Path.{◌≡◌, sym, ap, ap₂, ◌∙◌, fun_ext}
use mathlib.Core.List.{List}
use Prim.Native.Nat.{ℕ, suc, ◌+◌, ◌*◌, ◌≤◌, ◌<◌}
use native.Mathlib.Decide.{dec_le}
use native.Mathlib.Omega.{arith}
use lib.ListN.{length, get_or, get_or-eq_default}
use Rattle.complexes.specs.Cell.{Cell}
use Rattle.complexes.specs.Complex.{section, count, cell}
use Rattle.sheet_format.specs.Layout.{top, start, layout}
use Rattle.sheet_format.specs.Check.{count_field, start_at, cells_of, sections_of}
use Rattle.sheet_format.specs.SheetLaws.{count-beyond, count_field-below, length-sections_of, section-sections_of, count-sections_of, cell-sections_of, length-cell_of}
use Rattle.sheet_format.proofs.LayoutLaws.{length-sized}
use Rattle.closures.specs.Keep.{kept, cells_below, unmarked}
use Rattle.closures.proofs.KeepCount.{length-keep, section-keep, count-keep, sized-keep}
use Rattle.cell_keeper.specs.Unmarked.{unmarked_cells, stays_at, Counts}

module _ (b marks : List ℕ) where
  pub length-unmarked : length (unmarked_cells b marks) ≡ suc top
  length-unmarked = length-keep (unmarked marks (count_field b)) (sections_of b) ∙ length-sections_of b

  pub section-unmarked : (p : ℕ) → p ≤ top → section (unmarked_cells b marks) p
      ≡ kept (stays_at marks (cells_below (count_field b) p)) (cells_of b (suc p) (count_field b p) (start_at b p)) (count_field b p)
  section-unmarked p h =
      section-keep (unmarked marks (count_field b)) (sections_of b) p
      ∙ ap₂ (λ (l : List Cell) (n : ℕ). kept (unmarked marks (count_field b) p) l n) (section-sections_of b p h) (count-sections_of b p)

  pub count-unmarked : (p : ℕ) → count (unmarked_cells b marks) p ≤ count_field b p
  count-unmarked p = omega (arith, count-keep (unmarked marks (count_field b)) (sections_of b) p, count-sections_of b p)

  sized-unmarked : (p i : ℕ) → i < count (unmarked_cells b marks) p → length (cell (unmarked_cells b marks) p i) ≡ suc p
  sized-unmarked p = sized-keep (unmarked marks (count_field b)) (sections_of b) p (suc p) each
    where
      each : (i : ℕ) → i < count (sections_of b) p → length (cell (sections_of b) p i) ≡ suc p
      each i l =
          let k : i < count_field b p = rw (count-sections_of b p) at l in
          ap length (cell-sections_of b p i (count_field-below b p i k) k) ∙ length-cell_of b (suc p) (start_at b p + 2 * (suc p * i))

  module _ {counts : List ℕ} (h : Counts (unmarked_cells b marks) counts) where
    pub counts-are : (λ (p : ℕ). get_or counts p 0) ≡ count (unmarked_cells b marks)
    counts-are = fun_ext (λ p. at p (dec_le p top))
      where
        at : (p : ℕ) → Dec (p ≤ top) → get_or counts p 0 ≡ count (unmarked_cells b marks) p
        at p (yes l) = h.counted p l
        at p (no l) =
            get_or-eq_default counts 0 {n = p} (omega (arith, h.sized))
            ∙ sym (count-beyond (unmarked_cells b marks) p (omega (arith, length-unmarked)))

    pub layout-ends : length (layout (unmarked_cells b marks)) ≡ start (λ p. get_or counts p 0) (suc top)
    layout-ends =
        length-sized (unmarked_cells b marks) sized-unmarked length-unmarked
        ∙ ap (λ (n : ℕ → ℕ). start n (suc top)) (sym counts-are)
