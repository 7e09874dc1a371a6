-- Where exactly the loose nodes are marked, the unmarked cells are those that the sweep leaves: marked-swept.
--     no-marks, marks-room     marks of zeros, and room for all cells
use mathlib.Core.Path.{◌≡◌, ap, ◌∙◌}
use mathlib.Core.Bool.{not}
use mathlib.Core.List.{List}
use Prim.Native.Nat.{ℕ, zero, suc, ◌+◌, ◌*◌, ◌≤◌, ◌<◌}
use native.Mathlib.Nat.{zero-add}
use native.Mathlib.Omega.{arith}
use lib.Dec.{eqb}
use lib.ListN.{length, get_or, replicate, length-replicate, get_or-replicate}
use Rattle.limits.specs.Limits.{library_limit}
use Rattle.complexes.specs.Complex.{count}
use Rattle.sheet_format.specs.Layout.{top}
use Rattle.sheet_format.specs.Check.{count_field, sections_of}
use Rattle.sheet_format.specs.SheetLaws.{count-sections_of, count_field-below}
use Rattle.closures.specs.Keep.{keep, cells_below, unmarked}
use Rattle.closures.proofs.KeepCount.{cells_below-within}
use Rattle.closures.proofs.KeepLaws.{keep-ext}
use Rattle.loose_nodes.specs.Loose.{NoneMarked, MarksLoose}
use Rattle.sweeps.specs.Sweep.{stays, swept}

-- the marks of the sweep: a byte for each cell
abbrev pub room : ℕ
room = suc top * library_limit

zero-mark : (i : ℕ) → i < room → ◌≡◌ {A = ℕ} (get_or (replicate room 0) i 0) 0
zero-mark i l = get_or-replicate room i 0 0 l

module _ (b : List ℕ) (small : (p : ℕ) → count_field b p ≤ library_limit) where
  pub no-marks : NoneMarked (count_field b 0) (replicate room 0)
  no-marks = record {
    room = omega (arith, small 0, length-replicate {A = ℕ} room 0);
    clear = λ i l. zero-mark i (omega (arith, small 0));
  }

  cells-room : cells_below (count_field b) (suc top) ≤ room
  unfolding cells_below
  cells-room = omega (arith, small 0, small 1, small 2, small 3)

  module _ {marks : List ℕ} (m : MarksLoose (sections_of b) (replicate room 0) marks) where
    pub marks-room : cells_below (count_field b) (suc top) ≤ length marks
    marks-room = omega (arith, cells-room, m.sized, length-replicate {A = ℕ} room 0)

    -- a cell of dimension p + 1 stands behind all vertices, and is not marked
    behind : (p i : ℕ) → i < count_field b (suc p) → get_or marks (cells_below (count_field b) (suc p) + i) 0 ≡ 0
    behind p i l =
        m.past at (omega (arith, count-sections_of b 0, first)) ∙ zero-mark at below
      where
        at : ℕ
        at = cells_below (count_field b) (suc p) + i

        first : count_field b 0 ≤ cells_below (count_field b) (suc p)
        first = omega (arith, cells_below-within (count_field b) 0 (suc p) (omega arith))

        below : at < room
        below = omega (arith, cells_below-within (count_field b) (suc p) (suc top) (omega (arith, count_field-below b (suc p) i l)), cells-room)

    same : (p i : ℕ) → i < count (sections_of b) p → unmarked marks (count_field b) p i ≡ stays (sections_of b) p i
    unfolding cells_below
    same zero i l = ap not (ap (λ (j : ℕ). eqb (get_or marks j 0) 1) (zero-add i) ∙ m.here i l)
    same (suc p) i l = ap (λ (mark : ℕ). not (eqb mark 1)) (behind p i (rw (count-sections_of b (suc p)) at l))

    pub marked-swept : keep (unmarked marks (count_field b)) (sections_of b) ≡ swept (sections_of b)
    marked-swept = keep-ext (unmarked marks (count_field b)) (stays (sections_of b)) (sections_of b) same
