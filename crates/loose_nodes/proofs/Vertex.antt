-- The field of a vertex: vertex-is.
use mathlib.Core.Path.{◌≡◌, ap, ◌∙◌}
use mathlib.Core.List.{List}
use Prim.Native.Nat.{ℕ, suc, ◌+◌, ◌*◌, ◌≤◌, ◌<◌}
use native.Mathlib.Omega.{arith}
use lib.ListN.{get_or}
use Rattle.complexes.specs.Cell.{Cell}
use Rattle.complexes.specs.Complex.{cell}
use Rattle.sheet_format.specs.Layout.{top}
use Rattle.sheet_format.specs.Check.{field_at, count_field, start_at, sections_of}
use Rattle.sheet_format.specs.SheetLaws.{get_or-cell_of, cell-sections_of}

pub vertex-is : (b : List ℕ) (p i j : ℕ) → p ≤ top → i < count_field b p → j < suc p
    → get_or (cell (sections_of b) p i) j 0 ≡ field_at b (start_at b p + 2 * (suc p * i + j))
vertex-is b p i j h k l =
    ap (λ (c : Cell). get_or c j 0) (cell-sections_of b p i h k)
    ∙ get_or-cell_of b (suc p) (start_at b p + 2 * (suc p * i)) j l
    ∙ ap (field_at b) together
  where
    together : start_at b p + 2 * (suc p * i) + 2 * j ≡ start_at b p + 2 * (suc p * i + j)
    together = omega arith
