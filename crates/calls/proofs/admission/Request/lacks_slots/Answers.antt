-- `Request::lacks_slots` meets its contract: by cases on what is asked, and a count is below 65536.
use mathlib.Core.Path.{◌≡◌, sym, ap, ◌∙◌}
use mathlib.Core.Bool.{not}
use Prim.Native.Nat.{ℕ, ◌*◌, ◌/◌, ◌^◌, ◌≤◌, ◌<◌}
use native.Mathlib.Nat.{div-lt_iff_lt-mul, le-div_iff_mul-le, mul-zero}
use native.Mathlib.Decide.{dec_lt}
use native.Mathlib.Omega.{arith}
use borrow.Author.Tests.{lt-ltb, le-ltb}
use lib.Dec.{eqb, ltb}
use Rattle.two_reductions.proofs.Room.{product-below}
use Rattle.calls.specs.Admission.{slots_for}
use Rattle.calls.specs.declared.admission.Request.{Request}
use Rattle.two_reductions.specs.CellCounts.{DimensionCounts, counts_of}
use Rattle.calls.proofs.admission.Request.lacks_slots.Goals as goal
use Rattle.calls.proofs.admission.Request.lacks_slots.Goals.{Start}

square-below : (c : Start) → c.args.n.cells * c.args.n.cells ≤ 2 ^ 32
square-below c = product-below c.args.n.below.0 c.args.n.below.0

pub overflow_mul-result : goal.overflow_mul-result
overflow_mul-result c = omega (arith, square-below (goal.at.overflow_mul-result c).Start)

pub overflow_add-result-in-Report : goal.overflow_add-result-in-Report
overflow_add-result-in-Report c = omega (arith, square-below (goal.at.overflow_add-result-in-Report c).Start, c.args.n.below)

-- the output has fewer than `many` times the cells
divided : (output cells many : ℕ) → 0 < cells → ltb (output / cells) many ≡ ltb output (many * cells)
divided output cells many positive = go (dec_lt output (many * cells))
  where
    go : Dec (output < many * cells) → ltb (output / cells) many ≡ ltb output (many * cells)
    go (yes l) = lt-ltb (output / cells) many ((div-lt_iff_lt-mul positive).1 l) ∙ sym (lt-ltb output (many * cells) l)
    go (no l) = le-ltb (output / cells) many ((le-div_iff_mul-le positive).1 (omega arith)) ∙ sym (le-ltb output (many * cells) (omega arith))

-- no cells, and so no slots
empty : (output many cells : ℕ) → cells ≡ 0 → not (eqb cells 0) ≡ ltb output (many * cells)
empty output many cells e = rw (e, mul-zero many) (sym (le-ltb output 0 (omega arith)))

-- what is asked
asked : (output : ℕ) (cell-counts : DimensionCounts) {x y : Request} → x ≡ y → ltb output (slots_for y cell-counts) ≡ ltb output (slots_for x cell-counts)
asked output cell-counts e = ap (λ (r : Request). ltb output (slots_for r cell-counts)) (sym e)

pub returns-in-Report : goal.returns-in-Report
returns-in-Report c = let a = c.args in asked a.output (counts_of a.n) c.in-Report.is

pub returns-then-cells-ne0 : goal.returns-then-cells-ne0
returns-then-cells-ne0 c =
    let a = c.args in
    divided a.output a.n.cells c.in-Coordinates.many (omega (arith, c.if-cells-ne0.true)) ∙ asked a.output (counts_of a.n) c.in-Coordinates.is

pub returns-else-cells-ne0 : goal.returns-else-cells-ne0
returns-else-cells-ne0 c =
    let a = c.args in
    empty a.output c.in-Coordinates.many a.n.cells c.if-cells-ne0.false ∙ asked a.output (counts_of a.n) c.in-Coordinates.is

pub returns-in-Surface : goal.returns-in-Surface
returns-in-Surface c = let a = c.args in asked a.output (counts_of a.n) c.in-Surface.is
