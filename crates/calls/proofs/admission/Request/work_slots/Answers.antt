-- `Request::work_slots` meets its contract: the two reductions are laid into so many slots, and a surface keeps one square more.
use mathlib.Core.Path.{◌≡◌, sym, ap, ◌∙◌}
use Prim.Native.Nat.{ℕ, ◌+◌, ◌*◌, ◌^◌, ◌≤◌}
use native.Mathlib.Omega.{arith}
use Rattle.two_reductions.proofs.Room.{product-below, slots-below, max-below}
use Rattle.calls.specs.Admission.{space_for}
use Rattle.calls.specs.declared.admission.Request.{Request}
use Rattle.two_reductions.specs.CellCounts.{DimensionCounts, counts_of}
use Rattle.calls.proofs.admission.Request.work_slots.Goals as goal
use Rattle.calls.proofs.admission.Request.work_slots.Goals.{Start, After-work_slots-slots}

square-below : (c : Start) → c.args.n.columns * c.args.n.columns ≤ 2 ^ 32
square-below c = product-below c.args.n.below.2 c.args.n.below.2

pub overflow_mul-result : goal.overflow_mul-result
overflow_mul-result c = omega (arith, square-below (goal.at.overflow_mul-result c).Start)

pub overflow_add-result : goal.overflow_add-result
overflow_add-result c =
    let called = (goal.at.overflow_add-result c).After-work_slots-slots in
    let start = (goal.at.After-work_slots-slots called).Start in
    omega (arith, square-below start, called.work_slots-slots.ensures, slots-below start.args.n.below.0 (max-below start.args.n.below.1 start.args.n.below.2))

-- what is asked
asked : (n : DimensionCounts) {x y : Request} → x ≡ y → space_for y n ≡ space_for x n
asked n e = ap (λ (r : Request). space_for r n) (sym e)

pub returns-in-Report : goal.returns-in-Report
returns-in-Report c = let called = (goal.at.returns-in-Report c).After-work_slots-slots in called.work_slots-slots.ensures ∙ asked (counts_of called.args.n) c.in-Report.is

pub returns-in-Coordinates : goal.returns-in-Coordinates
returns-in-Coordinates c = let called = (goal.at.returns-in-Coordinates c).After-work_slots-slots in called.work_slots-slots.ensures ∙ asked (counts_of called.args.n) c.in-Coordinates.is

pub returns-in-Surface : goal.returns-in-Surface
returns-in-Surface c =
    let called = (goal.at.returns-in-Surface c).After-work_slots-slots in
    let n = called.args.n in
    ap (λ (m : ℕ). m + n.columns * n.columns) called.work_slots-slots.ensures ∙ asked (counts_of n) c.in-Surface.is
