use mathlib.Core.Path.{◌≡◌, refl, sym, ap, ◌∙◌}
use mathlib.Core.List.{[], ◌∷◌}
use Prim.Native.Nat.{ℕ, ◌<◌}
use native.Mathlib.Omega.{arith}
use lib.ListN.{length}
use lib.IntN.{ℤ}
use mir.Syntax.{w64}
use mir.Val.{of_z}
use mir.Facts.{to_z-of_z}
use Rattle.reports.specs.Report.{reported}
use Rattle.machine_words.specs.Read.{read, of-bits}
use Rattle.writers.specs.Written.{kind_in}
use Rattle.writers.proofs.Rows.{map-blocks}
use Rattle.writers.proofs.Writing.{progress-none, progress-one, progress-end, progress-room, progress-length, progress-number}
use Rattle.writers.proofs.report.write_orders.Goals as goal
use Rattle.writers.proofs.report.write_orders.Goals.{Start, then-order-ne1, else-order-ne1, At-loop-i, In-loop-i}

pub loop-i-init : goal.loop-i-init
loop-i-init c =
    let args = c.args in
    let e : ℕ → ℤ = kind_in args.m args.w.now in
    progress-none e (λ k. e k ∷ []) args.n args.from args.report.now

-- the report keeps its length
same : (c : At-loop-i) → length c.loop-i.report ≡ length c.args.report.now
same c = progress-length c.loop-i.invariant 1 (λ j. refl) (omega (arith, c.requires))

-- a slot is left for an order
slot : (c : In-loop-i) → c.loop-i.next < length c.args.report.now
slot c =
    let room = progress-room c.loop-i.invariant 1 (λ j. refl) (omega (arith, c.requires)) c.loop-i-test.true in
    omega arith

pub offset_bounds-report-next : goal.offset_bounds-report-next
offset_bounds-report-next c = omega (arith, slot (goal.at.offset_bounds-report-next c).In-loop-i, c.well_formed)

pub bounds-report-next : goal.bounds-report-next
bounds-report-next c = omega (arith, slot (goal.at.bounds-report-next c).In-loop-i, same (goal.at.bounds-report-next c).At-loop-i)

pub overflow_add-next : goal.overflow_add-next
overflow_add-next c = omega (arith, slot (goal.at.overflow_add-next c).In-loop-i, c.well_formed)

pub loop-i-preserved : goal.loop-i-preserved
loop-i-preserved c =
    let start = (goal.at.loop-i-preserved c).Start in let loop = c.loop-i in let kind = c.kind-order in
    let more = c.loop-i-test.true in
    let e : ℕ → ℤ = kind_in start.args.m start.args.w.now in
    elim c.if-order-ne1.branch [
      | then-order-ne1 w ↦ rw (w.report-is, w.next-is)
          (progress-number {f = e} loop.invariant more (start.requires.3.nonneg loop.i) (λ k. w.if-order-ne1.true (ap (of_z w64) (kind.ensures ∙ k)))
          (slot (goal.at.loop-i-preserved c).In-loop-i) (read w64 kind.result) (to_z-of_z {w = w64} (record { sfits = kind.type_inv }) ∙ kind.ensures))
      | else-order-ne1 w ↦ rw (w.report-is, w.next-is)
          (progress-one loop.invariant more (sym kind.ensures ∙ of-bits {w = w64} (record { sfits = kind.type_inv }) w.if-order-ne1.false))
    ]

pub returns : goal.returns
returns c =
    let args = c.args in
    let e : ℕ → ℤ = kind_in args.m args.w.now in
    rw (sym (map-blocks e (reported e args.n))) (progress-end c.loop-i.invariant c.loop-i-test.false)
