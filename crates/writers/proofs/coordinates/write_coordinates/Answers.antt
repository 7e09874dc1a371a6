use mathlib.Core.Path.{◌≡◌, refl, sym, ap, ap₂, subst, ◌∙◌}
use mathlib.Core.List.{List, [], ◌∷◌}
use Prim.Native.Nat.{ℕ, ◌≤◌, ◌<◌}
use native.Mathlib.Omega.{arith}
use lib.ListN.{length}
use lib.IntN.{ℤ, pos}
use lib.Signed.{◌≤ℤ◌}
use mir.Syntax.{w64}
use mir.Val.{of_z}
use mir.Facts.{to_z-of_z}
use Rattle.integers.specs.Division.{residue}
use Rattle.reports.specs.Report.{reported, coordinate_at, coordinate_list}
use Rattle.limits.specs.Limits.{library_limit}
use Rattle.machine_words.specs.Read.{read, of-bits}
use Rattle.writers.specs.Written.{kind_in, WrittenFrom}
use Rattle.writers.proofs.Held.{matrix-held, row-follower-held}
use Rattle.writers.proofs.Rows.{map-blocks}
use Rattle.writers.proofs.Writing.{progress-none, progress-one, progress-number, progress-end, progress-room, progress-length}
use Rattle.writers.proofs.coordinates.write_coordinates.Invariants.{coordinate}
use Rattle.writers.proofs.coordinates.write_coordinates.Goals as goal
use Rattle.writers.proofs.coordinates.write_coordinates.Goals.{Start, then-order-ne1, else-order-ne1, At-loop-i, In-loop-i}

pub loop-i-init : goal.loop-i-init
loop-i-init c =
    let args = c.args in let m = args.reduced.workspace.matrix in let w = args.w.now in
    progress-none (kind_in m w) (λ k. coordinate m args.reduced.workspace.row_follower w args.chain.now k ∷ []) m.lines args.from args.coordinates.now

pub kind-order-requires : goal.kind-order-requires
kind-order-requires c = (matrix-held c.requires.laid, c.loop-i-test.true)

pub row_times_chain-requires : goal.row_times_chain-requires
row_times_chain-requires c =
    let pre = c.requires in
    record {
      held = (
        row-follower-held pre.laid,
        subst (λ (n : ℕ). c.loop-i.i < n) (sym pre.laid.row-follower-lines) c.loop-i-test.true,
        pre.width,
        subst (λ (n : ℕ). n ≤ library_limit) (sym pre.width) pre.width-within,
        pre.small,
      );
      by_index = pre.coefficients;
    }

pub residue-requires : goal.residue-requires
residue-requires c =
    let kind = c.kind-order in let loop = c.loop-i in
    let pre = c.requires in
    subst (λ (d : ℤ). pos 0 ≤ℤ d) (sym (to_z-of_z {w = w64} (record { sfits = kind.type_inv }) ∙ kind.ensures)) (pre.kinds.nonneg loop.i)

-- the slice keeps its length
same : (c : At-loop-i) → length c.loop-i.coordinates ≡ length c.args.coordinates.now
same c = progress-length c.loop-i.invariant 1 (λ j. refl) (omega (arith, c.requires.room))

-- a slot is left for a coordinate
slot-left : (c : In-loop-i) → c.loop-i.next < length c.args.coordinates.now
slot-left c =
    let room = progress-room c.loop-i.invariant 1 (λ j. refl) (omega (arith, c.requires.room)) c.loop-i-test.true in
    omega arith

pub offset_bounds-coordinates-next : goal.offset_bounds-coordinates-next
offset_bounds-coordinates-next c = omega (arith, slot-left (goal.at.offset_bounds-coordinates-next c).In-loop-i, c.well_formed)

pub bounds-coordinates-next : goal.bounds-coordinates-next
bounds-coordinates-next c =
    omega (arith, slot-left (goal.at.bounds-coordinates-next c).In-loop-i, same (goal.at.bounds-coordinates-next c).At-loop-i)

pub overflow_add-next : goal.overflow_add-next
overflow_add-next c = omega (arith, slot-left (goal.at.overflow_add-next c).In-loop-i, c.well_formed)

pub loop-i-preserved : goal.loop-i-preserved
loop-i-preserved c =
    let start = (goal.at.loop-i-preserved c).Start in let loop = c.loop-i in let kind = c.kind-order in
    let more = c.loop-i-test.true in
    let m = start.args.reduced.workspace.matrix in let q = start.args.reduced.workspace.row_follower in
    let f : ℕ → ℤ = coordinate m q start.args.w.now start.args.chain.now in
    elim c.if-order-ne1.branch [
      | then-order-ne1 w ↦ rw (w.coordinates-is, w.next-is)
          (progress-number {f = f} loop.invariant more (start.requires.kinds.nonneg loop.i) (λ k. w.if-order-ne1.true (ap (of_z w64) (kind.ensures ∙ k)))
          (slot-left (goal.at.loop-i-preserved c).In-loop-i) (read w64 w.residue.result)
          (to_z-of_z {w = w64} (record { sfits = w.residue.type_inv }) ∙ w.residue.ensures
          ∙ ap₂ residue (to_z-of_z {w = w64} (record { sfits = w.row_times_chain.type_inv }) ∙ w.row_times_chain.ensures) (to_z-of_z {w = w64} (record { sfits = kind.type_inv }) ∙ kind.ensures)))
      | else-order-ne1 w ↦ rw (w.coordinates-is, w.next-is)
          (progress-one loop.invariant more (sym kind.ensures ∙ of-bits {w = w64} (record { sfits = kind.type_inv }) w.if-order-ne1.false))
    ]

pub returns : goal.returns
unfolding coordinate_list coordinate_at
returns c =
    let args = c.args in
    let m = args.reduced.workspace.matrix in let q = args.reduced.workspace.row_follower in let w = args.w.now in
    subst (λ (l : List ℤ). WrittenFrom args.from l args.coordinates.now c.loop-i.next c.loop-i.coordinates)
    (map-blocks (coordinate m q w args.chain.now) (reported (kind_in m w) m.lines)) (progress-end c.loop-i.invariant c.loop-i-test.false)
