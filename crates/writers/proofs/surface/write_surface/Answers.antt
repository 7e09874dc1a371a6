use mathlib.Core.Path.{◌≡◌, sym, ap, ap₂, subst, ◌∙◌}
use mathlib.Core.List.{List, ◌++◌}
use Prim.Native.Nat.{ℕ, ◌+◌, ◌<◌}
use native.Mathlib.Nat.{le_antisymm}
use native.Mathlib.Numerals.{add-one}
use native.Mathlib.Omega.{arith}
use lib.ListN.{length, take, drop}
use Rattle.std.proofs.lemmas.List.{get_or-replicate}
use lib.Seq.{length-take-le, ext_get_or}
use lib.IntN.{ℤ, pos, ◌+ℤ◌, ◌*ℤ◌}
use lib.Signed.{◌<ℤ◌}
use mir.Syntax.{w64}
use mir.Val.{to_z}
use mir.Facts.{to_z-of_z}
use Rattle.integers.specs.Division.{floor}
use Rattle.integers.specs.Slot.{slot}
use Rattle.integers.proofs.Ring.{add-zero, zero-mul}
use Rattle.machine_words.specs.Read.{read}
use Rattle.matrices.specs.Sum.{sum}
use Rattle.matrix_lines.specs.Matrices.{contents}
use Rattle.matrix_lines.specs.declared.matrix.Matrix.{Matrix}
use Rattle.reports.specs.Surface.{surface_at, surface_list}
use Rattle.writers.proofs.Held.{matrix-held, column-follower-held}
use Rattle.writers.proofs.Entries.{entry-lines}
use Rattle.writers.proofs.surface.write_surface.Invariants.{SumsOver}
use Rattle.lists.proofs.TabulateLaws.{length-tabulate, get_or-tabulate}
use Rattle.two_reductions.specs.Slices.{state_in}
use Rattle.writers.proofs.Terms.{quotient_at, term, row-asked, quotient-small, column-line, terms-small}
use Rattle.writers.proofs.surface.write_surface.Goals as goal
use Rattle.writers.proofs.surface.write_surface.Goals.{Start, then-y-ne0, else-y-ne0, At-loop-i, After-floor-y}

module _ {m q columns : Matrix} {w z sums : List ℤ} {i : ℕ} (so_far : SumsOver m q columns w z i sums) (line : i < columns.lines) {y : ℤ}
    (is : y ≡ quotient_at m q w z i) where
  again : {sums' : List ℤ} → ((j : ℕ) → j < columns.width → slot sums' j ≡ slot sums j +ℤ y *ℤ contents columns w i j) → SumsOver m q columns w z (i + 1) sums'
  unfolding sum
  again h = record { at = λ j l. rw add-one (h j l ∙ ap₂ ◌+ℤ◌ (so_far.at j l) (ap₂ ◌*ℤ◌ is (sym (entry-lines columns w i j line l)))) }

  -- a quotient of 0
  passed : y ≡ pos 0 → SumsOver m q columns w z (i + 1) sums
  passed e = again (λ j l. rw (e, zero-mul (contents columns w i j)) (sym (add-zero (slot sums j))))

pub loop-i-init : goal.loop-i-init
unfolding sum
loop-i-init c =
    let part = take c.args.reduced.workspace.column_follower.width c.args.surface.now in
    let long = length-take-le c.args.reduced.workspace.column_follower.width c.args.surface.now c.requires.column_follower_in_bounds in
    record {
      at = λ j l. ap (λ (s : List ℤ). slot s j) (c.fill.ensures.after (λ y e. e)) ∙ get_or-replicate (length part) j (pos 0) (pos 0) (omega arith);
    }

module _ (c : At-loop-i) where
  abbrev start : Start
  start = (goal.at.At-loop-i c).Start

  size : length c.loop-i.sums ≡ start.args.reduced.workspace.column_follower.width
  size = omega (arith, c.loop-i.auto.sums, c.fill.ensures.len, length-take-le start.args.reduced.workspace.column_follower.width start.args.surface.now start.requires.column_follower_in_bounds)

pub kind-pivot-requires : goal.kind-pivot-requires
kind-pivot-requires c =
    let pre = (start (goal.at.kind-pivot-requires c).At-loop-i).requires.can_surface in (matrix-held pre.laid, omega (arith, c.loop-i-test.true, pre.rank_below))

pub row_times_chain-requires : goal.row_times_chain-requires
row_times_chain-requires c =
    let pre = (start (goal.at.row_times_chain-requires c).At-loop-i).requires.can_surface in let asked = row-asked pre (omega (arith, c.loop-i-test.true, pre.rank_below)) in
    record { held = asked.0; by_index = asked.1 }

pub floor-y-requires : goal.floor-y-requires
floor-y-requires c =
    let kind = c.kind-pivot in let at = (goal.at.floor-y-requires c).At-loop-i in
    subst (λ (d : ℤ). pos 0 <ℤ d) (sym (to_z-of_z {w = w64} (record { sfits = kind.type_inv }) ∙ kind.ensures))
    ((start at).requires.can_surface.pivots at.loop-i.i c.loop-i-test.true)

-- the row times the chain over the pivot, as the call leaves it
y-is : (c : After-floor-y) → let at = (goal.at.After-floor-y c).At-loop-i in let args = (start at).args in
    read w64 c.floor-y.result
    ≡ quotient_at args.reduced.workspace.matrix args.reduced.workspace.row_follower args.w.now args.chain.now at.loop-i.i
y-is c =
    let kind = c.kind-pivot in let row = c.row_times_chain in
    to_z-of_z {w = w64} (record { sfits = c.floor-y.type_inv }) ∙ c.floor-y.ensures
    ∙ ap₂ floor (to_z-of_z {w = w64} (record { sfits = row.type_inv }) ∙ row.ensures) (to_z-of_z {w = w64} (record { sfits = kind.type_inv }) ∙ kind.ensures)

pub add_line-requires : goal.add_line-requires
add_line-requires c =
    let floored = (goal.at.add_line-requires c).After-floor-y in let at = (goal.at.After-floor-y floored).At-loop-i in let more = floored.loop-i-test.true in
    let can = (start at).requires.can_surface in let inv = at.loop-i.invariant in
    record {
      held = column-follower-held can.laid;
      small = can.small;
      line = column-line can at.loop-i.i more;
      factor = rw (y-is floored) (quotient-small can (omega (arith, can.rank_below)));
      size = size at;
      headroom = λ j l. rw (inv.at j l) (omega (arith, terms-small can at.loop-i.i j (omega (arith, more)) l, can.rank-within));
    }

pub loop-i-preserved : goal.loop-i-preserved
loop-i-preserved c =
    let floored = (goal.at.loop-i-preserved c).After-floor-y in let at = (goal.at.After-floor-y floored).At-loop-i in let more = floored.loop-i-test.true in
    let line = column-line (start at).requires.can_surface at.loop-i.i more in
    elim c.if-y-ne0.branch [
      | then-y-ne0 w ↦ rw w.sums-is (again at.loop-i.invariant line (y-is floored) w.add_line.ensures)
      | else-y-ne0 w ↦ rw w.sums-is (passed at.loop-i.invariant line (y-is floored) (ap (to_z w64) w.if-y-ne0.false))
    ]

pub returns : goal.returns
unfolding surface_list surface_at
returns c =
    let at = (goal.at.returns c).At-loop-i in
    let a = (start at).args in
    let width = a.reduced.workspace.column_follower.width in
    let list : List ℤ = surface_list a.reduced.workspace.row_follower.width width a.reduced.rank (state_in a.reduced a.w.now) a.chain.now in
    let long : length list ≡ width = length-tabulate width _ in
    ap₂ (λ (l : List ℤ) (n : ℕ). l ++ drop n a.surface.now)
    (ext_get_or (pos 0) c.loop-i.sums list (size at ∙ sym long) (λ j below.
    at.loop-i.invariant.at j (omega (arith, size at))
    ∙ ap (λ (n : ℕ). sum n (term a.reduced.workspace.matrix a.reduced.workspace.row_follower a.reduced.workspace.column_follower a.w.now a.chain.now j)) (le_antisymm c.loop-i.auto.i-end c.loop-i-test.false)
    ∙ sym (get_or-tabulate width _ j (pos 0) (omega (arith, size at)))))
    (sym long)
