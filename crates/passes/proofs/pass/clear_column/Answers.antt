use mathlib.Core.Path.{◌≡◌, refl, ◌∙◌, ap}
use Prim.Native.Nat.{ℕ, ◌+◌}
use native.Mathlib.Omega.{arith}
use mir.Syntax.{w64}
use mir.Val.{to_z}
use Rattle.integers.specs.Division.{floor}
use Rattle.matrices.specs.Operation.{subtract}
use Rattle.matrix_lines.specs.Matrices.{contents}
use Rattle.machine_words.specs.Read.{read, wide-small}
use Rattle.operations.proofs.Unchanged.{rows-unchanged}
use Rattle.passes.proofs.States.{operated-done, operated-under, operated-wide}
use Rattle.passes.proofs.Words.{quotient-asks, quotient-read}
use Rattle.passes.proofs.Passes.{pass-refused, RowPassing, rows_next, rows-wide, rows_end}
use Rattle.passes.proofs.pass.clear_column.Goals as goal
use Rattle.passes.proofs.pass.clear_column.Goals.{Start, At-loop-i, In-loop-i, After-entry-in-loop-i, After-quotient-q, Then-q-eq0, After-on_rows}

-- a turn of the loop, after its two entries were read
module _ (c : After-entry-in-loop-i) where
  abbrev turn : In-loop-i
  turn = (goal.at.After-entry-in-loop-i c).In-loop-i

  abbrev head : At-loop-i
  head = (goal.at.In-loop-i turn).At-loop-i

  abbrev start : Start
  start = (goal.at.At-loop-i head).Start

-- the quotient as the machine reads it
taken :
    (c : After-quotient-q)
    → (let A = contents (start (goal.at.After-quotient-q c).After-entry-in-loop-i).args.workspace.matrix (head (goal.at.After-quotient-q c).After-entry-in-loop-i).loop-i.w in
    read w64 c.quotient-q.result ≡ floor (A (head (goal.at.After-quotient-q c).After-entry-in-loop-i).loop-i.i (start (goal.at.After-quotient-q c).After-entry-in-loop-i).args.k) (A (start (goal.at.After-quotient-q c).After-entry-in-loop-i).args.k (start (goal.at.After-quotient-q c).After-entry-in-loop-i).args.k))
taken c =
    let e = (goal.at.After-quotient-q c).After-entry-in-loop-i in
    let h = (head e).loop-i.invariant.placed in
    quotient-read (start e).args.workspace (start e).args.k (head e).loop-i.w h.under h.ready (head e).loop-i.i (start e).args.k
    e.entry.ensures e.entry-in-loop-i.ensures c.quotient-q.ensures

pub quotient-q-requires : goal.quotient-q-requires
quotient-q-requires c =
    let e = (goal.at.quotient-q-requires c).After-entry-in-loop-i in
    let h = (head e).loop-i.invariant.placed in
    quotient-asks (start e).args.workspace (start e).args.k (head e).loop-i.w h.under h.ready (head e).loop-i.i (start e).args.k c.entry.ensures c.entry-in-loop-i.ensures

-- a quotient of 0 changes nothing
passed-over :
    (c : Then-q-eq0)
    → (let e = (goal.at.Then-q-eq0 c).After-entry-in-loop-i in
    RowPassing (start e).args.workspace (start e).args.k (start e).args.peak (start e).args.w.now ((head e).loop-i.i + 1) (head e).loop-i.largest (head e).loop-i.w)
passed-over c =
    let e = (goal.at.Then-q-eq0 c).After-entry-in-loop-i in
    let inv = (head e).loop-i.invariant in
    let q = read w64 c.quotient-q.result in
    rows_next inv (turn e).loop-i-test.true (taken (goal.at.Then-q-eq0 c).After-quotient-q) refl inv.placed.under
    (rows-unchanged (start e).args.workspace (head e).loop-i.largest (head e).loop-i.w inv.placed.laid inv.placed.under (subtract (head e).loop-i.i (start e).args.k q) (ap (λ (bits : ℕ). to_z w64 bits) c.if-q-eq0.true) (record {
      within = record { changed = (turn e).loop-i-test.true; taken = inv.placed.ready.row; distinct = λ same. omega (arith, inv.from) };
      factor = wide-small c.quotient-q.result c.quotient-q.ensures.1;
    }))

pub loop-i-preserved-then-q-eq0 : goal.loop-i-preserved-then-q-eq0
loop-i-preserved-then-q-eq0 c = passed-over (goal.at.loop-i-preserved-then-q-eq0 c).Then-q-eq0

pub returns-in_default : goal.returns-in_default
returns-in_default c =
    let called = (goal.at.returns-in_default c).After-on_rows in
    let quotient = (goal.at.After-on_rows called).After-quotient-q in
    let inv = (head (goal.at.After-quotient-q quotient).After-entry-in-loop-i).loop-i.invariant in
    pass-refused called.on_rows.new.w
    (rows-wide inv (turn (goal.at.After-quotient-q quotient).After-entry-in-loop-i).loop-i-test.true (taken quotient) (operated-wide called.on_rows.ensures c.in_default.is inv.placed.under))
    c.clear.ensures (called.on_rows.auto.w ∙ inv.same_length)

pub loop-i-preserved : goal.loop-i-preserved
loop-i-preserved c =
    let called = c.on_rows in let is = c.in-Ok.is in
    let quotient = (goal.at.loop-i-preserved c).After-quotient-q in let inv = (head (goal.at.After-quotient-q quotient).After-entry-in-loop-i).loop-i.invariant in
    rows_next inv (turn (goal.at.After-quotient-q quotient).After-entry-in-loop-i).loop-i-test.true (taken quotient) called.auto.w
    (operated-under called.ensures is inv.placed.under c.max-largest.ensures) (operated-done called.ensures is inv.placed.under c.max-largest.ensures)

pub returns : goal.returns
returns c = rows_end c.loop-i.invariant c.loop-i-test.false
