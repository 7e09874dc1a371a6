use mathlib.Core.Path.{◌≡◌, ◌∙◌}
use Prim.Native.Nat.{◌+◌}
use native.Mathlib.Omega.{arith}
use mir.Syntax.{w64}
use Rattle.integers.specs.Division.{floor}
use Rattle.matrix_lines.specs.Matrices.{contents}
use Rattle.matrix_lines.proofs.Peaks.{under-small}
use Rattle.machine_words.specs.Read.{read, wide-small}
use Rattle.passes.proofs.States.{operated-done, operated-under, operated-wide}
use Rattle.passes.proofs.Words.{quotient-asks, quotient-read}
use Rattle.passes.proofs.Passes.{pass-refused, column-zero, ColumnPassing, columns-start, columns-next, columns-first, row_inside, columns-wide, columns-end}
use Rattle.passes.proofs.pass.clear_row.Goals as goal
use Rattle.passes.proofs.pass.clear_row.Goals.{Start, At-loop-j, In-loop-j, After-entry-in-loop-j, After-quotient-q, After-on_columns, After-max-reached}

-- a turn of the loop, after its two entries were read
module _ (c : After-entry-in-loop-j) where
  abbrev turn : In-loop-j
  turn = (goal.at.After-entry-in-loop-j c).In-loop-j

  abbrev head : At-loop-j
  head = (goal.at.In-loop-j turn).At-loop-j

  abbrev start : Start
  start = (goal.at.At-loop-j head).Start

-- the quotient as the machine reads it
taken :
    (c : After-quotient-q)
    → (let A = contents (start (goal.at.After-quotient-q c).After-entry-in-loop-j).args.workspace.matrix (head (goal.at.After-quotient-q c).After-entry-in-loop-j).loop-j.w in
    read w64 c.quotient-q.result ≡ floor (A (start (goal.at.After-quotient-q c).After-entry-in-loop-j).args.k (head (goal.at.After-quotient-q c).After-entry-in-loop-j).loop-j.j) (A (start (goal.at.After-quotient-q c).After-entry-in-loop-j).args.k (start (goal.at.After-quotient-q c).After-entry-in-loop-j).args.k))
taken c =
    let e = (goal.at.After-quotient-q c).After-entry-in-loop-j in
    let h = (head e).loop-j.invariant.clear in
    quotient-read (start e).args.workspace (start e).args.k (head e).loop-j.w h.under h.ready.ready (start e).args.k (head e).loop-j.j
    e.entry.ensures e.entry-in-loop-j.ensures c.quotient-q.ensures

pub loop-j-init : goal.loop-j-init
loop-j-init c = columns-first (columns-start c.requires) c.line.ensures c.first_nonzero-j.ensures

pub quotient-q-requires : goal.quotient-q-requires
quotient-q-requires c =
    let e = (goal.at.quotient-q-requires c).After-entry-in-loop-j in
    let h = (head e).loop-j.invariant.clear in
    quotient-asks (start e).args.workspace (start e).args.k (head e).loop-j.w h.under h.ready.ready (start e).args.k (head e).loop-j.j c.entry.ensures c.entry-in-loop-j.ensures

pub on_columns-requires : goal.on_columns-requires
on_columns-requires c =
    let e = (goal.at.on_columns-requires c).After-entry-in-loop-j in
    let inv = (head e).loop-j.invariant in
    let small-quotient = wide-small c.quotient-q.result c.quotient-q.ensures.1 in
    let h = inv.clear in record {
      laid = h.laid;
      small = under-small h.under;
      fits = (
        record {
          within = record { changed = (turn e).loop-j-test.true; taken = h.ready.ready.column; distinct = λ same. omega (arith, inv.from) };
          factor = small-quotient;
        },
        record { line = h.ready.ready.row; zero = column-zero h },
      );
    }

pub returns-in_default : goal.returns-in_default
returns-in_default c =
    let called = (goal.at.returns-in_default c).After-on_columns in
    let quotient = (goal.at.After-on_columns called).After-quotient-q in
    let inv = (head (goal.at.After-quotient-q quotient).After-entry-in-loop-j).loop-j.invariant in
    pass-refused called.on_columns.new.w
    (columns-wide inv (turn (goal.at.After-quotient-q quotient).After-entry-in-loop-j).loop-j-test.true (taken quotient) (operated-wide called.on_columns.ensures c.in_default.is inv.clear.under))
    c.clear.ensures (called.on_columns.auto.w ∙ inv.same_length)

-- the operation was done
module _ (c : After-max-reached) where
  abbrev read-pivot : After-entry-in-loop-j
  read-pivot = (goal.at.After-max-reached c).After-entry-in-loop-j

  next :
      ColumnPassing (start read-pivot).args.workspace (start read-pivot).args.k (start read-pivot).args.peak (start read-pivot).args.w.now
      ((head read-pivot).loop-j.j + 1) c.max-reached.result c.on_columns.new.w
  next =
      let called = c.on_columns in let is = c.in-Ok.is in
      let inv = (head read-pivot).loop-j.invariant in
      columns-next inv (turn read-pivot).loop-j-test.true (taken (goal.at.After-max-reached c).After-quotient-q) called.auto.w
      (operated-under called.ensures is inv.clear.under c.max-reached.ensures) (operated-done called.ensures is inv.clear.under c.max-reached.ensures)

pub first_nonzero-j-requires-in-loop-j : goal.first_nonzero-j-requires-in-loop-j
first_nonzero-j-requires-in-loop-j c =
    let h = (next (goal.at.first_nonzero-j-requires-in-loop-j c).After-max-reached).clear in
    (row_inside h.laid h.ready.ready c.line-in-loop-j.ensures, omega (arith, (turn (read-pivot (goal.at.first_nonzero-j-requires-in-loop-j c).After-max-reached)).loop-j-test.true), under-small h.under)

pub loop-j-preserved : goal.loop-j-preserved
loop-j-preserved c = columns-first (next (goal.at.loop-j-preserved c).After-max-reached) c.line-in-loop-j.ensures c.first_nonzero-j-in-loop-j.ensures

pub returns : goal.returns
returns c = columns-end c.loop-j.invariant c.loop-j-test.false
