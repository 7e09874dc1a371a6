use mathlib.Core.Path.{◌≡◌, sym, ap, subst, ◌∙◌}
use mathlib.Core.List.{List}
use Prim.Native.Nat.{ℕ, ◌+◌, ◌*◌, ◌≤◌, ◌<◌}
use native.Mathlib.Omega.{arith}
use lib.ListN.{length}
use lib.IntN.{ℤ}
use mir.Syntax.{w64}
use mir.Val.{of_z}
use Rattle.lists.specs.Tabulate.{tabulate}
use Rattle.lists.proofs.TabulateLaws.{length-tabulate, tabulate-ext}
use Rattle.lists.specs.Splice.{splice}
use Rattle.reduction_steps.specs.Table.{entry}
use Rattle.reports.specs.Report.{reported}
use Rattle.matrix_lines.specs.Matrices.{contents}
use Rattle.matrix_lines.specs.declared.matrix.Matrix.{Matrix}
use Rattle.operations.specs.Laid.{lines_of}
use Rattle.machine_words.specs.Read.{of-bits}
use Rattle.writers.specs.Written.{kind_in}
use Rattle.writers.proofs.Entries.{entry-lines}
use Rattle.writers.proofs.Rows.{columns_of-blocks}
use Rattle.writers.proofs.Writing.{progress-none, progress-one, progress-line, progress-end, progress-room, progress-length, put-splice}
use Rattle.writers.proofs.report.write_generators.Invariants.{column}
use Rattle.writers.proofs.report.write_generators.Goals as goal
use Rattle.writers.proofs.report.write_generators.Goals.{Start, then-kind-ne1, else-kind-ne1, At-loop-i, In-loop-i}

-- a line as it is copied
line-column : (g : Matrix) (w : List ℤ) (i : ℕ) → i < g.lines → tabulate g.width (contents g w i) ≡ column g w i
line-column g w i h =
    tabulate-ext g.width (contents g w i) (λ j. entry (lines_of g w) i j) (λ j l. sym (entry-lines g w i j h l))

column-length : (g : Matrix) (w : List ℤ) (i : ℕ) → length (column g w i) ≡ g.width
column-length g w i = length-tabulate g.width (λ j. entry (lines_of g w) i j)

pub loop-i-init : goal.loop-i-init
loop-i-init c =
    let args = c.args in
    progress-none (kind_in args.m args.w.now) (column args.g args.w.now) args.m.lines args.from args.report.now

-- the report has room for a column of each row
room : (c : Start) → c.args.from + c.args.m.lines * c.args.g.width ≤ length c.args.report.now
room c = subst (λ (n : ℕ). c.args.from + n * c.args.g.width ≤ length c.args.report.now) (sym c.requires.2) c.requires.3

-- the report keeps its length
same : (c : At-loop-i) → length c.loop-i.report ≡ length c.args.report.now
same c = progress-length c.loop-i.invariant c.args.g.width (column-length c.args.g c.args.w.now) (room (goal.at.At-loop-i c).Start)

-- slots are left for a column
slots : (c : In-loop-i) → c.loop-i.next + c.args.g.width ≤ length c.args.report.now
slots c =
    progress-room c.loop-i.invariant c.args.g.width (column-length c.args.g c.args.w.now)
    (room (goal.at.In-loop-i c).Start) c.loop-i-test.true

pub offset_bounds-report-next : goal.offset_bounds-report-next
offset_bounds-report-next c = omega (arith, slots (goal.at.offset_bounds-report-next c).In-loop-i, c.well_formed)

pub slice_bounds-write_line-end : goal.slice_bounds-write_line-end
slice_bounds-write_line-end c =
    let inside = (goal.at.slice_bounds-write_line-end c).In-loop-i in
    omega (arith, slots inside, same (goal.at.In-loop-i inside).At-loop-i)

pub overflow_add-next : goal.overflow_add-next
overflow_add-next c = omega (arith, slots (goal.at.overflow_add-next c).In-loop-i, c.well_formed)

pub loop-i-preserved : goal.loop-i-preserved
loop-i-preserved c =
    let start = (goal.at.loop-i-preserved c).Start in let loop = c.loop-i in let kind = c.kind in
    let more = c.loop-i-test.true in
    let g = start.args.g in let entries = start.args.w.now in
    let copied = line-column g entries loop.i (subst (λ (n : ℕ). loop.i < n) start.requires.2 more) in
    elim c.if-kind-ne1.branch [
      | then-kind-ne1 w ↦ rw (w.report-is, w.next-is)
          (progress-line loop.invariant more (start.requires.4.nonneg loop.i) (λ k. w.if-kind-ne1.true (ap (of_z w64) (kind.ensures ∙ k)))
          (omega (arith, start.requires.3)) g.width (column-length g entries loop.i)
          (put-splice loop.next _ w.write_line.new.slots loop.report (omega (arith, w.write_line.auto.slots, ap length w.write_line.ensures, ap length copied, column-length g entries loop.i))
          ∙ ap (λ (l : List ℤ). splice loop.next l loop.report) (w.write_line.ensures ∙ copied)))
      | else-kind-ne1 w ↦ rw (w.report-is, w.next-is)
          (progress-one loop.invariant more (sym kind.ensures ∙ of-bits {w = w64} (record { sfits = kind.type_inv }) w.if-kind-ne1.false))
    ]

pub returns : goal.returns
returns c =
    let args = c.args in
    rw (sym (columns_of-blocks (lines_of args.g args.w.now) args.g.width (reported (kind_in args.m args.w.now) args.m.lines)))
    (progress-end c.loop-i.invariant c.loop-i-test.false).is
