-- `report::write_report` meets its contract: the counts, the orders and the columns are written one behind the other.
use mathlib.Core.Path.{refl, sym, ap, subst, ◌∙◌}
use mathlib.Core.List.{List, [], ◌∷◌, ◌++◌, map}
use Prim.Native.Nat.{ℕ, zero, suc, ◌+◌, ◌*◌, ◌^◌, ◌≤◌, ◌<◌}
use native.Mathlib.Nat as NatL
use native.Mathlib.Omega.{arith}
use lib.ListN.{length, set, length-set, length-map}
use lib.IntN.{ℤ, pos}
use mir.Syntax.{w64}
use mir.Val.{SFits, to_z}
use mir.Facts.{to_z_pos}
use Rattle.reports.specs.Report as definition
use Rattle.reports.specs.Report.{reported, columns_of, torsion_count, report_list}
use Rattle.reports.proofs.ReportLaws.{length-reported-le}
use Rattle.lists.specs.Splice.{written}
use Rattle.operations.specs.Laid.{lines_of}
use Rattle.writers.specs.Written.{kind_in, WrittenFrom, Counted, CanReport, WroteReport}
use Rattle.writers.specs.declared.counts.Counts.{Counts}
use Rattle.two_reductions.specs.declared.reduced.Reduced.{Reduced}
use Rattle.writers.proofs.Held.{matrix-held, row-inverse-held}
use Rattle.writers.proofs.Writing.{written_none, written_one, written_then, written-whole}
use Rattle.writers.proofs.report.write_report.Goals as goal
use Rattle.writers.proofs.report.write_report.Goals.{Start, After-counts-counted}

le-mul : (m n : ℕ) → m ≤ n → m ≤ m * n
le-mul zero n h = omega arith
le-mul (suc m) n h = omega (arith, NatL.mul-le-mul_left (suc m) (NatL.le_trans one h))
  where
    one : 1 ≤ suc m
    one = omega arith

-- what is known once the counts are made
record ReducedWith (x : Reduced) (w report : List ℤ) (r : Counts) : Type 0 where
  can : CanReport x w (length report)
  fits : length report < 2 ^ 63
  counted : Counted x w r

module _ {x : Reduced} {w report : List ℤ} {r : Counts} (known : ReducedWith x w report r) where
  -- the kinds of the rows
  abbrev e : ℕ → ℤ
  e = kind_in x.workspace.matrix w

  abbrev orders : List ℤ
  orders = map e (reported e x.rank)

  abbrev columns : List ℤ
  columns = columns_of (lines_of x.workspace.row_inverse w) x.workspace.row_inverse.width (reported e x.workspace.matrix.lines)

  free-fits : SFits w64 (pos r.free)
  free-fits = record {
    sfits = omega (
      arith,
      known.fits,
      known.can.room,
      ap (λ (counts : definition.Counts). counts.free) known.counted,
      le-mul x.workspace.matrix.lines x.workspace.row_inverse.width known.can.lines-below,
    );
  }

  torsion-fits : SFits w64 (pos r.torsion)
  unfolding torsion_count
  torsion-fits = record {
    sfits = omega (arith, known.fits, known.can.room, ap (λ (counts : definition.Counts). counts.torsion) known.counted, length-reported-le e x.rank);
  }

  -- the report with the two counts
  abbrev headed : List ℤ
  headed = set (set report 0 (to_z w64 r.free)) 1 (to_z w64 r.torsion)

  headed-written : WrittenFrom 0 (pos r.free ∷ pos r.torsion ∷ []) report 2 headed
  headed-written =
      rw (to_z_pos w64 free-fits.sfits, to_z_pos w64 torsion-fits.sfits)
      (written_one (written_one (written_none 0 report) (pos r.free) (omega (arith, known.can.room))) (pos r.torsion) (omega (arith, known.can.room)))

  module _ {next : ℕ} {ordered : List ℤ} (o : WrittenFrom 2 orders headed next ordered) where
    columns-room : next + x.workspace.row_inverse.lines * x.workspace.row_inverse.width ≤ length report
    columns-room =
        subst (λ (n : ℕ). next + n * x.workspace.row_inverse.width ≤ length report) (sym known.can.laid.row-inverse-lines)
        (omega (arith, o.next, known.can.room, length-map (reported e x.rank) e, length-reported-le e x.rank))

    wrote : {last : ℕ} {report' : List ℤ} → WrittenFrom next columns ordered last report' → WroteReport x w report r report'
    unfolding report_list
    wrote g = record {
      counts = known.counted;
      is =
          written-whole (written_then (written_then headed-written o (omega arith)) g (omega arith))
          ∙ ap (λ (counts : definition.Counts). written (pos counts.free ∷ pos counts.torsion ∷ (orders ++ columns)) report) known.counted;
    }

pub counts-counted-requires : goal.counts-counted-requires
counts-counted-requires c = let pre = c.requires in record { laid = pre.laid; kinds = pre.kinds; rank_below = pre.rank_below }

known-after : (c : After-counts-counted) →
    let args = c.args in ReducedWith args.reduced args.w.now args.report.now c.counts-counted.result
known-after c =
    let start = (goal.at.After-counts-counted c).Start in
    record { can = start.requires; fits = omega (arith, start.well_formed); counted = c.counts-counted.ensures }

pub overflow_cast-report : goal.overflow_cast-report
overflow_cast-report c = free-fits (known-after (goal.at.overflow_cast-report c).After-counts-counted)

pub overflow_cast-report-2 : goal.overflow_cast-report-2
overflow_cast-report-2 c = torsion-fits (known-after (goal.at.overflow_cast-report-2 c).After-counts-counted)

pub bounds-report-1 : goal.bounds-report-1
bounds-report-1 c = simp length-set (omega (arith, c.requires.room))

pub write_orders-next-requires : goal.write_orders-next-requires
write_orders-next-requires c =
    let pre = c.requires in
    (matrix-held pre.laid, pre.rank_below, simp length-set (omega (arith, pre.room)), pre.kinds)

pub write_generators-requires : goal.write_generators-requires
write_generators-requires c =
    let counted = (goal.at.write_generators-requires c).After-counts-counted in let write-orders = c.write_orders-next in
    let g = counted.args.reduced.workspace.row_inverse in let pre = counted.requires in (
      matrix-held pre.laid,
      row-inverse-held pre.laid,
      sym pre.laid.row-inverse-lines,
      subst (λ (n : ℕ). write-orders.result + g.lines * g.width ≤ n) (sym (write-orders.auto.report ∙ simp length-set))
          (columns-room (known-after counted) write-orders.ensures),
      pre.kinds,
    )

pub returns : goal.returns
returns c =
    wrote (known-after (goal.at.returns c).After-counts-counted) c.write_orders-next.ensures
    (record { next = refl; is = c.write_generators.ensures })
