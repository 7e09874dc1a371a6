-- `fildwuk::report_through` meets its contract: what it answers and writes is `Through`'s to say, from what `report_at` ensures.
use mathlib.Core.Path.{◌≡◌, refl, sym}
use mathlib.Core.List.{List}
use Prim.Native.Nat.{ℕ, ◌+◌, ◌*◌, ◌≤◌}
use native.Mathlib.Omega.{arith}
use lib.IntN.{ℤ, pos}
use lib.ListN.{length, take, replicate}
use Rattle.std.proofs.lemmas.List.{length-replicate}
use lib.Seq.{length-take-le}
use Rattle.std.proofs.lemmas.Result.{err_from_is_err_and}
use Rattle.requests.specs.Question.{asked}
use Rattle.host_calls.specs.Host.{report_room, work_room}
use Rattle.answers.proofs.HostSizes.{ReportSized}
use Rattle.writers.specs.declared.counts.Counts.{Counts}
use Rattle.calls.specs.CallAnswers.{counts_in}
use Rattle.fildwuk.proofs.Through.{Lent, lend, lent_length, slots, left, size, writable, report-refuses, report-sizes, report-room, report-writes}
use Rattle.fildwuk.proofs.report_through.Goals as goal
use Rattle.fildwuk.proofs.report_through.Goals.{After-report_at, In_ok-counts, After-count}

-- the library's call
abbrev call : After-report_at → Lent report_room work_room
call c =
    let args = c.args in
    lend report_room work_room (asked args.sheet.now args.dimension) args.report.now (replicate report_room (pos 0)) (replicate work_room (pos 0)) c.host.ensures
    (λ i. (c.type_inv.sheet i).fits) c.min-slots.ensures (length-replicate report_room (pos 0)) (length-replicate work_room (pos 0))

-- where it is done
module _ (c : In_ok-counts) where
  abbrev called : After-report_at
  called = (goal.at.In_ok-counts c).After-report_at

  sizes : ReportSized (call called).question (length (slots (call called))) (counts_in c.in_ok-counts.counts)
  sizes = report-sizes (call called) c.in_ok-counts.ensures refl

module _ (c : After-count) where
  abbrev counted : In_ok-counts
  counted = (goal.at.After-count c).In_ok-counts

  abbrev counts : Counts
  counts = counted.in_ok-counts.counts

  room : 2 + counts.torsion + (counts.torsion + counts.free) * c.count.result ≤ length (slots (call (called counted)))
  room = report-room (call (called counted)) counted.in_ok-counts.ensures refl c.count.ensures.is

pub overflow_add-generators : goal.overflow_add-generators
overflow_add-generators c = let s = (sizes (goal.at.overflow_add-generators c).In_ok-counts).is-sized in omega (arith, s.total-within, s.cells-within)

pub overflow_add-written : goal.overflow_add-written
overflow_add-written c = let s = (sizes (goal.at.overflow_add-written c).In_ok-counts).is-sized in omega (arith, s.total-within, s.cells-within)

pub overflow_mul-written : goal.overflow_mul-written
overflow_mul-written c = omega (arith, room c, size (call (called (counted c))))

pub overflow_add-written-2 : goal.overflow_add-written-2
overflow_add-written-2 c = omega (arith, room c, size (call (called (counted c))))

-- so many numbers of the slots are written
module _ (c : After-count) where
  abbrev lent : Lent report_room work_room
  lent = call (called (counted c))

  abbrev written : ℕ
  written = 2 + (counts c).torsion + ((counts c).torsion + (counts c).free) * c.count.result

  abbrev numbers : List ℤ
  numbers = left lent (called (counted c)).report_at.new.report

  ready : (written ≤ length numbers) × (8 * written ≤ length lent.output)
  ready = writable lent (called (counted c)).report_at.new.report (room c) (called (counted c)).report_at.auto.report

  as-many : length (take written numbers) ≡ written
  as-many = length-take-le written numbers ready.0

pub slice_bounds-numbers-end-2 : goal.slice_bounds-numbers-end-2
slice_bounds-numbers-end-2 c = (ready (goal.at.slice_bounds-numbers-end-2 c).After-count).0

pub slice_bounds-write_numbers-end : goal.slice_bounds-write_numbers-end
slice_bounds-write_numbers-end c = sym (as-many (goal.at.slice_bounds-write_numbers-end c).After-count)

pub write_numbers-requires : goal.write_numbers-requires
write_numbers-requires c = let d = (goal.at.write_numbers-requires c).After-count in omega (arith, as-many d, (ready d).1)

pub returns-in_err-counts : goal.returns-in_err-counts
returns-in_err-counts c =
    let a = (goal.at.returns-in_err-counts c).After-report_at in
    let x = err_from_is_err_and c.from_residual.result c.from_residual.ensures.1 in
    rw (x.1, x.2) (report-refuses (call a) c.in_err-counts.ensures refl)

pub returns : goal.returns
returns c =
    let d = (goal.at.returns c).After-count in let k = counted d in let a = called k in
    report-writes (call a) k.in_ok-counts.ensures refl d.count.ensures.is a.report_at.auto.report c.write_numbers.ensures
