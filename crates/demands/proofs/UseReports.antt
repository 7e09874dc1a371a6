-- Uses of the claims on reports: the projective plane's report has free rank 0 and the order 2, and describes the group; the hollow triangle has one report.
use mathlib.Core.Path.{◌≡◌, refl, sym, ◌∙◌, ap, subst}
use mathlib.Core.Logic.{◌≢◌}
use Prim.Native.Nat.{ℕ, zero, suc, ◌+◌, ◌<◌}
use native.Mathlib.Omega.{arith}
use lib.IntN.{ℤ, pos, nat_abs, ◌-ℤ◌}
use lib.Signed.{◌≤ℤ◌, ◌<ℤ◌}
use Rattle.integers.specs.Division.{◌∣ℤ◌}
use Rattle.lists.specs.Tabulate.{tabulate}
use Rattle.trials.specs.Trial.{Called}
use Rattle.sheet_format.specs.Layout.{start}
use Rattle.sheet_format.specs.Check.{count_field, cell_of, cells_of, sections_of}
use Rattle.sheet_format.specs.Sheet.{Bytes}
use Rattle.homology_groups.specs.Chain.{Chain, combination}
use Rattle.reports.specs.Reductions.{no_transforms}
use Rattle.reports.specs.Report.{Counts}
use Rattle.requests.specs.Question.{Question, cells, cell_count}
use Rattle.requests.specs.Call.{report, call}
use Rattle.host_calls.specs.Bytes.{number_at}
use Rattle.host_calls.specs.Host.{host_call}
use Rattle.answers.specs.Homology.{IsCycle, IsBoundary, Presents}
use Rattle.integers.specs.Slot.{slot}
use Rattle.answers.specs.Right.{order_in, generator_in, IsRight}
use Rattle.projective_plane.specs.Examples.{loops, counts, plane-calls}
use Rattle.demands.specs.Calls.{Calls}
use Rattle.demands.specs.Host.{HostCalls}
use Rattle.demands.specs.Answers.{ReportOf, CountsAnswered, Counted, RightReport, Reports, CountsRight, OneReport, OneCounts}
use Rattle.demands.specs.Answers as claims
use Rattle.demands.proofs.Hollow.{hollow, hollow-bytes, nines}
use Rattle.demands.proofs.Plane.{plane-bytes, numbers, number-at, plane-report, plane-order, plane-answered, loop-answered}
use Rattle.demands.proofs.UseCalls as calling
use Rattle.demands.proofs.UseHost.{lent, host-done}

-- ---- the projective plane

-- the report's generator
abbrev generator : ℕ → Chain
generator = generator_in numbers 1 (cell_count loops)

module _ (reports : Reports) where
  right-report : RightReport loops numbers
  right-report = reports loops plane-bytes numbers plane-report

  -- its first two numbers are 0 and 1
  free : right-report.free ≡ 0
  free = ap nat_abs (sym right-report.is_right.free-rank ∙ ap (number-at 0) plane-calls.report-call)

  torsion : right-report.torsion ≡ 1
  torsion = ap nat_abs (sym right-report.is_right.orders-count ∙ ap (number-at 1) plane-calls.report-call)

  right : IsRight (cells loops) 1 0 1 numbers
  right =
      subst (λ (f : ℕ). IsRight (cells loops) 1 f 1 numbers) free
      (subst (λ (t : ℕ). IsRight (cells loops) 1 right-report.free t numbers) torsion right-report.is_right)

  above-one : pos 1 <ℤ pos 2
  above-one = subst (λ (d : ℤ). pos 1 <ℤ d) plane-order (right.order-above-one 0 (omega arith))

  cycle : IsCycle (cells loops) 1 (generator 0)
  cycle = right.presents.cycles 0 (omega arith)

  -- every cycle is so many times the generator, plus a boundary
  abbrev times : (z : Chain) → IsCycle (cells loops) 1 z → ℕ → ℤ
  times z is = (right.presents.spans z is).coefficients

  spanned : (z : Chain) (is : IsCycle (cells loops) 1 z) → IsBoundary (cells loops) 1 (λ i. z i -ℤ combination 1 (times z is) generator i)
  spanned z is = (right.presents.spans z is).remainder

  -- twice the generator bounds; so many times it bound only where 2 divides
  twice-bounds : IsBoundary (cells loops) 1 (combination 1 (λ j. pos 2) generator)
  twice-bounds = (right.presents.relations (λ j. pos 2)).1 two
    where
      two : (j : ℕ) → j < 1 → order_in numbers 1 j ∣ℤ pos 2
      two zero l = subst (λ (d : ℤ). d ∣ℤ pos 2) (sym plane-order) (record { quotient = pos 1; is = refl })
      two (suc j) l = absurd (omega (arith, l))

  bounds-evenly : (c : ℕ → ℤ) → IsBoundary (cells loops) 1 (combination 1 c generator) → pos 2 ∣ℤ c 0
  bounds-evenly c bounds = subst (λ (d : ℤ). d ∣ℤ c 0) plane-order ((right.presents.relations c).0 bounds 0 (omega arith))

  nonneg : pos 0 ≤ℤ order_in numbers 1 0
  nonneg = right.presents.nonneg 0 (omega arith)

  proper : order_in numbers 1 0 ≢ pos 1
  proper = right.presents.proper 0 (omega arith)

  -- any other description has one generator, of order 2
  only_one : (k : ℕ) (g : ℕ → Chain) (o : ℕ → ℤ) → Presents (cells loops) 1 k g o → 1 ≡ k
  only_one k g o p = (right.only k g o p).count

  only-2 : (k : ℕ) (g : ℕ → Chain) (o : ℕ → ℤ) → Presents (cells loops) 1 k g o → pos 2 ≡ o 0
  only-2 k g o p = sym plane-order ∙ (right.only k g o p).orders 0 (omega arith)

  -- of any report each order divides the next
  divides-next : (q : Question) (bytes : Bytes q.sheet) (read : ℕ → ℤ) (of : ReportOf q read) (j : ℕ) →
      suc j < (reports q bytes read of).torsion + (reports q bytes read of).free →
      order_in read (reports q bytes read of).torsion j ∣ℤ order_in read (reports q bytes read of).torsion (suc j)
  divides-next q bytes read of = (reports q bytes read of).is_right.presents.divides-next

module _ (counts_right : CountsRight) where
  plane-counted : Counted loops 0 1
  plane-counted = counts_right loops plane-bytes no_transforms counts plane-answered

  counted-right : IsRight (cells loops) 1 0 1 plane-counted.report
  counted-right = plane-counted.is_right

-- whatever call answers counts, they are these
one-counts : OneCounts → (d : Counts) → CountsAnswered loops no_transforms d → d ≡ record { free = 0; torsion = 1; peak = 2; bits = 2 }
one-counts one_counts d answered = one_counts loops plane-bytes no_transforms d counts answered loop-answered

-- ---- the hollow triangle: the host's report is the library's

module _ (calls : Calls) (host_calls : HostCalls) (counts_right : CountsRight) (one_report : OneReport) where
  library-report : ReportOf hollow (slot (call 48 hollow report (nines 16) (nines 30)).output)
  library-report = claims.ReportOf.by-library 48 (nines 16) (nines 30) calling.loops (ap (λ (c : Called Counts ℤ). c.answer) (calling.report-written calls))

  host-report : ReportOf hollow (number_at (host_call hollow report (lent 134)).output)
  host-report = claims.ReportOf.by-host (lent 134) (host-done calls host_calls)

  hollow-counted : Counted hollow 1 0
  hollow-counted =
      counts_right hollow hollow-bytes no_transforms calling.loops
      (claims.CountsAnswered.by_call 48 report (nines 16) (nines 30) calling.loops (ap (λ (c : Called Counts ℤ). c.answer) (calling.report-written calls)))

  -- the last of its five numbers
  last-number : number_at (host_call hollow report (lent 134)).output 4 ≡ pos 1
  unfolding cells count_field cell_of cells_of sections_of start tabulate
  last-number =
      one_report hollow hollow-bytes (number_at (host_call hollow report (lent 134)).output) (slot (call 48 hollow report (nines 16) (nines 30)).output) host-report library-report 1 0 hollow-counted 4 (omega arith)
      ∙ ap (number-at 4) (calling.report-written calls)
