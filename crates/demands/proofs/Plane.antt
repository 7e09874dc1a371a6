-- The projective plane of crate `projective_plane` in dimension 1, whose one loop has order 2: a report and coordinates of it, as a caller reads them.
use mathlib.Core.Path.{◌≡◌, ap}
use mathlib.Core.List.{List}
use Prim.Native.Nat.{ℕ}
use native.Mathlib.Omega.{arith}
use lib.IntN.{ℤ, pos}
use Rattle.lists.specs.Same.{every}
use Rattle.trials.specs.Trial.{Called}
use Rattle.sheet_format.specs.Sheet.{Bytes}
use Rattle.reports.specs.Reductions.{no_transforms}
use Rattle.reports.specs.Report.{Counts}
use Rattle.requests.specs.Call.{coordinates, call}
use Rattle.requests.specs.Call as request
use Rattle.integers.specs.Slot.{slot}
use Rattle.answers.specs.Right.{order_in}
use Rattle.projective_plane.specs.Plane.{sheet, loop, twice, backwards}
use Rattle.projective_plane.specs.Examples.{loops, nines, counts, plane-calls}
use Rattle.demands.specs.Answers.{ReportOf, CoordinatesOf, CountsAnswered}
use Rattle.demands.specs.Answers as claims
use Rattle.demands.proofs.Hollow.{numbers-below}

pub plane-bytes : Bytes sheet
unfolding every
plane-bytes = record { small = numbers-below 256 (omega arith) sheet tt }

-- the numbers of the report, and the coordinates that a call leaves of a chain
abbrev pub numbers : ℕ → ℤ
numbers = slot (call 256 loops request.report (nines 242) (nines 600)).output

abbrev pub read : List ℤ → ℕ → ℤ
read z = slot (call 256 loops (coordinates z) (nines 15) (nines 600)).output

-- number i of the output, of a call
abbrev pub number-at : ℕ → Called Counts ℤ → ℤ
number-at i called = slot called.output i

pub plane-report : ReportOf loops numbers
plane-report = claims.ReportOf.by-library 256 (nines 242) (nines 600) counts (ap (λ (c : Called Counts ℤ). c.answer) plane-calls.report-call)

pub plane-order : order_in numbers 1 0 ≡ pos 2
plane-order = ap (number-at 2) plane-calls.report-call

pub loop-coordinates : CoordinatesOf loops (slot loop) (read loop)
loop-coordinates = claims.CoordinatesOf.by-library 256 loop (nines 15) (nines 600) counts (ap (λ (c : Called Counts ℤ). c.answer) plane-calls.coordinate-loop)

pub twice-coordinates : CoordinatesOf loops (slot twice) (read twice)
twice-coordinates = claims.CoordinatesOf.by-library 256 twice (nines 15) (nines 600) counts (ap (λ (c : Called Counts ℤ). c.answer) plane-calls.coordinate-twice)

pub backwards-coordinates : CoordinatesOf loops (slot backwards) (read backwards)
backwards-coordinates =
    claims.CoordinatesOf.by-library 256 backwards (nines 15) (nines 600) counts (ap (λ (c : Called Counts ℤ). c.answer) plane-calls.coordinate-backwards)

pub plane-answered : CountsAnswered loops no_transforms counts
plane-answered =
    claims.CountsAnswered.by_call 256 request.report (nines 242) (nines 600) counts (ap (λ (c : Called Counts ℤ). c.answer) plane-calls.report-call)

-- the same counts from the coordinate call on the loop
pub loop-answered : CountsAnswered loops no_transforms counts
loop-answered =
    claims.CountsAnswered.by_call 256 (coordinates loop) (nines 15) (nines 600) counts (ap (λ (c : Called Counts ℤ). c.answer) plane-calls.coordinate-loop)
