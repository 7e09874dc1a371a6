-- Uses of the consequences where the order is 3, on the Moore space of crate `moore_space` in dimension 1.
use mathlib.Core.Path.{◌≡◌, sym, ◌∙◌, ap}
use mathlib.Core.Logic.{◌≢◌, ◌⊎◌}
use mathlib.Core.List.{List, ◌++◌}
use Prim.Native.Nat.{ℕ, ◌<◌}
use native.Mathlib.Omega.{arith}
use lib.IntN.{ℤ, pos, neg_ℤ, nat_abs}
use Rattle.lists.specs.Same.{every}
use Rattle.lists.specs.Tabulate.{tabulate}
use Rattle.lists.proofs.TabulateLaws.{get_or-tabulate}
use Rattle.trials.specs.Trial.{Called}
use Rattle.sheet_format.specs.Check.{count_field, cells_of, sections_of}
use Rattle.sheet_format.specs.Sheet.{Bytes}
use Rattle.homology_groups.specs.Chain.{Chain}
use Rattle.reports.specs.Report.{Counts}
use Rattle.requests.specs.Question.{cells}
use Rattle.requests.specs.Call.{coordinates, call}
use Rattle.requests.specs.Call as request
use Rattle.integers.specs.Slot.{slot}
use Rattle.answers.specs.Right.{order_in, generator_in}
use Rattle.moore_space.specs.Space.{sheet, report, backwards}
use Rattle.moore_space.specs.Examples.{loops, nines, counts, space-calls}
use Rattle.demands.specs.Answers.{CoordinatesOf, ReportOf, Counted}
use Rattle.demands.specs.Answers as claims
use Rattle.demands.specs.Consequences.{CoordinatesOfSmallOrders, GeneratorsBackwards}
use Rattle.demands.proofs.Hollow.{numbers-below}

space-bytes : Bytes sheet
unfolding every
space-bytes = record { small = numbers-below 256 (omega arith) sheet tt }

-- the numbers of the report, and the coordinates of the loop run backwards
abbrev numbers : ℕ → ℤ
numbers = slot (call 256 loops request.report (nines 602) (nines 1560)).output

abbrev read : ℕ → ℤ
read = slot (call 256 loops (coordinates backwards) (nines 24) (nines 1560)).output

space-report : ReportOf loops numbers
space-report = claims.ReportOf.by-library 256 (nines 602) (nines 1560) counts (ap (λ (c : Called Counts ℤ). c.answer) space-calls.report-call)

backwards-coordinates : CoordinatesOf loops (slot backwards) read
backwards-coordinates =
    claims.CoordinatesOf.by-library 256 backwards (nines 24) (nines 1560) counts (ap (λ (c : Called Counts ℤ). c.answer) space-calls.coordinate-backwards)

space-order : order_in numbers 1 0 ≡ pos 3
space-order = ap (λ (c : Called Counts ℤ). slot c.output 2) space-calls.report-call

-- the loop run backwards is the reported generator with its signs changed
abbrev opposite : List ℤ → ℕ → ℤ
opposite l i = neg_ℤ (generator_in (slot l) 1 24 0 i)

is-opposite : (i : ℕ) → i < 24 → slot backwards i ≡ neg_ℤ (generator_in numbers 1 24 0 i)
unfolding tabulate
is-opposite i l = get_or-tabulate 24 (opposite (report ++ nines 575)) i (pos 0) l ∙ sym (ap (λ (c : Called Counts ℤ). opposite c.output i) space-calls.report-call)

not-two : order_in numbers 1 0 ≢ pos 2
not-two e = let h : ◌≡◌ {A = ℕ} 3 2 = ap nat_abs (sym space-order ∙ e) in omega (arith, h)

module _ (counted : Counted loops 0 1) where
  -- -1, 0 or 1, of whatever chain
  small-three : CoordinatesOfSmallOrders → (z : Chain) (c : ℕ → ℤ) → CoordinatesOf loops z c → (c 0 ≡ neg_ℤ (pos 1)) ⊎ ((c 0 ≡ pos 0) ⊎ (c 0 ≡ pos 1))
  small-three small z c of = (small loops space-bytes z c numbers of space-report 0 1 counted 0 (omega arith)).1 space-order

  -- run backwards: -1
  backwards-minus-one : GeneratorsBackwards → read 0 ≡ neg_ℤ (pos 1)
  unfolding cells count_field cells_of sections_of tabulate
  backwards-minus-one turned =
      (turned loops space-bytes (slot backwards) read numbers backwards-coordinates space-report 0 1 counted 0 (omega arith) is-opposite).0 not-two
