-- Uses of the consequences where the order is 2, on the projective plane.
use mathlib.Core.Path.{◌≡◌, sym, ◌∙◌, ap, subst}
use mathlib.Core.Logic.{◌⊎◌}
use mathlib.Core.List.{List, ◌++◌}
use Prim.Native.Nat.{ℕ, zero, suc, ◌<◌}
use native.Mathlib.Omega.{arith}
use lib.IntN.{ℤ, pos, neg_ℤ, ◌-ℤ◌, ◌*ℤ◌}
use Rattle.integers.specs.Division.{floor, modulo, residue, NearestZero}
use Rattle.lists.specs.Tabulate.{tabulate}
use Rattle.lists.proofs.TabulateLaws.{get_or-tabulate}
use Rattle.trials.specs.Trial.{Called}
use Rattle.sheet_format.specs.Check.{count_field, cells_of, sections_of}
use Rattle.sheet_format.specs.Sheet.{Bytes}
use Rattle.homology_groups.specs.Chain.{Chain, combination}
use Rattle.reports.specs.Report.{Counts}
use Rattle.requests.specs.Question.{Question, cells, cell_count}
use Rattle.answers.specs.Homology.{IsBoundary}
use Rattle.integers.specs.Slot.{slot}
use Rattle.answers.specs.Right.{order_in, generator_in}
use Rattle.projective_plane.specs.Plane.{report, twice, backwards}
use Rattle.projective_plane.specs.Examples.{loops, nines, plane-calls}
use Rattle.demands.specs.Answers.{ReportOf, CoordinatesOf, Counted}
use Rattle.demands.specs.Consequences.{SameCounts, CoordinatesOfSmallOrders, CoordinatesOnly, GeneratorMultiples, GeneratorsBackwards}
use Rattle.demands.proofs.Plane.{plane-bytes, numbers, read, plane-report, plane-order, twice-coordinates, backwards-coordinates}

-- coefficient i of w times the reported generator, of the report in these numbers
abbrev multiple : ℤ → List ℤ → ℕ → ℤ
multiple w l i = w *ℤ generator_in (slot l) 1 15 0 i

abbrev opposite : List ℤ → ℕ → ℤ
opposite l i = neg_ℤ (generator_in (slot l) 1 15 0 i)

-- twice the loop is twice the reported generator, and the loop run backwards its opposite
is-twice : (i : ℕ) → i < 15 → slot twice i ≡ pos 2 *ℤ generator_in numbers 1 15 0 i
unfolding tabulate
is-twice i l =
    get_or-tabulate 15 (multiple (pos 2) (report ++ nines 224)) i (pos 0) l ∙ sym (ap (λ (c : Called Counts ℤ). multiple (pos 2) c.output i) plane-calls.report-call)

is-opposite : (i : ℕ) → i < 15 → slot backwards i ≡ neg_ℤ (generator_in numbers 1 15 0 i)
unfolding tabulate
is-opposite i l = get_or-tabulate 15 (opposite (report ++ nines 224)) i (pos 0) l ∙ sym (ap (λ (c : Called Counts ℤ). opposite c.output i) plane-calls.report-call)

module _ (counted : Counted loops 0 1) where
  -- whatever counts the group has, they are these
  no-free : SameCounts → (f t : ℕ) → Counted loops f t → f ≡ 0
  no-free same_counts f t is = (same_counts loops f t 0 1 is counted).0

  one-order : SameCounts → (f t : ℕ) → Counted loops f t → t ≡ 1
  one-order same_counts f t is = (same_counts loops f t 0 1 is counted).1

  -- 0 or 1, of whatever chain
  zero-or-one : CoordinatesOfSmallOrders → (z : Chain) (c : ℕ → ℤ) → CoordinatesOf loops z c → (c 0 ≡ pos 0) ⊎ (c 0 ≡ pos 1)
  zero-or-one small z c of = (small loops plane-bytes z c numbers of plane-report 0 1 counted 0 (omega arith)).0 plane-order

  -- 1 alone, where the chain less the generator bounds
  only_one : CoordinatesOnly → (z : Chain) (c : ℕ → ℤ) → CoordinatesOf loops z c →
      IsBoundary (cells loops) 1 (λ i. z i -ℤ combination 1 (λ j. pos 1) (generator_in numbers 1 (cell_count loops)) i) → pos 1 ≡ c 0
  only_one only z c of bounds = only loops plane-bytes z c numbers of plane-report 0 1 counted (λ j. pos 1) near bounds 0 (omega arith)
    where
      near : (j : ℕ) → j < 1 → NearestZero (order_in numbers 1 j) (pos 1)
      near zero l = subst (λ (d : ℤ). NearestZero d (pos 1)) (sym plane-order) (record { lt = tt }, record { le = tt })
      near (suc j) l = absurd (omega (arith, l))

  -- twice the generator has the residue of 2 for 2
  twice-zero : GeneratorMultiples → read twice 0 ≡ pos 0
  unfolding cells count_field cells_of sections_of tabulate floor modulo residue
  twice-zero multiples =
      (multiples loops plane-bytes (slot twice) (read twice) numbers twice-coordinates plane-report 0 1 counted 0 (omega arith) (pos 2) is-twice).0 ∙ ap (residue (pos 2)) plane-order

  -- run backwards: 1
  backwards-one : GeneratorsBackwards → read backwards 0 ≡ pos 1
  unfolding cells count_field cells_of sections_of tabulate
  backwards-one turned =
      (turned loops plane-bytes (slot backwards) (read backwards) numbers backwards-coordinates plane-report 0 1 counted 0 (omega arith) is-opposite).1 plane-order

-- of any question with two free loops: a multiple of the first has 0 at the place of the second
other-zero : GeneratorMultiples → (q : Question) → Bytes q.sheet → (z : Chain) (c report : ℕ → ℤ) → CoordinatesOf q z c → ReportOf q report → Counted q 2 0 →
    (w : ℤ) → ((i : ℕ) → i < cell_count q → z i ≡ w *ℤ generator_in report 0 (cell_count q) 0 i) → c 1 ≡ pos 0
other-zero multiples q bytes z c report of of-report counted w is =
    (multiples q bytes z c report of of-report 2 0 counted 0 (omega arith) w is).1 1 (omega arith) (λ e. absurd (omega (arith, e)))
