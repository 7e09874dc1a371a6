-- Uses of the claims on headroom: the counts of the projective plane, whose peak is 2, and of the hollow triangle with and without cells.
use mathlib.Core.Path.{◌≡◌, refl}
use mathlib.Core.Logic.{◌⊎◌}
use Prim.Native.Nat.{ℕ, ◌-◌, ◌^◌, ◌≤◌, ◌<◌}
use native.Mathlib.Omega.{arith}
use Rattle.lists.specs.Tabulate.{tabulate}
use Rattle.sheet_format.specs.Layout.{start}
use Rattle.sheet_format.specs.Check.{count_field, cell_of, cells_of, sections_of}
use Rattle.sheet_format.specs.Starred.{hollow_triangle}
use Rattle.reduction_steps.specs.State.{State}
use Rattle.reports.specs.Reductions.{Transforms, no_transforms}
use Rattle.reports.specs.Report.{Counts}
use Rattle.requests.specs.Question.{asked, cells, rule}
use Rattle.answers.specs.Wide.{GoesWide}
use Rattle.answers.specs.Outcome.{EndsAt}
use Rattle.projective_plane.specs.Examples.{loops, counts}
use Rattle.demands.specs.Answers.{CountsAnswered}
use Rattle.demands.specs.Headroom.{Headroom, HeadroomNone, LeastLimit}
use Rattle.demands.proofs.Hollow.{hollow, hollow-bytes}
use Rattle.demands.proofs.Plane.{plane-bytes, plane-answered}

-- whatever counts a call answers of the plane
module _ (headroom : Headroom) (keeps : Transforms) (d : Counts) (answered : CountsAnswered loops keeps d) where
  within : d.peak ≤ 1048575
  within = (headroom loops plane-bytes keeps d answered).within

  few : d.bits ≤ 20
  few = (headroom loops plane-bytes keeps d answered).few

  fits : d.peak < 2 ^ d.bits
  fits = (headroom loops plane-bytes keeps d answered).fits

  least : (d.peak ≡ 0) ⊎ (2 ^ (d.bits - 1) ≤ d.peak)
  least = (headroom loops plane-bytes keeps d answered).least

module _ (headroom_none : HeadroomNone) (keeps : Transforms) (d : Counts) where
  -- three edges
  some-peak : CountsAnswered hollow keeps d → d.peak ≡ 0 → ⊥
  unfolding cells count_field cell_of cells_of sections_of start tabulate
  some-peak answered none = let three : ◌≡◌ {A = ℕ} 3 0 = (headroom_none hollow hollow-bytes keeps d answered).peak.0 none in omega (arith, three)

  some_bits : CountsAnswered hollow keeps d → d.bits ≡ 0 → ⊥
  unfolding cells count_field cell_of cells_of sections_of start tabulate
  some_bits answered none = let three : ◌≡◌ {A = ℕ} 3 0 = (headroom_none hollow hollow-bytes keeps d answered).bits.0 none in omega (arith, three)

  -- no triangle
  no-peak : CountsAnswered (asked hollow_triangle 2) keeps d → d.peak ≡ 0
  unfolding cells count_field cell_of cells_of sections_of start tabulate
  no-peak answered = (headroom_none (asked hollow_triangle 2) hollow-bytes keeps d answered).peak.1 refl

  no_bits : CountsAnswered (asked hollow_triangle 2) keeps d → d.bits ≡ 0
  unfolding cells count_field cell_of cells_of sections_of start tabulate
  no_bits answered = (headroom_none (asked hollow_triangle 2) hollow-bytes keeps d answered).bits.1 refl

module _ (least_limit : LeastLimit) where
  -- too wide at the entry limit 1 and not at 2
  wide-at-1 : GoesWide no_transforms 1 (rule loops) (cells loops) 1
  wide-at-1 = (least_limit loops plane-bytes no_transforms counts plane-answered 1 (omega arith)).too_wide.1 (omega arith)

  narrow-at-2 : GoesWide no_transforms 2 (rule loops) (cells loops) 1 → ⊥
  narrow-at-2 wide = omega (arith, (least_limit loops plane-bytes no_transforms counts plane-answered 2 (omega arith)).too_wide.0 wide)

  -- at 2 the reductions come to the same end
  ends-at-2 : (s r : ℕ) (x : State) → EndsAt 1048575 loops no_transforms s r x → EndsAt 2 loops no_transforms s r x
  ends-at-2 = (least_limit loops plane-bytes no_transforms counts plane-answered 2 (omega arith)).same (omega arith)
