-- The numbers of a report and of a coordinate list, after two reductions that are right. The first u places are of kind 1; the others give
-- t = r - u orders and s - r free generators (torsion-is, total). report-order, report-generator, coordinate-is: what stands where.
use mathlib.Core.Path.{◌≡◌, sym, ◌∙◌, ap}
use mathlib.Core.List.{List}
use Prim.Native.Nat.{ℕ, ◌+◌, ◌*◌, ◌-◌, ◌≤◌, ◌<◌}
use native.Mathlib.Omega.{arith}
use lib.ListN.{length, get_or}
use lib.IntN.{ℤ, pos}
use Rattle.smith.proofs.Rank.{IsOnes, Ones, ones-exist, ones-rank}
use Rattle.homology_groups.proofs.CoordinateList.{coordinate}
use Rattle.complexes.specs.Complex.{Sections, count}
use Rattle.reduction_steps.specs.Table.{entry}
use Rattle.reduction_steps.specs.State.{State}
use Rattle.reports.specs.Report.{kind, free_rank, torsion_count, report_list, coordinate_at, coordinate_list}
use Rattle.reports.proofs.ReportLaws.{length-report_list, get_or-report-order, get_or-report-generator, length-coordinate_list, get_or-coordinate_list}
use Rattle.integers.specs.Slot.{slot}
use Rattle.answers.proofs.ReportedPlaces.{Places, reported-places}
use Rattle.answers.proofs.TwoReductions.{Right}

module _ {K : Sections} {p s r : ℕ} {x : State} (R : Right K p s r x) where
  ones-of : Ones s (kind x)
  ones-of = ones-exist R.reduced.second s

  -- the number of places of kind 1
  pub ones : ℕ
  ones = ones-of.count

  pub is-ones : IsOnes s (kind x) ones
  unfolding ones
  is-ones = ones-of.is_ones

  pub ones-bound : ones ≤ r
  ones-bound = ones-rank is-ones R.rank

  places : Places (kind x) s ones
  places = reported-places (kind x) R.reduced.second.nonneg s ones is-ones

  order-places : Places (kind x) r ones
  order-places = reported-places (kind x) R.reduced.second.nonneg r ones (record {
    bound = ones-bound;
    ones = is-ones.ones;
    others = λ i a b. is-ones.others i a (omega (arith, R.rank-bound));
  })

  pub torsion-is : torsion_count r x ≡ r - ones
  unfolding torsion_count
  torsion-is = order-places.size

  pub total : torsion_count r x + free_rank s r ≡ s - ones
  total = omega (arith, torsion-is, ones-bound, R.rank-bound)

  -- ---- the report

  pub report-length : length (report_list (count K p) s r x) ≡ 2 + torsion_count r x + (torsion_count r x + free_rank s r) * count K p
  report-length = length-report_list (count K p) s r x ∙ ap (λ (k : ℕ). 2 + (torsion_count r x + k * count K p)) (places.size ∙ sym total) ∙ omega arith

  pub report-order : (j : ℕ) → j < torsion_count r x → get_or (report_list (count K p) s r x) (2 + j) (pos 0) ≡ kind x (ones + j)
  report-order j h =
      get_or-report-order (count K p) s r x j h ∙ ap (kind x) (order-places.place j (omega (arith, torsion-is)))

  pub report-generator : (j i : ℕ) → j < torsion_count r x + free_rank s r → i < count K p
      → get_or (report_list (count K p) s r x) (2 + torsion_count r x + j * count K p + i) (pos 0) ≡ entry x.row_inverse (ones + j) i
  report-generator j i a b =
      get_or-report-generator (count K p) s r x j i (omega (arith, places.size, total)) b
      ∙ ap (λ (k : ℕ). entry x.row_inverse k i) (places.place j (omega (arith, total)))

  -- ---- the coordinates

  pub coordinates-length : (z : List ℤ) → length (coordinate_list (count K p) s x z) ≡ torsion_count r x + free_rank s r
  coordinates-length z = length-coordinate_list (count K p) s x z ∙ places.size ∙ sym total

  pub coordinate-is : (z : List ℤ) (j : ℕ) → j < torsion_count r x + free_rank s r
      → get_or (coordinate_list (count K p) s x z) j (pos 0) ≡ coordinate (count K p) ones (kind x) (entry x.row_follower) (slot z) j
  unfolding coordinate coordinate_at
  coordinate-is z j h =
      get_or-coordinate_list (count K p) s x z j (omega (arith, places.size, total))
      ∙ ap (coordinate_at (count K p) x z) (places.place j (omega (arith, total)))
