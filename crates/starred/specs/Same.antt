-- A test that two results of a call are the same: `same_called`, with `same_called-eq`.
use Rattle.std.specs.Prelude.{Bool, false, ◌&&◌, List, ◌≡◌, T, eqb, ℤ}
use Rattle.std.proofs.Common.{ap, eqb→eq}
use Rattle.lists.specs.Same.{same_number, same_list, both, same_number-eq, same_list-eq}
use Rattle.reports.specs.Report.{Counts}
use Rattle.trials.specs.Trial.{Answer, done, refused, Called}

-- ---- the tests

unfoldable pub same_slice : List ℤ → List ℤ → Bool
same_slice = same_list same_number

unfoldable pub same_counts : Counts → Counts → Bool
same_counts x y = eqb x.free y.free && (eqb x.torsion y.torsion && (eqb x.peak y.peak && eqb x.bits y.bits))

unfoldable pub same_answer : Answer Counts → Answer Counts → Bool
same_answer (done x) (done y) = same_counts x y
same_answer (done x) (refused m) = false
same_answer (refused n) (done y) = false
same_answer (refused n) (refused m) = eqb n m

unfoldable pub same_called : Called Counts ℤ → Called Counts ℤ → Bool
same_called x y = same_answer x.answer y.answer && (same_slice x.output y.output && same_slice x.work y.work)

-- ---- what passes them is equal

same_slice-eq : (xs ys : List ℤ) → T (same_slice xs ys) → xs ≡ ys
unfolding same_slice
same_slice-eq xs ys t = same_list-eq same_number same_number-eq xs ys t

same_counts-eq : (x y : Counts) → T (same_counts x y) → x ≡ y
unfolding same_counts
same_counts-eq x y h =
    let (free, h₁) = both (eqb x.free y.free) _ h in
    let (torsion, h₂) = both (eqb x.torsion y.torsion) _ h₁ in
    let (peak, bits) = both (eqb x.peak y.peak) _ h₂ in
    λ i. record {
      free = eqb→eq x.free y.free free i;
      torsion = eqb→eq x.torsion y.torsion torsion i;
      peak = eqb→eq x.peak y.peak peak i;
      bits = eqb→eq x.bits y.bits bits i;
    }

same_answer-eq : (x y : Answer Counts) → T (same_answer x y) → x ≡ y
unfolding same_answer
same_answer-eq (done x) (done y) h = ap done (same_counts-eq x y h)
same_answer-eq (done x) (refused m) h = absurd h
same_answer-eq (refused n) (done y) h = absurd h
same_answer-eq (refused n) (refused m) h = ap refused (eqb→eq n m h)

pub same_called-eq : (x y : Called Counts ℤ) → T (same_called x y) → x ≡ y
unfolding same_called
same_called-eq x y h =
    let (answer, slices) = both (same_answer x.answer y.answer) _ h in
    let (output, work) = both (same_slice x.output y.output) _ slices in
    λ i. record {
      answer = same_answer-eq x.answer y.answer answer i;
      output = same_slice-eq x.output y.output output i;
      work = same_slice-eq x.work y.work work i;
    }
