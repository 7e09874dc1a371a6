-- The claims on reports and coordinates.
use mathlib.Core.Path.{◌≡◌, sym, ◌∙◌, ap, ap₂, subst}
use Prim.Native.Nat.{ℕ, ◌+◌, ◌<◌}
use native.Mathlib.Omega.{arith}
use lib.IntN.{ℤ, ◌-ℤ◌}
use Rattle.integers.specs.Division.{NearestZero}
use Rattle.sheet_format.specs.Sheet.{Bytes}
use Rattle.homology_groups.specs.Chain.{Chain, combination}
use Rattle.homology_groups.proofs.ChainLaws.{boundary-same}
use Rattle.reports.specs.Reductions.{Transforms}
use Rattle.reports.specs.Report.{Counts, free_rank, torsion_count, counts_of}
use Rattle.requests.specs.Question.{Question, cells, cell_count}
use Rattle.answers.specs.Homology.{IsBoundary}
use Rattle.integers.specs.Slot.{slot}
use Rattle.answers.specs.Right.{order_in, generator_in, IsRight, report_length}
use Rattle.answers.proofs.ReportRight.{Reads, report-is-right, has-counts, counts-unique}
use Rattle.answers.proofs.CoordinatesRight.{ReadsCoordinates, coordinates-decide, coordinates-combine, coordinates-nearest}
use Rattle.answers.proofs.Behind.{Behind, same-behind}
use Rattle.answers.proofs.CallRight.{done-number, answered, counts_behind}
use Rattle.demands.specs.Answers as claims
use Rattle.demands.specs.Answers.{ReportOf, CountsAnswered, Counted, Reports, CountsRight, OneReport, OneCounts, CoordinatesDecide, CoordinatesCombine, CoordinatesNearestZero}
use Rattle.demands.proofs.Behind.{report-behind, coordinates-behind}

-- what holds of the counts behind an answer holds of those that it says
as-counted : (P : ℕ → ℕ → Type 0) {f t f' t' : ℕ} → f ≡ f' → t ≡ t' → P f' t' → P f t
as-counted P e d h = rw (e, d) h

-- a boundary stays one where its coefficients are those of another chain
boundary-of : (q : Question) {y z : Chain} → ((i : ℕ) → i < cell_count q → y i ≡ z i) → IsBoundary (cells q) q.dimension y → IsBoundary (cells q) q.dimension z
boundary-of q same h = boundary-same (record { at = same }) h

pub reports : Reports
reports q bytes numbers of =
    let D = report-behind q bytes of in
    record {
      free = free_rank D.two.rows D.two.rank;
      torsion = torsion_count D.two.rank D.two.state;
      is_right = report-is-right D.two.right D.reads;
    }

-- the counts of a report are those of the group
pub report-right : (q : Question) → Bytes q.sheet → {numbers : ℕ → ℤ} → ReportOf q numbers → (f t : ℕ) → Counted q f t → IsRight (cells q) q.dimension f t numbers
report-right q bytes {numbers} of f t counts =
    let D = report-behind q bytes of in
    let own = counts-unique counts (has-counts D.two.right) in
    as-counted (λ f t. IsRight (cells q) q.dimension f t numbers) own.0 own.1 (report-is-right D.two.right D.reads)

-- what stands behind the counts that a call answered
pub record CountsBehind (q : Question) (keeps : Transforms) (counts : Counts) : Type 0 where
  pub two : Behind q keeps
  pub are : counts ≡ counts_of two.rows two.rank two.state

pub counts_of_lem : (q : Question) → Bytes q.sheet → {keeps : Transforms} {counts : Counts} → CountsAnswered q keeps counts → CountsBehind q keeps counts
counts_of_lem q bytes (claims.CountsAnswered.by_call limit request output work counts e) =
    record { two = (answered limit q request output work bytes (done-number e)).reductions-behind; are = counts_behind limit q request output work bytes e }

pub counts_right : CountsRight
counts_right q bytes keeps counts of =
    let B = counts_of_lem q bytes of in
    as-counted (λ f t. Counted q f t) (ap (λ (c : Counts). c.free) B.are) (ap (λ (c : Counts). c.torsion) B.are) (has-counts B.two.right)

pub one_counts : OneCounts
one_counts q bytes keeps c d of_c of-d =
    let C = counts_of_lem q bytes of_c in
    let D = counts_of_lem q bytes of-d in
    C.are ∙ same-behind (λ s r x. counts_of s r x ≡ d) D.two C.two (sym D.are)

pub one_report : OneReport
one_report q bytes numbers numbers' of of' f t counts i l =
    let B = report-behind q bytes of in
    let D = report-behind q bytes of' in
    let own = counts-unique counts (has-counts B.two.right) in
    let reads = same-behind (λ s r x. Reads (cells q) q.dimension s r x numbers') D.two B.two D.reads in
    let inside = as-counted (λ f t. i < report_length (cells q) q.dimension f t) (sym own.0) (sym own.1) l in
    B.reads.slots i inside ∙ sym (reads.slots i inside)

pub coordinates_decide : CoordinatesDecide
coordinates_decide q bytes y z c d of-y of-z f t counts =
    let B = coordinates-behind q bytes of-y in
    let D = coordinates-behind q bytes of-z in
    let reads = same-behind (λ s r x. ReadsCoordinates (cells q) q.dimension s r x D.chain d) D.two B.two D.reads in
    let iff = coordinates-decide B.two.right B.reads reads B.cycle D.cycle in
    let own = counts-unique counts (has-counts B.two.right) in
    let same : (i : ℕ) → i < cell_count q → slot B.chain i -ℤ slot D.chain i ≡ y i -ℤ z i = λ i l. ap₂ ◌-ℤ◌ (B.agrees i l) (D.agrees i l) in (
      λ h. boundary-of q same (iff.0 (λ j l. h j (omega (arith, own.0, own.1)))),
      λ h j l. iff.1 (boundary-of q (λ i m. sym (same i m)) h) j (omega (arith, own.0, own.1)),
    )

pub coordinates_combine : CoordinatesCombine
coordinates_combine q bytes z c numbers of-z of-report f t counts =
    let B = coordinates-behind q bytes of-z in
    let D = report-behind q bytes of-report in
    let reads = same-behind (λ s r x. Reads (cells q) q.dimension s r x numbers) D.two B.two D.reads in
    let own = counts-unique counts (has-counts B.two.right) in
    as-counted (λ f t. IsBoundary (cells q) q.dimension (λ i. z i -ℤ combined f t i)) own.0 own.1
    (boundary-of q
    (λ i l. ap (λ (v : ℤ). v -ℤ combined (free_rank B.two.rows B.two.rank) (torsion_count B.two.rank B.two.state) i) (B.agrees i l))
    (coordinates-combine B.two.right B.reads reads B.cycle))
  where
    combined : ℕ → ℕ → Chain
    combined f t = combination (t + f) c (generator_in numbers t (cell_count q))

pub coordinates_nearest_zero : CoordinatesNearestZero
coordinates_nearest_zero q bytes z c numbers of-z of-report f t counts j l =
    let B = coordinates-behind q bytes of-z in
    let D = report-behind q bytes of-report in
    let reads = same-behind (λ s r x. Reads (cells q) q.dimension s r x numbers) D.two B.two D.reads in
    let own = counts-unique counts (has-counts B.two.right) in
    subst (λ (n : ℕ). NearestZero (order_in numbers n j) (c j)) (sym own.1) (coordinates-nearest B.two.right B.reads reads j (omega (arith, own.1)))
