-- What follows from the claims on reports and coordinates.
use mathlib.Core.Path.{◌≡◌, sym, ◌∙◌, ap, subst}
use mathlib.Core.List.{[], ◌∷◌}
use Prim.Native.Nat.{ℕ}
use lib.IntN.{ℤ, pos, neg_ℤ, ◌*ℤ◌}
use Rattle.integers.specs.Division.{residue, NearestZero}
use Rattle.integers.proofs.Solve.{solve, terms}
use Rattle.integers.proofs.Residue.{nearest-two, nearest-three, residue-minus-one, residue-minus-one-of-two}
use Rattle.sheet_format.specs.Sheet.{Bytes}
use Rattle.homology_groups.specs.Chain.{Chain}
use Rattle.homology_groups.proofs.Coefficients.{single-at, single-other}
use Rattle.requests.specs.Question.{Question, cells, cell_count}
use Rattle.answers.specs.Right.{order_in, generator_in}
use Rattle.answers.proofs.ReportRight.{counts-unique}
use Rattle.answers.proofs.OnlyCoordinates.{Represents, represents-only, multiple-represents}
use Rattle.demands.specs.Answers.{ReportOf, CoordinatesOf, Counted}
use Rattle.demands.specs.Consequences.{SameCounts, CoordinatesOfSmallOrders, CoordinatesOnly, GeneratorMultiples, GeneratorsBackwards}
use Rattle.demands.proofs.Answers.{report-right, coordinates_combine, coordinates_nearest_zero}

pub same_counts : SameCounts
same_counts q f t f' t' = counts-unique

pub coordinates_of_small_orders : CoordinatesOfSmallOrders
coordinates_of_small_orders q bytes z c numbers of-z of-report f t counts j l =
    let near = coordinates_nearest_zero q bytes z c numbers of-z of-report f t counts j l in (
      λ e. nearest-two (c j) (subst (λ (d : ℤ). NearestZero d (c j)) e near),
      λ e. nearest-three (c j) (subst (λ (d : ℤ). NearestZero d (c j)) e near),
    )

represented : (q : Question) → Bytes q.sheet → (z : Chain) (c numbers : ℕ → ℤ) → CoordinatesOf q z c → ReportOf q numbers → (f t : ℕ) → Counted q f t
    → Represents (cells q) q.dimension f t numbers z c
represented q bytes z c numbers of-z of-report f t counts = record {
  nearest = coordinates_nearest_zero q bytes z c numbers of-z of-report f t counts;
  remainder = coordinates_combine q bytes z c numbers of-z of-report f t counts;
}

pub coordinates_only : CoordinatesOnly
coordinates_only q bytes z c numbers of-z of-report f t counts e near remainder =
    represents-only (report-right q bytes of-report f t counts) (represented q bytes z c numbers of-z of-report f t counts)
    (record { nearest = near; remainder = remainder })

pub generator_multiples : GeneratorMultiples
generator_multiples q bytes z c numbers of-z of-report f t counts j l w is =
    let right = report-right q bytes of-report f t counts in
    let v = residue w (order_in numbers t j) in
    let only = represents-only right (represented q bytes z c numbers of-z of-report f t counts) (multiple-represents right z j l w is) in
    (sym (only j l) ∙ single-at j v, λ k m d. sym (only k m) ∙ single-other j v k d)

pub generators_backwards : GeneratorsBackwards
generators_backwards q bytes z c numbers of-z of-report f t counts j l is =
    let P = (report-right q bytes of-report f t counts).presents in
    let own = (generator_multiples q bytes z c numbers of-z of-report f t counts j l (neg_ℤ (pos 1)) (λ i a. is i a ∙ minus_one (generator_in numbers t (cell_count q) j i))).0 in (
      λ d. own ∙ residue-minus-one (order_in numbers t j) (P.nonneg j l) (P.proper j l) d,
      λ e. own ∙ ap (residue (neg_ℤ (pos 1))) e ∙ residue-minus-one-of-two,
    )
  where
    minus_one : (x : ℤ) → neg_ℤ x ≡ neg_ℤ (pos 1) *ℤ x
    minus_one x = solve (x ∷ []) (search terms depth 16) tt
