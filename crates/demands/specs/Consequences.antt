-- What follows from the claims of `Answers` and need not be read to believe them.
use Rattle.std.specs.Prelude.{◌≡◌, ◌≢◌, ◌⊎◌, ℕ, ◌+◌, ◌<◌, ℤ, pos, neg_ℤ, ◌-ℤ◌, ◌*ℤ◌}
use Rattle.integers.specs.Division.{residue, NearestZero}
use Rattle.sheet_format.specs.Sheet.{Bytes}
use Rattle.homology_groups.specs.Chain.{Chain, combination}
use Rattle.requests.specs.Question.{Question, cells, cell_count}
use Rattle.answers.specs.Homology.{IsBoundary}
use Rattle.answers.specs.Right.{order_in, generator_in}
use Rattle.demands.specs.Answers.{ReportOf, CoordinatesOf, Counted}

-- the counts are the group's, so that all answers and reports of one question have the same
abbrev pub SameCounts : Type 0
SameCounts = (q : Question) (f t f' t' : ℕ) → Counted q f t → Counted q f' t' → (f ≡ f') × (t ≡ t')

-- 02, Note 5, "so order 2 gives 0 or 1 and order 3 gives -1, 0 or 1"
abbrev pub CoordinatesOfSmallOrders : Type 0
CoordinatesOfSmallOrders =
    (q : Question) → Bytes q.sheet → (z : Chain) (c numbers : ℕ → ℤ) → CoordinatesOf q z c → ReportOf q numbers → (f t : ℕ) → Counted q f t →
    (j : ℕ) → j < t →
    (order_in numbers t j ≡ pos 2 → (c j ≡ pos 0) ⊎ (c j ≡ pos 1))
    × (order_in numbers t j ≡ pos 3 → (c j ≡ neg_ℤ (pos 1)) ⊎ ((c j ≡ pos 0) ⊎ (c j ≡ pos 1)))

-- the coordinates are the only numbers, those of the orders in that range, such that the cycle less these times the reported generators is a boundary
abbrev pub CoordinatesOnly : Type 0
CoordinatesOnly =
    (q : Question) → Bytes q.sheet → (z : Chain) (c numbers : ℕ → ℤ) → CoordinatesOf q z c → ReportOf q numbers → (f t : ℕ) → Counted q f t →
    (e : ℕ → ℤ) → ((j : ℕ) → j < t → NearestZero (order_in numbers t j) (e j)) →
    IsBoundary (cells q) q.dimension (λ i. z i -ℤ combination (t + f) e (generator_in numbers t (cell_count q)) i) →
    (j : ℕ) → j < t + f → e j ≡ c j

-- w times a reported generator has the residue of w at the generator's place and 0 elsewhere; the residue of w for order 0, a free generator, is w
abbrev pub GeneratorMultiples : Type 0
GeneratorMultiples =
    (q : Question) → Bytes q.sheet → (z : Chain) (c numbers : ℕ → ℤ) → CoordinatesOf q z c → ReportOf q numbers → (f t : ℕ) → Counted q f t →
    (j : ℕ) → j < t + f → (w : ℤ) → ((i : ℕ) → i < cell_count q → z i ≡ w *ℤ generator_in numbers t (cell_count q) j i) →
    (c j ≡ residue w (order_in numbers t j)) × ((k : ℕ) → k < t + f → k ≢ j → c k ≡ pos 0)

-- "Machine designers read a twisted loop run backwards as -1": so it is with a reported generator, but of order 2, where it is 1
abbrev pub GeneratorsBackwards : Type 0
GeneratorsBackwards =
    (q : Question) → Bytes q.sheet → (z : Chain) (c numbers : ℕ → ℤ) → CoordinatesOf q z c → ReportOf q numbers → (f t : ℕ) → Counted q f t →
    (j : ℕ) → j < t + f → ((i : ℕ) → i < cell_count q → z i ≡ neg_ℤ (generator_in numbers t (cell_count q) j i)) →
    (order_in numbers t j ≢ pos 2 → c j ≡ neg_ℤ (pos 1)) × (order_in numbers t j ≡ pos 2 → c j ≡ pos 1)
