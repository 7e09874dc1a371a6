-- Demand 2, on reports, and demand 3, for every question and whatever the slices lent for answers and work held before. A report, and a list of
-- coordinates, is read as numbers by their places, from the library's numbers or from the host's bytes, so that both may stand beside each other.
use Rattle.std.specs.Prelude.{◌≡◌, ◌↔◌, List, ℕ, ◌+◌, ◌*◌, ◌<◌, ℤ, ◌-ℤ◌}
use Rattle.integers.specs.Division.{NearestZero}
use Rattle.trials.specs.Trial.{done}
use Rattle.sheet_format.specs.Sheet.{Bytes}
use Rattle.homology_groups.specs.Chain.{Chain, combination}
use Rattle.reports.specs.Reductions.{Transforms}
use Rattle.reports.specs.Report.{Counts}
use Rattle.requests.specs.Question.{Question, cells, cell_count}
use Rattle.requests.specs.Call.{Request, report, coordinates, lists, transforms_of, call}
use Rattle.host_calls.specs.Bytes.{coefficient_in, number_at}
use Rattle.host_calls.specs.Host.{host_call, coordinates_in, lists_in}
use Rattle.answers.specs.Homology.{IsBoundary}
use Rattle.integers.specs.Slot.{slot}
use Rattle.answers.specs.Right.{order_in, generator_in, IsRight, report_length, HasCounts}

-- the numbers of a report that is done, as a caller reads them
pub data ReportOf (q : Question) : (ℕ → ℤ) → Type 0 where
  by-library :
      (limit : ℕ) (output work : List ℤ) (counts : Counts) → (call limit q report output work).answer ≡ done counts →
      ReportOf q (slot (call limit q report output work).output)
  by-host : (output : List ℕ) → (host_call q report output).number ≡ 0 → ReportOf q (number_at (host_call q report output).output)

-- "Take any accepted sheet, any dimension and any two cycles of that dimension. Whenever the coordinates of both are answered with done ..": a chain that
-- was given, and its coordinates as a caller reads them, of a single call or as list i of a call on many chains
pub data CoordinatesOf (q : Question) : Chain → (ℕ → ℤ) → Type 0 where
  by-library :
      (limit : ℕ) (z output work : List ℤ) (counts : Counts) → (call limit q (coordinates z) output work).answer ≡ done counts →
      CoordinatesOf q (slot z) (slot (call limit q (coordinates z) output work).output)
  by-library-list :
      (limit many : ℕ) (chains output work : List ℤ) (counts : Counts) → (call limit q (lists many chains) output work).answer ≡ done counts →
      (i : ℕ) → i < many →
      CoordinatesOf q (λ j. slot chains (i * cell_count q + j)) (λ j. slot (call limit q (lists many chains) output work).output (i * cell_count q + j))
  by-host :
      (chain output : List ℕ) → (host_call q (coordinates_in q chain) output).number ≡ 0 →
      CoordinatesOf q (coefficient_in chain) (number_at (host_call q (coordinates_in q chain) output).output)
  by-host-list :
      (many : ℕ) (chains output : List ℕ) → (host_call q (lists_in q many chains) output).number ≡ 0 → (i : ℕ) → i < many →
      CoordinatesOf q (λ j. coefficient_in chains (i * cell_count q + j))
      (λ j. number_at (host_call q (lists_in q many chains) output).output (i * cell_count q + j))

-- the counts that a call of the library answered, whose reductions keep these transforms: none, or, of a surface, that of the columns of the second
pub data CountsAnswered (q : Question) : Transforms → Counts → Type 0 where
  by_call :
      (limit : ℕ) (request : Request) (output work : List ℤ) (counts : Counts) → (call limit q request output work).answer ≡ done counts →
      CountsAnswered q (transforms_of request) counts

-- free rank f and t orders are those of the question's homology group
abbrev pub Counted : Question → ℕ → ℕ → Type 0
Counted q f t = HasCounts (cells q) q.dimension f t

-- "the free rank, the torsion orders and the generators reported for each dimension are those of simplicial homology over the whole numbers"
pub record RightReport (q : Question) (numbers : ℕ → ℤ) : Type 0 where
  pub free : ℕ
  pub torsion : ℕ
  pub is_right : IsRight (cells q) q.dimension free torsion numbers

abbrev pub Reports : Type 0
Reports = (q : Question) → Bytes q.sheet → (numbers : ℕ → ℤ) → ReportOf q numbers → RightReport q numbers

-- 01, "done, with the report's counts": those that a call answers are the group's
abbrev pub CountsRight : Type 0
CountsRight = (q : Question) → Bytes q.sheet → (keeps : Transforms) (counts : Counts) → CountsAnswered q keeps counts → Counted q counts.free counts.torsion

-- there is one report of a question: any two agree at all their places, and any two answers of reductions that keep the same carry the same counts
abbrev pub OneReport : Type 0
OneReport =
    (q : Question) → Bytes q.sheet → (numbers numbers' : ℕ → ℤ) → ReportOf q numbers → ReportOf q numbers' → (f t : ℕ) → Counted q f t →
    (i : ℕ) → i < report_length (cells q) q.dimension f t → numbers i ≡ numbers' i

abbrev pub OneCounts : Type 0
OneCounts = (q : Question) → Bytes q.sheet → (keeps : Transforms) (c d : Counts) → CountsAnswered q keeps c → CountsAnswered q keeps d → c ≡ d

-- "the two lists are equal exactly when the difference of the two cycles is the boundary of some chain with whole coefficients, however large these are"
abbrev pub CoordinatesDecide : Type 0
CoordinatesDecide =
    (q : Question) → Bytes q.sheet → (y z : Chain) (c d : ℕ → ℤ) → CoordinatesOf q y c → CoordinatesOf q z d → (f t : ℕ) → Counted q f t →
    ((j : ℕ) → j < t + f → c j ≡ d j) ↔ IsBoundary (cells q) q.dimension (λ i. y i -ℤ z i)

-- "Whenever the report on that sheet and dimension is done as well, each of the two cycles, less its coordinates times the reported generators, is itself
-- such a boundary"
abbrev pub CoordinatesCombine : Type 0
CoordinatesCombine =
    (q : Question) → Bytes q.sheet → (z : Chain) (c numbers : ℕ → ℤ) → CoordinatesOf q z c → ReportOf q numbers → (f t : ℕ) → Counted q f t →
    IsBoundary (cells q) q.dimension (λ i. z i -ℤ combination (t + f) c (generator_in numbers t (cell_count q)) i)

-- 02, Note 5, "A coordinate of order d now lies above -d/2 and up to d/2"
abbrev pub CoordinatesNearestZero : Type 0
CoordinatesNearestZero =
    (q : Question) → Bytes q.sheet → (z : Chain) (c numbers : ℕ → ℤ) → CoordinatesOf q z c → ReportOf q numbers → (f t : ℕ) → Counted q f t →
    (j : ℕ) → j < t → NearestZero (order_in numbers t j) (c j)
