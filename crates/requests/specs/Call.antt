-- What a call of the library answers, and what it leaves in every slice lent to it, as a function of what went in: document 01, "The report and the
-- coordinates"; document 02, Notes 1 and 6. A call is a question and a request; a request has its checks and the lists of numbers that it writes.
use Rattle.std.specs.Prelude.{Bool, true, false, cond, ◌||◌, List, [], ◌∷◌, ◌++◌, ℕ, suc, ◌+◌, ◌*◌, max, ltb, length, ℤ}
use Rattle.limits.specs.Limits.{coefficient_limit, surface_coefficient_limit}
use Rattle.lists.specs.Splice.{splices}
use Rattle.trials.specs.Trial.{first_refusal, Called, concluded}
use Rattle.complexes.specs.Complex.{Sections, count}
use Rattle.complexes.specs.Boundary.{count_below}
use Rattle.sheet_format.specs.Layout.{top}
use Rattle.sheet_format.specs.Check.{sheet_checks}
use Rattle.reduction_steps.specs.State.{State}
use Rattle.reports.specs.Reductions.{Reductions, Transforms, second_columns_only, no_transforms, too_wide, reduced}
use Rattle.reports.specs.Report.{Counts, counts_of, report_list, coordinate_list}
use Rattle.reports.specs.Surface.{bounds_nothing, surface_list}
use Rattle.requests.specs.Question.{Question, cells, cell_count, next_count, two}
use Rattle.requests.specs.Chains.{chain_at, chain_checks, chains_checks}

-- ---- requests

-- the report, the coordinates of a chain, those of a number of chains, which stand one after another, or the surface that a chain bounds
pub data Request : Type 0 where
  report : Request
  coordinates : List ℤ → Request
  lists : ℕ → List ℤ → Request
  surface : List ℤ → Request

-- the transforms that its reductions keep
abbrev pub transforms_of : Request → Transforms
transforms_of report = no_transforms
transforms_of (coordinates z) = no_transforms
transforms_of (lists many chains) = no_transforms
transforms_of (surface z) = second_columns_only true

-- how many lists of numbers are written
abbrev pub list_count : Request → ℕ
list_count report = 1
list_count (coordinates z) = 1
list_count (lists many chains) = many
list_count (surface z) = 1

module _ (q : Question) where
  -- the slots of each list; the next list starts behind them
  abbrev pub list_slots : Request → ℕ
  list_slots report = 2 + cell_count q + cell_count q * cell_count q
  list_slots (coordinates z) = cell_count q
  list_slots (lists many chains) = cell_count q
  list_slots (surface z) = next_count q

  -- the checks 10 to 12
  abbrev pub request_checks : Request → List (ℕ × Bool)
  request_checks report = []
  request_checks (coordinates z) = chain_checks coefficient_limit (cells q) q.dimension z
  request_checks (lists many chains) = chains_checks coefficient_limit (cells q) q.dimension many chains
  request_checks (surface z) = chain_checks surface_coefficient_limit (cells q) q.dimension z

  -- list i: s is the number of rows of Q, r the rank of the second reduction and x the state that it leaves
  abbrev pub numbers_of : Request → ℕ → ℕ → State → ℕ → List ℤ
  numbers_of report s r x i = report_list (cell_count q) s r x
  numbers_of (coordinates z) s r x i = coordinate_list (cell_count q) s x z
  numbers_of (lists many chains) s r x i = coordinate_list (cell_count q) s x (chain_at (cell_count q) chains i)
  numbers_of (surface z) s r x i = surface_list (cell_count q) (next_count q) r x z

  -- the check after 13
  abbrev pub end_checks : Request → ℕ → ℕ → State → List (ℕ × Bool)
  end_checks report s r x = []
  end_checks (coordinates z) s r x = []
  end_checks (lists many chains) s r x = []
  end_checks (surface z) s r x = (17, bounds_nothing (cell_count q) s x z) ∷ []

-- ---- the checks, in the order of trial

abbrev pub work_slots : Sections → ℕ → ℕ
work_slots K p = count K p * (2 * count K p + max (count_below K p) (count K (suc p)))

-- with n_(p+1) × n_(p+1) more where the transform of the columns of the second reduction is kept; the calls keep no other
abbrev pub work_slots_for : Transforms → Sections → ℕ → ℕ
work_slots_for t K p = cond t.second_columns (work_slots K p + count K (suc p) * count K (suc p)) (work_slots K p)

-- 1 to 7, 18, 8 and 9, at a count limit: an output of `slots` slots and a work slice of `space` slots are wanted, and so many are lent
unfoldable pub call_checks : ℕ → Question → ℕ → ℕ → ℕ → ℕ → List (ℕ × Bool)
call_checks limit q slots space output work =
    sheet_checks limit q.sheet
    ++ (8, ltb top q.dimension)
    ∷ (9, ltb output slots || ltb work space) ∷ []

-- the checks that leave every slice alone
unfoldable pub early_checks : ℕ → Question → Request → ℕ → ℕ → List (ℕ × Bool)
early_checks limit q request output work =
    call_checks limit q (list_count request * list_slots q request) (work_slots_for (transforms_of request) (cells q) q.dimension) output work
    ++ request_checks q request

abbrev pub went_wide : Reductions → Bool
went_wide too_wide = true
went_wide (reduced s r x) = false

-- what f makes of two reductions that are done
abbrev pub of_reduced : {A : Type 0} → A → (ℕ → ℕ → State → A) → Reductions → A
of_reduced none f too_wide = none
of_reduced none f (reduced s r x) = f s r x

-- those after which the work slice reads 0: 13, and `ending` of the end of the reductions
abbrev pub late_checks : (ℕ → ℕ → State → List (ℕ × Bool)) → Reductions → List (ℕ × Bool)
late_checks ending R = (13, went_wide R) ∷ of_reduced [] ending R

-- ---- the call

abbrev pub no_counts : Counts
no_counts = record { free = 0; torsion = 0; peak = 0; bits = 0 }

-- a call whose first early check that applies has the number `early`, and whose reductions come to R, with the checks `ending`, and leave `left` in the
-- output
abbrev pub call_with : {B : Type 0} → ℕ → (ℕ → ℕ → State → List (ℕ × Bool)) → Reductions → (ℕ → ℕ → State → List B) → List B → List ℤ → Called Counts B
call_with early ending R left output work =
    concluded early (first_refusal (late_checks ending R)) (of_reduced no_counts counts_of R) (of_reduced output left R) output work

-- the call at a count limit, on a question, a request, an output slice and a work slice
unfoldable pub call : ℕ → Question → Request → List ℤ → List ℤ → Called Counts ℤ
call limit q request output work =
    call_with (first_refusal (early_checks limit q request (length output) (length work))) (end_checks q request) (two q (transforms_of request))
    (λ s r x. splices (list_slots q request) (numbers_of q request s r x) (list_count request) output) output work
