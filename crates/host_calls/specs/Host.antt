-- The host calls: document 01, "The report and the coordinates". They have their own work arrays, carry numbers as bytes, and answer 0 for done.
use Rattle.std.specs.Prelude.{cond, List, [], ℕ, ◌+◌, ◌*◌, ◌/◌, length}
use Rattle.limits.specs.Limits.{host_limit}
use Rattle.lists.specs.Splice.{splices}
use Rattle.trials.specs.Trial.{first_refusal, Called, number_told}
use Rattle.reduction_steps.specs.State.{State}
use Rattle.reports.specs.Reductions.{Transforms}
use Rattle.reports.specs.Report.{Counts}
use Rattle.requests.specs.Question.{Question, cells, cell_count, two}
use Rattle.requests.specs.Call.{Request, coordinates, lists, surface, transforms_of, list_count, list_slots, numbers_of, end_checks, work_slots_for, early_checks, call_with}
use Rattle.host_calls.specs.Bytes.{numbers_bytes, chain_from}

-- the number answered and the output as the call leaves it
pub record HostCalled : Type 0 where
  pub number : ℕ
  pub output : List ℕ

-- an incomplete number at the end of a lent output gives no slot
abbrev pub slots_in : List ℕ → ℕ
slots_in output = length output / 8

-- the slots of the arrays that a host call has of its own: enough for every sheet that it accepts
abbrev pub report_room : ℕ
report_room = 2 + host_limit + host_limit * host_limit

abbrev pub work_room : ℕ
work_room = host_limit * (3 * host_limit)

-- with room for the transform of the columns of the second reduction where that is kept
abbrev pub work_room_for : Transforms → ℕ
work_room_for t = cond t.second_columns (work_room + host_limit * host_limit) work_room

-- the first of the early checks: a host call has work slots enough
abbrev pub host_early : Question → Request → List ℕ → ℕ
host_early q request output = first_refusal (early_checks host_limit q request (slots_in output) (work_slots_for (transforms_of request) (cells q) q.dimension))

-- the output where the lists are written as bytes
abbrev pub bytes_left : Question → Request → List ℕ → ℕ → ℕ → State → List ℕ
bytes_left q request output s r x = splices (8 * list_slots q request) (λ i. numbers_bytes (numbers_of q request s r x i)) (list_count request) output

abbrev pub host_answer : Called Counts ℕ → HostCalled
host_answer called = record { number = number_told called.answer; output = called.output }

-- the host's call on a question, a request and an output
unfoldable pub host_call : Question → Request → List ℕ → HostCalled
host_call q request output =
    host_answer (call_with (host_early q request output) (end_checks q request) (two q (transforms_of request)) (bytes_left q request output) output [])

-- ---- requests with their chains in bytes

-- the coordinates of the chain of 4 × n_p bytes
abbrev pub coordinates_in : Question → List ℕ → Request
coordinates_in q chain = coordinates (chain_from (cell_count q) chain)

-- those of a number of chains of 4 × n_p bytes each
abbrev pub lists_in : Question → ℕ → List ℕ → Request
lists_in q many chains = lists many (chain_from (many * cell_count q) chains)

-- the surface that the chain of 4 × n_p bytes bounds
abbrev pub surface_in : Question → List ℕ → Request
surface_in q chain = surface (chain_from (cell_count q) chain)
