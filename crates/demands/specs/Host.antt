-- The host calls, for every question, request and output: what is claimed of the numbers, the slices and the lists of the library's calls holds of them,
-- read from their bytes; they answer no counts. The contracts of the exported calls say that they answer and leave what `host_call` says.
use Rattle.std.specs.Prelude.{◌≡◌, List, ℕ, ◌≤◌, length, ℤ}
use Rattle.limits.specs.Limits.{host_limit}
use Rattle.sheet_format.specs.Sheet.{Bytes}
use Rattle.requests.specs.Question.{Question, cells}
use Rattle.requests.specs.Call.{Request, transforms_of, work_slots_for, call}
use Rattle.host_calls.specs.Host.{slots_in, host_call}
use Rattle.answers.specs.Outcome.{Carries}

-- 01, "Host calls have their own work arrays and carry these numbers as bytes ..; they answer 0 for done. An incomplete number at the end of a lent output
-- gives no slot": the library's call is made at the host's count limit, on as many slots as the output has and work slots enough
abbrev pub HostCalls : Type 0
HostCalls =
    (q : Question) (request : Request) (output : List ℕ) → Bytes q.sheet → (slots work : List ℤ) → length slots ≡ slots_in output →
    work_slots_for (transforms_of request) (cells q) q.dimension ≤ length work → Carries q request output (call host_limit q request slots work) (host_call q request output)
