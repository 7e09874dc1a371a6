-- Demand 1, and of demands 2 and 3 when each number is told, for every count limit, question and request, and every length and content of every slice.
-- The contracts of the library's calls say that they answer and leave what `call` says; here is claimed what that is. "ends on all input .. nothing
-- undefined happens" (demand 1) is settled by the proof of every function, "nothing is assumed beyond 01's rule on overlapping slices" (demand 3) by
-- calls without a `requires`.
use Rattle.std.specs.Prelude.{◌≡◌, ◌↔◌, ◌≢◌, List, ℕ, ◌+◌, ◌*◌, ◌≤◌, ◌<◌, length, ℤ}
use Rattle.limits.specs.Limits.{coefficient_limit}
use Rattle.trials.specs.Trial.{first_refusal, done, refused, number_told}
use Rattle.complexes.specs.Complex.{Sections}
use Rattle.sheet_format.specs.Check.{refusal}
use Rattle.sheet_format.specs.Sheet.{Bytes}
use Rattle.reports.specs.Report.{Counts}
use Rattle.requests.specs.Question.{Question, cells, cell_count}
use Rattle.requests.specs.Chains.{chain_at, chain_checks, FirstFault}
use Rattle.requests.specs.Call.{Request, coordinates, lists, work_slots, call_checks, call}
use Rattle.integers.specs.Slot.{slot}
use Rattle.answers.specs.Outcome.{Outcome, NoCycle}

-- "each fault gets its number from document 01 in 01's order, and a refusal leaves report and coordinate slices untouched"; demand 2, ""Too wide" is
-- told exactly when no earlier refusal applies and the reduction in 01 makes an entry beyond 1,048,575 either way from zero"; demand 3, "A call answers
-- done whenever no numbered refusal applies to it"; 01, "untouched past what the call writes", and the work slice "reads 0 throughout after a finished
-- call, after refusal 13 and after any refusal that is tried after 13 ..; the other refusals leave it alone". 02, Note 6, "17, after 13, told exactly when
-- the cycle bounds no chain with whole coefficients", and its 13 "takes in the added matrix". What is written is the documents': the lists of the end of
-- the reductions
abbrev pub Calls : Type 0
Calls =
    (limit : ℕ) (q : Question) (request : Request) (output work : List ℤ) → Bytes q.sheet →
    Outcome limit q request output work (call limit q request output work)

-- what is told of a sheet, 1 to 7 or 18, is told by every call, before all that is told of the rest
abbrev pub SheetsTold : Type 0
SheetsTold =
    (limit : ℕ) (q : Question) (request : Request) (output work : List ℤ) → refusal limit q.sheet ≢ 0 →
    call limit q request output work ≡ record { answer = refused (refusal limit q.sheet); output = output; work = work }

-- 01, "12. The chain has a nonzero boundary": among 10 to 12 it is told exactly when 10 and 11 do not apply and the chain is no cycle,
-- whatever the coefficient limit
abbrev pub NotACycle : Type 0
NotACycle = (limit : ℕ) (K : Sections) (p : ℕ) (z : List ℤ) → (first_refusal (chain_checks limit K p z) ≡ 12) ↔ NoCycle limit K p z

-- 02, Note 1, "The first faulty chain decides between 11 and 12": where none of 1 to 10 and 18 applies, a number other than 13 is answered exactly when it is
-- the first that the checks of a single call tell of a chain
abbrev pub FirstFaultyChain : Type 0
FirstFaultyChain =
    (limit : ℕ) (q : Question) (many : ℕ) (chains output work : List ℤ) → Bytes q.sheet →
    first_refusal (call_checks limit q (many * cell_count q) (work_slots (cells q) q.dimension) (length output) (length work)) ≡ 0 →
    length chains ≡ many * cell_count q → (k : ℕ) → k ≢ 0 → k ≢ 13 →
    (number_told (call limit q (lists many chains) output work).answer ≡ k)
    ↔ FirstFault (λ i. first_refusal (chain_checks coefficient_limit (cells q) q.dimension (chain_at (cell_count q) chains i))) many k

-- 02, Note 1, "The lists equal those of single calls in the same order": list i of a call that is done is that of the single call on chain i, which is
-- done with the same counts, whatever its slices held
pub record ListSingle (limit : ℕ) (q : Question) (i : ℕ) (z after : List ℤ) (counts : Counts) (output work : List ℤ) : Type 0 where
  pub answer : (call limit q (coordinates z) output work).answer ≡ done counts
  pub same : (j : ℕ) → j < counts.torsion + counts.free → slot after (i * cell_count q + j) ≡ slot (call limit q (coordinates z) output work).output j

abbrev pub ListsSingle : Type 0
ListsSingle =
    (limit : ℕ) (q : Question) (many : ℕ) (chains output work : List ℤ) → Bytes q.sheet → (counts : Counts) →
    (call limit q (lists many chains) output work).answer ≡ done counts → (i : ℕ) → i < many →
    (output' work' : List ℤ) → cell_count q ≤ length output' → work_slots (cells q) q.dimension ≤ length work' →
    ListSingle limit q i (chain_at (cell_count q) chains i) (call limit q (lists many chains) output work).output counts output' work'
