-- What a call answers and leaves: document 01, "The reduction" and "The report and the coordinates"; document 02, Note 6. The machine of document 01 is run
-- from its start; how the calls compute need not be read.
use Rattle.std.specs.Prelude.{◌≡◌, ◌≢◌, true, List, ℕ, ◌+◌, ◌-◌, ◌*◌, ◌≤◌, ◌<◌, length, get_or, ℤ, nat_abs}
use Rattle.limits.specs.Limits.{entry_limit}
use Rattle.lists.specs.Splice.{splices}
use Rattle.trials.specs.Trial.{first_refusal, done, refused, number_told, Called, cleared}
use Rattle.complexes.specs.Complex.{Sections, count}
use Rattle.reduction_steps.specs.Table.{table_within}
use Rattle.reduction_steps.specs.State.{State}
use Rattle.reduction_steps.specs.Step as machine
use Rattle.reports.specs.Reductions.{Transforms, product}
use Rattle.reports.specs.Report.{Counts, counts_of}
use Rattle.requests.specs.Question.{Question, cells, cell_count, next_count, rule}
use Rattle.requests.specs.Call.{Request, report, coordinates, lists, surface, transforms_of, list_count, list_slots, numbers_of, early_checks}
use Rattle.host_calls.specs.Bytes.{number_at}
use Rattle.host_calls.specs.Host.{HostCalled}
use Rattle.answers.specs.Homology.{IsCycle, IsBoundary}
use Rattle.integers.specs.Slot.{slot}
use Rattle.answers.specs.Right.{report_length}
use Rattle.answers.specs.Wide.{FirstReaches, SecondReaches, GoesWide}

-- the reductions of document 01, with the transforms t that they keep, make an entry beyond its limit
abbrev pub TooWide : Question → Transforms → Type 0
TooWide q t = GoesWide t entry_limit (rule q) (cells q) q.dimension

-- With an entry limit the reductions come to their end: s rows of Q, and the second reduction, of rank r, leaves x.
pub record EndsAt (limit : ℕ) (q : Question) (t : Transforms) (s r : ℕ) (x : State) : Type 0 where
  pub first_rank : ℕ
  pub first_state : State
  pub first : FirstReaches t limit (rule q) (cells q) q.dimension (machine.done first_rank first_state)
  pub narrow : table_within limit (product (cells q) q.dimension first_rank first_state) ≡ true
  pub rows : s ≡ cell_count q - first_rank
  pub second : SecondReaches t limit (rule q) (cells q) q.dimension first_rank first_state (machine.done r x)

abbrev pub Ends : Question → Transforms → ℕ → ℕ → State → Type 0
Ends q t s r x = EndsAt entry_limit q t s r x

-- what a request wants of its chain beyond its checks: a surface, that it is the boundary of some chain with whole coefficients, however large
abbrev pub Bounds : Question → Request → Type 0
Bounds q report = Unit {0}
Bounds q (coordinates z) = Unit {0}
Bounds q (lists many chains) = Unit {0}
Bounds q (surface z) = IsBoundary (cells q) q.dimension (slot z)

-- A call of the library at a count limit: refused with the first early check that applies, never 13 or 17, and every slice left alone; or refused 13,
-- exactly where the reductions go too wide, and the work slice reads 0; or refused 17, exactly where they do not and the chain bounds nothing, and the
-- work slice reads 0; or done with the counts of their end, its lists written over the output and nothing else, and the work slice reads 0.
pub data Outcome (limit : ℕ) (q : Question) (request : Request) (output work : List ℤ) (called : Called Counts ℤ) : Type 0 where
  refused-early :
      (k : ℕ) → k ≢ 0 → k ≢ 13 → k ≢ 17 → first_refusal (early_checks limit q request (length output) (length work)) ≡ k →
      called ≡ record { answer = refused k; output = output; work = work } → Outcome limit q request output work called
  is-too_wide :
      first_refusal (early_checks limit q request (length output) (length work)) ≡ 0 → TooWide q (transforms_of request) →
      called ≡ record { answer = refused 13; output = output; work = cleared work } → Outcome limit q request output work called
  bounds-nothing :
      first_refusal (early_checks limit q request (length output) (length work)) ≡ 0 → (TooWide q (transforms_of request) → ⊥) → (Bounds q request → ⊥) →
      called ≡ record { answer = refused 17; output = output; work = cleared work } → Outcome limit q request output work called
  is-done :
      first_refusal (early_checks limit q request (length output) (length work)) ≡ 0 → (TooWide q (transforms_of request) → ⊥) → Bounds q request →
      (s r : ℕ) (x : State) → Ends q (transforms_of request) s r x →
      called
      ≡ record {
        answer = done (counts_of s r x);
        output = splices (list_slots q request) (numbers_of q request s r x) (list_count request) output;
        work = cleared work;
      } → Outcome limit q request output work called

-- the chain z has n_p coefficients within a limit and is no cycle
pub record NoCycle (limit : ℕ) (K : Sections) (p : ℕ) (z : List ℤ) : Type 0 where
  pub size : length z ≡ count K p
  pub small : (i : ℕ) → nat_abs (slot z i) ≤ limit
  pub no-cycle : IsCycle K p (slot z) → ⊥

-- how many numbers a list has, with f free generators and t orders
abbrev pub list_width : Question → Request → ℕ → ℕ → ℕ
list_width q report f t = report_length (cells q) q.dimension f t
list_width q (coordinates z) f t = t + f
list_width q (lists many chains) f t = t + f
list_width q (surface z) f t = next_count q

-- A host call on an output beside the library's on as many slots: its number is that of the library's answer, a refusal leaves the output, the numbers
-- read from its bytes are those that the library's call leaves, every other byte stays, and bytes stay bytes.
pub record Carries (q : Question) (request : Request) (output : List ℕ) (called : Called Counts ℤ) (host : HostCalled) : Type 0 where
  pub number_is : host.number ≡ number_told called.answer
  pub after-refusal : host.number ≢ 0 → host.output ≡ output
  pub size : length host.output ≡ length output
  pub reads : (counts : Counts) → called.answer ≡ done counts → (i j : ℕ) → i < list_count request → j < list_width q request counts.free counts.torsion
      → number_at host.output (i * list_slots q request + j) ≡ slot called.output (i * list_slots q request + j)
  pub between : (counts : Counts) → called.answer ≡ done counts → (i k : ℕ) → i < list_count request
      → 8 * list_width q request counts.free counts.torsion ≤ k → k < 8 * list_slots q request
      → get_or host.output (i * (8 * list_slots q request) + k) 0 ≡ get_or output (i * (8 * list_slots q request) + k) 0
  pub past : (k : ℕ) → list_count request * (8 * list_slots q request) ≤ k → get_or host.output k 0 ≡ get_or output k 0
  pub bytes : ((k : ℕ) → get_or output k 0 < 256) → (k : ℕ) → get_or host.output k 0 < 256
