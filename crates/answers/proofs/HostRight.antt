-- A host call: where it is done, what stands behind it (host-answered) and the numbers of its lists (host-reads); beside the library's call: carries.
use mathlib.Core.Path.{◌≡◌, refl, sym, ◌∙◌, ap, subst}
use mathlib.Core.Logic.{◌≢◌}
use mathlib.Core.List.{List, [], ◌++◌, append-nil}
use Prim.Native.Nat.{ℕ, zero, suc, ◌+◌, ◌*◌, ◌≤◌, ◌<◌}
use native.Mathlib.Nat.{mul_left_comm, suc-mul, mul-le-mul_right}
use native.Mathlib.Decide.{ℕ_discrete}
use native.Mathlib.Omega.{arith}
use lib.ListN.{length, get_or}
use lib.IntN.{ℤ}
use Rattle.limits.specs.Limits.{host_limit}
use Rattle.lists.specs.Splice.{splices}
use Rattle.lists.proofs.SplicesLaws.{Fit, length-splices, splices-in, splices-between, splices-past, splices-each}
use Rattle.trials.specs.Trial.{first_refusal, done, number_told, Called, concluded}
use Rattle.sheet_format.specs.Sheet.{Bytes}
use Rattle.reduction_steps.specs.State.{State}
use Rattle.reports.specs.Reductions.{Reductions, too_wide, reduced}
use Rattle.reports.specs.Report.{Counts, free_rank, torsion_count, counts_of}
use Rattle.requests.specs.Question.{Question, cells, two}
use Rattle.requests.specs.Call.{Request, transforms_of, list_count, list_slots, numbers_of, end_checks, work_slots_for, early_checks, call_with, call}
use Rattle.requests.proofs.CallLaws.{Ending, early-iff}
use Rattle.host_calls.specs.Bytes.{numbers_bytes, number_at}
use Rattle.host_calls.proofs.BytesLaws.{numbers_bytes-small, length-numbers_bytes, number_at-numbers_bytes, number_at-same}
use Rattle.host_calls.specs.Host.{HostCalled, slots_in, host_early, bytes_left, host_answer, host_call}
use Rattle.host_calls.proofs.HostCallLaws.{host-done, host-number, early-same}
use Rattle.integers.specs.Slot.{slot}
use Rattle.answers.specs.Outcome.{list_width, Carries}
use Rattle.answers.proofs.Behind.{Behind, same-behind}
use Rattle.answers.proofs.ListLaws.{numbers-width, width_fits, numbers-word}
use Rattle.answers.proofs.CallRight.{Answered, answered-by, done-number, answered, counts_behind, list-reads}

module _ (q : Question) (request : Request) (output : List ℕ) (bytes : Bytes q.sheet) where
  abbrev host : HostCalled
  host = host_call q request output

  pub host-left : host.number ≢ 0 → host.output ≡ output
  unfolding host_call
  host-left d = go (host_early q request output) (two q (transforms_of request)) d
    where
      answer : ℕ → Reductions → HostCalled
      answer k R = host_answer (call_with k (end_checks q request) R (bytes_left q request output) output [])

      at-end : (s r : ℕ) (x : State) (n : ℕ)
          → number_told (concluded {B = ℕ} 0 n (counts_of s r x) (bytes_left q request output s r x) output []).answer ≢ 0
          → (concluded 0 n (counts_of s r x) (bytes_left q request output s r x) output []).output ≡ output
      at-end s r x zero d = absurd (d refl)
      at-end s r x (suc n) d = refl

      go : (k : ℕ) (R : Reductions) → (answer k R).number ≢ 0 → (answer k R).output ≡ output
      go (suc k) R d = refl
      go zero too_wide d = refl
      go zero (reduced s r x) d = at-end s r x (first_refusal (end_checks q request s r x)) d

  module _ (e : host.number ≡ 0) where
    pub host-answered : Answered host_limit q request (slots_in output) (work_slots_for (transforms_of request) (cells q) q.dimension)
    host-answered =
        answered-by host_limit q request (slots_in output) (work_slots_for (transforms_of request) (cells q) q.dimension) bytes (host-number q request output e)

    abbrev B : Behind q (transforms_of request)
    B = host-answered.reductions-behind

    abbrev width : ℕ
    width = list_width q request (free_rank B.rows B.rank) (torsion_count B.rank B.state)

    abbrev numbers : ℕ → List ℤ
    numbers = numbers_of q request B.rows B.rank B.state

    abbrev written : ℕ → List ℕ
    written i = numbers_bytes (numbers i)

    output-is : host.output ≡ splices (8 * list_slots q request) written (list_count request) output
    output-is =
        ap (λ (c : HostCalled). c.output)
        (host-done q request output
        ((early-iff host_limit q request (slots_in output) (work_slots_for (transforms_of request) (cells q) q.dimension)).1 (host-answered.passed, host-answered.request-passed))
        B.rows B.rank B.state B.reductions-are host-answered.ends)

    bytes-width : (i : ℕ) → length (written i) ≡ 8 * width
    bytes-width i = omega (arith, length-numbers_bytes (numbers i), numbers-width q B.right request i)

    fit : Fit (8 * list_slots q request) written output (list_count request)
    fit = record {
      short = λ i l. omega (arith, bytes-width i, width_fits q B.right request);
      room = omega (arith, mul_left_comm (list_count request) 8 (list_slots q request), host-answered.passed.output-slots);
    }

    pub host-size : length host.output ≡ length output
    host-size = ap length output-is ∙ length-splices (8 * list_slots q request) written output (list_count request) fit

    pub host-past : (k : ℕ) → list_count request * (8 * list_slots q request) ≤ k → get_or host.output k 0 ≡ get_or output k 0
    host-past k l = ap (λ (o : List ℕ). get_or o k 0) output-is ∙ splices-past (8 * list_slots q request) written output (list_count request) fit k 0 l

    pub host-bytes : ((k : ℕ) → get_or output k 0 < 256) → (k : ℕ) → get_or host.output k 0 < 256
    host-bytes small k =
        subst (λ (o : List ℕ). get_or o k 0 < 256) (sym output-is)
        (splices-each (λ b. b < 256) 0 (omega arith) (8 * list_slots q request) written (list_count request) output (λ i. numbers_bytes-small (numbers i)) small k)

    module _ (i : ℕ) (next : i < list_count request) where
      pub host-between : (k : ℕ) → 8 * width ≤ k → k < 8 * list_slots q request
          → get_or host.output (i * (8 * list_slots q request) + k) 0 ≡ get_or output (i * (8 * list_slots q request) + k) 0
      host-between k l m =
          ap (λ (o : List ℕ). get_or o (i * (8 * list_slots q request) + k) 0) output-is
          ∙ splices-between (8 * list_slots q request) written output (list_count request) fit i k 0 next (omega (arith, bytes-width i)) m

      -- number j of list i
      pub host-reads : (j : ℕ) → j < width → number_at host.output (i * list_slots q request + j) ≡ slot (numbers i) j
      host-reads j l =
          ap (λ (o : List ℕ). number_at o (i * list_slots q request + j)) output-is
          ∙ number_at-same whole (written i ++ []) (i * list_slots q request + j) j inside (omega (arith, ap length (append-nil (written i)), bytes-width i)) byte
          ∙ number_at-numbers_bytes (numbers i) [] j (omega (arith, numbers-width q B.right request i))
          (numbers-word q B.right B.small (omega (arith, host-answered.complex.within q.dimension)) request host-answered.request-passed i next j)
        where
          whole : List ℕ
          whole = splices (8 * list_slots q request) written (list_count request) output

          inside : 8 * (i * list_slots q request + j) + 8 ≤ length whole
          inside =
              omega (
                arith,
                length-splices (8 * list_slots q request) written output (list_count request) fit,
                fit.room,
                mul_left_comm (list_count request) 8 (list_slots q request),
                width_fits q B.right request,
                suc-mul i (list_slots q request),
                mul-le-mul_right (list_slots q request) next,
              )

          byte : (t : ℕ) → t < 8 → get_or whole (8 * (i * list_slots q request + j) + t) 0 ≡ get_or (written i ++ []) (8 * j + t) 0
          byte t m =
              ap (λ (k : ℕ). get_or whole k 0) place
              ∙ splices-in (8 * list_slots q request) written output (list_count request) fit i (8 * j + t) 0 next (omega (arith, bytes-width i))
              ∙ ap (λ (x : List ℕ). get_or x (8 * j + t) 0) (sym (append-nil (written i)))
            where
              place : 8 * (i * list_slots q request + j) + t ≡ i * (8 * list_slots q request) + (8 * j + t)
              place = omega (arith, mul_left_comm i 8 (list_slots q request))

-- ---- beside the library's call

-- two numbers by the same early check and reductions
same_number : {B C : Type 0} (k : ℕ) (ending : Ending) (R : Reductions) (left : ℕ → ℕ → State → List B) (left' : ℕ → ℕ → State → List C) (output : List B) (output' : List C)
    (work work' : List ℤ) → number_told (call_with k ending R left output work).answer ≡ number_told (call_with k ending R left' output' work').answer
same_number (suc k) ending R left left' output output' work work' = refl
same_number zero ending too_wide left left' output output' work work' = refl
same_number {B} {C} zero ending (reduced s r x) left left' output output' work work' = go (first_refusal (ending s r x))
  where
    go : (n : ℕ)
        → number_told (concluded {B = B} 0 n (counts_of s r x) (left s r x) output work).answer ≡ number_told (concluded {B = C} 0 n (counts_of s r x) (left' s r x) output' work').answer
    go zero = refl
    go (suc n) = refl

module _ (q : Question) (request : Request) (output : List ℕ) (bytes : Bytes q.sheet) (slots work : List ℤ) (size : length slots ≡ slots_in output)
    (room : work_slots_for (transforms_of request) (cells q) q.dimension ≤ length work) where
  abbrev library : Called Counts ℤ
  library = call host_limit q request slots work

  number_is : (host_call q request output).number ≡ number_told library.answer
  unfolding host_call call
  number_is =
      ap (λ (k : ℕ). number_told (call_with k (end_checks q request) (two q (transforms_of request)) (bytes_left q request output) output []).answer) (sym (early-same q request output (length slots) (length work) (λ a. rw size) (λ a. room)))
      ∙ same_number (first_refusal (early_checks host_limit q request (length slots) (length work))) (end_checks q request) (two q (transforms_of request)) (bytes_left q request output)
      (λ s r x. splices (list_slots q request) (numbers_of q request s r x) (list_count request) slots) output slots [] work

  module _ (counts : Counts) (e : library.answer ≡ done counts) where
    is_zero : (host_call q request output).number ≡ 0
    is_zero = number_is ∙ done-number e

    abbrev H : Behind q (transforms_of request)
    H = (host-answered q request output bytes is_zero).reductions-behind

    abbrev L : Behind q (transforms_of request)
    L = (answered host_limit q request slots work bytes (done-number e)).reductions-behind

    counts-are : counts ≡ counts_of L.rows L.rank L.state
    counts-are = counts_behind host_limit q request slots work bytes e

    -- the width of a list, by the counts and by what stands behind the host's call
    width_is : list_width q request counts.free counts.torsion ≡ list_width q request (free_rank H.rows H.rank) (torsion_count H.rank H.state)
    width_is =
        same-behind (λ s r x. list_width q request counts.free counts.torsion ≡ list_width q request (free_rank s r) (torsion_count r x)) L H
        (ap (λ (c : Counts). list_width q request c.free c.torsion) counts-are)

    reads : (i j : ℕ) → i < list_count request → j < list_width q request counts.free counts.torsion
        → number_at (host_call q request output).output (i * list_slots q request + j) ≡ slot library.output (i * list_slots q request + j)
    reads i j l m =
        host-reads q request output bytes is_zero i l j (omega (arith, width_is))
        ∙ same-behind (λ s r x. slot (numbers_of q request s r x i) j ≡ slot library.output (i * list_slots q request + j)) L H
        (sym (list-reads host_limit q request slots work bytes (done-number e) i l j (omega (arith, ap (λ (c : Counts). list_width q request c.free c.torsion) counts-are))))

  pub carries : Carries q request output library (host_call q request output)
  carries = record {
    number_is = number_is;
    after-refusal = host-left q request output bytes;
    size = by_number (λ o. length o ≡ length output) (λ e. ap length e) (host-size q request output bytes);
    reads = reads;
    between = λ counts e i k l m n.
        host-between q request output bytes (is_zero counts e) i l k (omega (arith, width_is counts e)) n;
    bytes = λ small k. by_number (λ o. get_or o k 0 < 256) (λ e. subst (λ (o : List ℕ). get_or o k 0 < 256) (sym e) (small k))
        (λ z. host-bytes q request output bytes z small k);
    past = λ k l. by_number (λ o. get_or o k 0 ≡ get_or output k 0) (λ e. ap (λ (o : List ℕ). get_or o k 0) e) (λ z. host-past q request output bytes z k l);
  }
    where
      by_number : (P : List ℕ → Type 0) → ((host_call q request output).output ≡ output → P (host_call q request output).output)
          → ((host_call q request output).number ≡ 0 → P (host_call q request output).output) → P (host_call q request output).output
      by_number P untouched wrote = go (ℕ_discrete (host_call q request output).number 0)
        where
          go : Dec ((host_call q request output).number ≡ 0) → P (host_call q request output).output
          go (yes z) = wrote z
          go (no d) = untouched (host-left q request output bytes d)
