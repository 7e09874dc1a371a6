-- A host call beside the library's. With `report_room` and `work_room` slots it has room for every sheet that it accepts.
--     early-same                     calls with room enough tell the same before the reductions
--     host-refused, host-done        the host's call by its first early check and its reductions; host-number: what 0 says
--     refused-same, done-same        the host's call by the library's; report-early, surface-early: both tell the same before the reductions
--     host-stands                    a host's surface call on a chain that stands for another
use mathlib.Core.Path.{◌≡◌, refl, sym, ◌∙◌, ap}
use mathlib.Core.Logic.{◌≢◌, ◌⊎◌, inl, inr}
use mathlib.Core.Bool.{Bool, true, false, cond}
use mathlib.Core.List.{List, [], ◌++◌}
use Prim.Native.Nat.{ℕ, zero, suc, ◌+◌, ◌*◌, ◌≤◌, ◌<◌, min, max}
use native.Mathlib.Nat.{mul-le-mul, max-le}
use native.Mathlib.Decide.{dec_le, dec_lt, ℕ_discrete}
use native.Mathlib.Omega.{arith}
use borrow.Author.Tests.{lt-ltb, le-ltb, ne_eqb}
use lib.Dec.{ltb}
use lib.ListN.{length, take, drop}
use lib.Seq.{take_at}
use lib.IntN.{ℤ}
use Rattle.limits.specs.Limits.{host_limit, surface_coefficient_limit}
use Rattle.lists.specs.Splice.{splice, splices}
use Rattle.lists.specs.SpliceLaws.{splice-zero}
use Rattle.lists.proofs.SplicesLaws.{splices-single}
use Rattle.trials.specs.Trial.{first_refusal, Called, refused, number_told, concluded}
use Rattle.trials.proofs.TrialLaws.{refused≢done}
use Rattle.trials.proofs.FirstLaws.{or_else, first-append}
use Rattle.complexes.specs.Complex.{count}
use Rattle.complexes.specs.Boundary.{count_below}
use Rattle.sheet_format.specs.Layout.{top}
use Rattle.sheet_format.specs.Check.{refusal}
use Rattle.sheet_format.specs.CheckLaws.{complex-zero, refusal-zero, count_exceeds-false}
use Rattle.sheet_format.specs.SheetLaws.{count-sections_of, count_field-out}
use Rattle.reduction_steps.specs.State.{State}
use Rattle.reports.specs.Reductions.{Reductions, Transforms, second_columns_only, too_wide, reduced}
use Rattle.reports.specs.Report.{Counts, counts_of}
use Rattle.requests.specs.Question.{Question, cells, cell_count, next_count, two}
use Rattle.requests.specs.Chains.{chain_checks}
use Rattle.requests.proofs.ChainsLaws.{chain-sized}
use Rattle.requests.specs.Call.{Request, report, surface, transforms_of, list_count, list_slots, request_checks, end_checks, numbers_of, work_slots, work_slots_for, call_checks, early_checks, call_with, call}
use Rattle.requests.proofs.CheckLaws.{Passed, call_checks-zero, sheet-told, sheet-passed, call-told, call-passed}
use Rattle.requests.proofs.CallLaws.{DoneWith, early-iff, with-early, with-wide, with-done, with_number}
use Rattle.host_calls.specs.Bytes.{numbers_bytes}
use Rattle.host_calls.specs.Host.{HostCalled, slots_in, report_room, work_room, work_room_for, host_early, bytes_left, host_answer, host_call}

-- ---- by the first early check and the reductions

module _ (q : Question) (request : Request) (output : List ℕ) where
  pub host-early : host_early q request output ≢ 0 → host_call q request output ≡ record { number = host_early q request output; output = output }
  unfolding host_call
  host-early d = ap host_answer (with-early (host_early q request output) (end_checks q request) (two q (transforms_of request)) (bytes_left q request output) output [] d)

  pub host-wide : host_early q request output ≡ 0 → two q (transforms_of request) ≡ too_wide → host_call q request output ≡ record { number = 13; output = output }
  unfolding host_call
  host-wide e f = ap host_answer (with-wide (host_early q request output) (end_checks q request) (two q (transforms_of request)) (bytes_left q request output) output [] e f)

  pub host-done : host_early q request output ≡ 0 → (s r : ℕ) (x : State) → two q (transforms_of request) ≡ reduced s r x → first_refusal (end_checks q request s r x) ≡ 0
      → host_call q request output ≡ record { number = 0; output = bytes_left q request output s r x }
  unfolding host_call
  host-done e s r x f g =
      ap host_answer (with-done (host_early q request output) (end_checks q request) (two q (transforms_of request)) (bytes_left q request output) output [] e s r x f g)

  pub host-number : (host_call q request output).number ≡ 0 → DoneWith (host_early q request output) (end_checks q request) (two q (transforms_of request))
  unfolding host_call
  host-number e = with_number (host_early q request output) (end_checks q request) (two q (transforms_of request)) (bytes_left q request output) output [] e

-- ---- the room of a host call

-- a sheet that is accepted needs no more
module _ (q : Question) (accepted : refusal host_limit q.sheet ≡ 0) where
  pub counts-within : (p : ℕ) → count (cells q) p ≤ host_limit
  unfolding cells
  counts-within p = go (dec_le p top)
    where
      go : Dec (p ≤ top) → count (cells q) p ≤ host_limit
      go (yes h) = omega (arith, count-sections_of q.sheet p, (count_exceeds-false host_limit q.sheet).0 ((complex-zero host_limit q.sheet).0 ((refusal-zero host_limit q.sheet).0 accepted).0).counts p h)
      go (no h) = omega (arith, count-sections_of q.sheet p, count_field-out q.sheet p (omega arith))

  rows-within : (p : ℕ) → count_below (cells q) p ≤ host_limit
  unfolding count_below
  rows-within zero = omega arith
  rows-within (suc p) = counts-within p

  pub report-room : list_slots q report ≤ report_room
  report-room = omega (arith, counts-within q.dimension, mul-le-mul (counts-within q.dimension) (counts-within q.dimension))

  pub work-room : work_slots (cells q) q.dimension ≤ work_room
  work-room = mul-le-mul (counts-within q.dimension) beside
    where
      beside : 2 * cell_count q + max (count_below (cells q) q.dimension) (count (cells q) (suc q.dimension)) ≤ 3 * host_limit
      beside = omega (arith, counts-within q.dimension, max-le (rows-within q.dimension) (counts-within (suc q.dimension)))

  -- with the transform that is kept
  pub work-room-for : (t : Transforms) → work_slots_for t (cells q) q.dimension ≤ work_room_for t
  work-room-for t = go t.second_columns
    where
      next : ℕ
      next = count (cells q) (suc q.dimension)

      go : (kept : Bool) → cond kept (work_slots (cells q) q.dimension + next * next) (work_slots (cells q) q.dimension) ≤ cond kept (work_room + host_limit * host_limit) work_room
      go true = omega (arith, work-room, mul-le-mul (counts-within (suc q.dimension)) (counts-within (suc q.dimension)))
      go false = work-room

-- ---- the early checks

module _ (q : Question) (slots space o o' w w' : ℕ) where
  same-checks : (refusal host_limit q.sheet ≡ 0 → (ltb o slots ≡ ltb o' slots) × (ltb w space ≡ ltb w' space))
      → first_refusal (call_checks host_limit q slots space o w) ≡ first_refusal (call_checks host_limit q slots space o' w')
  same-checks h = go (refusal host_limit q.sheet) refl
    where
      go : (k : ℕ) → refusal host_limit q.sheet ≡ k → first_refusal (call_checks host_limit q slots space o w) ≡ first_refusal (call_checks host_limit q slots space o' w')
      go (suc k) e =
          sheet-told host_limit q slots space o w (λ z. absurd (omega arith)) ∙ sym (sheet-told host_limit q slots space o' w' (λ z. absurd (omega arith)))
      go zero e =
          sheet-passed host_limit q slots space o w e ∙ (rw ((h e).0, (h e).1)) ∙ sym (sheet-passed host_limit q slots space o' w' e)

-- the output and the work slice have room for every sheet that is accepted, or as much of it as the host's output has
module _ (q : Question) (request : Request) (output : List ℕ) (o w : ℕ) where
  pub early-same : (refusal host_limit q.sheet ≡ 0 → ltb o (list_count request * list_slots q request) ≡ ltb (slots_in output) (list_count request * list_slots q request))
      → (refusal host_limit q.sheet ≡ 0 → work_slots_for (transforms_of request) (cells q) q.dimension ≤ w)
      → first_refusal (early_checks host_limit q request o w) ≡ host_early q request output
  unfolding early_checks call_checks
  early-same fits room =
      first-append (call_checks host_limit q slots space o w) (request_checks q request) refl
      ∙ ap (λ (k : ℕ). or_else k (first_refusal (request_checks q request)))
      (same-checks q slots space o (slots_in output) w space (λ e. (fits e, le-ltb w space (room e) ∙ sym (le-ltb space space (omega arith)))))
      ∙ sym (first-append (call_checks host_limit q slots space (slots_in output) space) (request_checks q request) refl)
    where
      slots : ℕ
      slots = list_count request * list_slots q request

      space : ℕ
      space = work_slots_for (transforms_of request) (cells q) q.dimension

  -- the work array of a host call has the slots that check 9 asks for
  pub early-room : o ≡ slots_in output → w ≡ work_room_for (transforms_of request) → first_refusal (early_checks host_limit q request o w) ≡ host_early q request output
  early-room e f = early-same (λ a. rw e) (λ a. omega (arith, f, work-room-for q a (transforms_of request)))

-- ---- the host's call by the library's

pub ltb-min : (o room need : ℕ) → need ≤ room → ltb (min o room) need ≡ ltb o need
ltb-min o room need h = go (dec_lt o need)
  where
    go : Dec (o < need) → ltb (min o room) need ≡ ltb o need
    go (yes l) = lt-ltb (min o room) need (omega arith) ∙ sym (lt-ltb o need l)
    go (no l) = le-ltb (min o room) need (omega arith) ∙ sym (le-ltb o need (omega arith))

-- both tell the same before the reductions
module _ (q : Question) (request : Request) (output : List ℕ) (slots work : List ℤ)
    (same : first_refusal (early_checks host_limit q request (length slots) (length work)) ≡ host_early q request output) where
  abbrev early : ℕ
  early = first_refusal (early_checks host_limit q request (length slots) (length work))

  abbrev R : Reductions
  R = two q (transforms_of request)

  abbrev numbers_left : ℕ → ℕ → State → List ℤ
  numbers_left s r x = splices (list_slots q request) (numbers_of q request s r x) (list_count request) slots

  pub refused-same : (k : ℕ) → (call host_limit q request slots work).answer ≡ refused k → host_call q request output ≡ record { number = k; output = output }
  unfolding call host_call
  refused-same k e = rw (sym same) (go early R e)
    where
      left : HostCalled
      left = record { number = k; output = output }

      at-end : (s r : ℕ) (x : State) (n : ℕ) → (concluded {B = ℤ} 0 n (counts_of s r x) (numbers_left s r x) slots work).answer ≡ refused k
          → host_answer (concluded 0 n (counts_of s r x) (bytes_left q request output s r x) output []) ≡ left
      at-end s r x zero e = absurd (refused≢done (sym e))
      at-end s r x (suc n) e = let is : suc n ≡ k = cc in ap (λ (m : ℕ). record { number = m; output = output }) is

      go : (early : ℕ) (R : Reductions) → (call_with early (end_checks q request) R numbers_left slots work).answer ≡ refused k
          → host_answer (call_with early (end_checks q request) R (bytes_left q request output) output []) ≡ left
      go (suc n) R e = let is : suc n ≡ k = cc in ap (λ (m : ℕ). record { number = m; output = output }) is
      go zero too_wide e = let is : 13 ≡ k = cc in ap (λ (m : ℕ). record { number = m; output = output }) is
      go zero (reduced s r x) e = at-end s r x (first_refusal (end_checks q request s r x)) e

  -- where one list is written, which has `many` numbers
  module _ (single : list_count request ≡ 1) where
    pub done-same : (many : ℕ) → number_told (call host_limit q request slots work).answer ≡ 0
        → ((s r : ℕ) (x : State) → R ≡ reduced s r x → length (numbers_of q request s r x 0) ≡ many)
        → host_call q request output ≡ record { number = 0; output = splice 0 (numbers_bytes (take many (call host_limit q request slots work).output)) output }
    unfolding call host_call
    done-same many e long =
        let d = with_number early (end_checks q request) R numbers_left slots work e in
        let list = numbers_of q request d.rows d.rank d.state 0 in
        let wrote : (call_with early (end_checks q request) R numbers_left slots work).output ≡ list ++ drop (length list) slots =
        ap (λ (c : Called Counts ℤ). c.output) (with-done early (end_checks q request) R numbers_left slots work d.passes d.rows d.rank d.state d.reductions d.ends)
        ∙ ap (λ (n : ℕ). splices (list_slots q request) (numbers_of q request d.rows d.rank d.state) n slots) single
        ∙ splices-single (list_slots q request) (numbers_of q request d.rows d.rank d.state) slots in
        let is : take many (call_with early (end_checks q request) R numbers_left slots work).output ≡ list =
        ap (take many) wrote ∙ take_at list (drop (length list) slots) many (long d.rows d.rank d.state d.reductions) in
        host-done q request output (sym same ∙ d.passes) d.rows d.rank d.state d.reductions d.ends
        ∙ ap (λ (o : List ℕ). record { number = 0; output = o })
        (ap (λ (n : ℕ). splices (8 * list_slots q request) (λ i. numbers_bytes (numbers_of q request d.rows d.rank d.state i)) n output) single
        ∙ splices-single (8 * list_slots q request) (λ i. numbers_bytes (numbers_of q request d.rows d.rank d.state i)) output
        ∙ sym (splice-zero (numbers_bytes list) output) ∙ ap (λ (l : List ℤ). splice 0 (numbers_bytes l) output) (sym is))

-- ---- the report

module _ (q : Question) (output : List ℕ) (slots work : List ℤ) (size : length slots ≡ min (slots_in output) report_room) (space : length work ≡ work_room) where
  pub report-early : first_refusal (early_checks host_limit q report (length slots) (length work)) ≡ host_early q report output
  report-early =
      early-same q report output (length slots) (length work)
      (λ e. rw size (ltb-min (slots_in output) report_room (1 * list_slots q report) (omega (arith, report-room q e))))
      (λ e. omega (arith, work-room q e))

-- ---- the surface

module _ (q : Question) (z : List ℤ) (output : List ℕ) (slots work : List ℤ) (size : length slots ≡ min (slots_in output) host_limit)
    (space : length work ≡ work_room_for (second_columns_only true)) where
  pub surface-early : first_refusal (early_checks host_limit q (surface z) (length slots) (length work)) ≡ host_early q (surface z) output
  surface-early =
      early-same q (surface z) output (length slots) (length work)
      (λ e. rw size (ltb-min (slots_in output) host_limit (1 * next_count q) (omega (arith, counts-within q e (suc q.dimension)))))
      (λ e. omega (arith, space, work-room-for q e (second_columns_only true)))

-- a chain as the call is given it stands for the one that the definition has: they are the same, or neither has n_p coefficients
module _ (q : Question) (z z' : List ℤ) (stands : refusal host_limit q.sheet ≡ 0 → (z ≡ z') ⊎ ((length z ≢ cell_count q) × (length z' ≢ cell_count q))) where
  module _ (slots space o w : ℕ) where
    checks-stand : first_refusal (call_checks host_limit q slots space o w ++ chain_checks surface_coefficient_limit (cells q) q.dimension z)
        ≡ first_refusal (call_checks host_limit q slots space o w ++ chain_checks surface_coefficient_limit (cells q) q.dimension z')
    unfolding chain_checks
    checks-stand = go (ℕ_discrete (first_refusal (call_checks host_limit q slots space o w)) 0)
      where
        checks : List (ℕ × Bool)
        checks = call_checks host_limit q slots space o w

        later : List ℤ → List (ℕ × Bool)
        later y = chain_checks surface_coefficient_limit (cells q) q.dimension y

        chosen : (z ≡ z') ⊎ ((length z ≢ cell_count q) × (length z' ≢ cell_count q)) → first_refusal (later z) ≡ first_refusal (later z')
        chosen (inl e) = ap (λ (y : List ℤ). first_refusal (later y)) e
        chosen (inr d) = rw (ne_eqb (length z) (cell_count q) d.0, ne_eqb (length z') (cell_count q) d.1)

        go : Dec (first_refusal checks ≡ 0) → first_refusal (checks ++ later z) ≡ first_refusal (checks ++ later z')
        go (yes e) =
            call-passed host_limit q slots space o w (later z) e
            ∙ chosen (stands ((call_checks-zero host_limit q slots space o w).0 e).accepted)
            ∙ sym (call-passed host_limit q slots space o w (later z') e)
        go (no d) = call-told host_limit q slots space o w (later z) d ∙ sym (call-told host_limit q slots space o w (later z') d)

  -- a host's call on the one is that on the other
  pub host-stands : (output : List ℕ) → host_call q (surface z) output ≡ host_call q (surface z') output
  unfolding host_call early_checks
  host-stands output = go (ℕ_discrete (host_early q (surface z) output) 0)
    where
      same : host_early q (surface z) output ≡ host_early q (surface z') output
      same = checks-stand (1 * next_count q) space (slots_in output) space
        where
          space : ℕ
          space = work_slots_for (second_columns_only true) (cells q) q.dimension

      go : Dec (host_early q (surface z) output ≡ 0) → host_call q (surface z) output ≡ host_call q (surface z') output
      go (no d) =
          host-early q (surface z) output d
          ∙ ap (λ (k : ℕ). record { number = k; output = output }) same
          ∙ sym (host-early q (surface z') output (λ e. d (same ∙ e)))
      go (yes e) = chosen (stands passed.0.accepted)
        where
          passed : Passed host_limit q (1 * next_count q) (work_slots_for (second_columns_only true) (cells q) q.dimension) (slots_in output) (work_slots_for (second_columns_only true) (cells q) q.dimension)
              × (first_refusal (chain_checks surface_coefficient_limit (cells q) q.dimension z) ≡ 0)
          passed = (early-iff host_limit q (surface z) (slots_in output) (work_slots_for (second_columns_only true) (cells q) q.dimension)).0 e

          chosen : (z ≡ z') ⊎ ((length z ≢ cell_count q) × (length z' ≢ cell_count q)) → host_call q (surface z) output ≡ host_call q (surface z') output
          chosen (inl is) = ap (λ (y : List ℤ). host_call q (surface y) output) is
          chosen (inr d) = absurd (d.0 (chain-sized surface_coefficient_limit (cells q) q.dimension z passed.1))
