-- A call by its first early check and what its reductions come to.
--     with-early, with-wide, with-end, with-done    what it answers and leaves in each case
--     with_number                             where it answers 0, nothing was refused and the reductions are done
--     early-iff, early-late                   what passes the early checks of a request; they never tell 13 or 17
use mathlib.Core.Path.{◌≡◌, refl}
use mathlib.Core.Logic.{◌↔◌, ◌≢◌}
use mathlib.Core.Bool.{Bool, true}
use mathlib.Core.List.{List, [], ◌++◌}
use Prim.Native.Nat.{ℕ, zero, suc, ◌*◌}
use native.Mathlib.Nat.{suc-ne-zero}
use native.Mathlib.Omega.{arith}
use lib.IntN.{ℤ}
use Rattle.limits.specs.Limits.{coefficient_limit}
use Rattle.trials.specs.Trial.{first_refusal, Called, done, refused, number_told, cleared, concluded}
use Rattle.trials.proofs.FirstLaws.{absent, absent-append, first_absent}
use Rattle.reduction_steps.specs.State.{State}
use Rattle.reports.specs.Reductions.{Reductions, too_wide, reduced}
use Rattle.reports.specs.Report.{Counts, counts_of}
use Rattle.requests.specs.Question.{Question, cells}
use Rattle.requests.specs.Call.{Request, report, coordinates, lists, surface, list_count, transforms_of, list_slots, request_checks, work_slots_for, call_checks, early_checks, call_with}
use Rattle.requests.specs.Chains.{chain_checks}
use Rattle.requests.proofs.ChainsLaws.{Late, wide, bounds, chains-late}
use Rattle.requests.proofs.CheckLaws.{Passed, call_checks-zero, call-later-zero}

-- the checks of the end of the reductions
abbrev pub Ending : Type 0
Ending = ℕ → ℕ → State → List (ℕ × Bool)

abbrev pub no_ending : Ending
no_ending s r x = []

-- nothing was refused, and the two reductions are done
pub record DoneWith (early : ℕ) (ending : Ending) (R : Reductions) : Type 0 where
  pub passes : early ≡ 0
  pub rows : ℕ
  pub rank : ℕ
  pub state : State
  pub reductions : R ≡ reduced rows rank state
  pub ends : first_refusal (ending rows rank state) ≡ 0

module _ {B : Type 0} (early : ℕ) (ending : Ending) (R : Reductions) (left : ℕ → ℕ → State → List B) (output : List B) (work : List ℤ) where
  abbrev called : Called Counts B
  called = call_with early ending R left output work

  pub with-early : early ≢ 0 → called ≡ record { answer = refused early; output = output; work = work }
  with-early d = go early d
    where
      go : (k : ℕ) → k ≢ 0 → call_with k ending R left output work ≡ record { answer = refused k; output = output; work = work }
      go zero d = absurd (d refl)
      go (suc k) d = refl

  pub with-wide : early ≡ 0 → R ≡ too_wide → called ≡ record { answer = refused 13; output = output; work = cleared work }
  with-wide e f = rw (e, f)

  pub with-end : early ≡ 0 → (s r : ℕ) (x : State) → R ≡ reduced s r x → (k : ℕ) → first_refusal (ending s r x) ≡ suc k
      → called ≡ record { answer = refused (suc k); output = output; work = cleared work }
  with-end e s r x f k g = rw (e, f, g)

  pub with-done : early ≡ 0 → (s r : ℕ) (x : State) → R ≡ reduced s r x → first_refusal (ending s r x) ≡ 0
      → called ≡ record { answer = done (counts_of s r x); output = left s r x; work = cleared work }
  with-done e s r x f g = rw (e, f, g)

  pub with_number : number_told called.answer ≡ 0 → DoneWith early ending R
  with_number e = go early R e
    where
      go : (k : ℕ) (R : Reductions) → number_told (call_with k ending R left output work).answer ≡ 0 → DoneWith k ending R
      go (suc k) R e = absurd (suc-ne-zero k e)
      go zero too_wide e = absurd (omega arith)
      go zero (reduced s r x) e = at (first_refusal (ending s r x)) refl e
        where
          at : (n : ℕ) → first_refusal (ending s r x) ≡ n
              → number_told (concluded 0 n (counts_of s r x) (left s r x) output work).answer ≡ 0 → DoneWith zero ending (reduced s r x)
          at (suc n) f e = absurd (suc-ne-zero n e)
          at zero f e = record { passes = refl; rows = s; rank = r; state = x; reductions = refl; ends = f }

-- the first of the early checks of a request
module _ (limit : ℕ) (q : Question) (request : Request) (output work : ℕ) where
  pub early-iff : (first_refusal (early_checks limit q request output work) ≡ 0)
      ↔ (Passed limit q (list_count request * list_slots q request) (work_slots_for (transforms_of request) (cells q) q.dimension) output work
      × (first_refusal (request_checks q request) ≡ 0))
  unfolding early_checks
  early-iff = (
    λ e. let both = (call-later-zero limit q slots space output work (request_checks q request)).0 e in
        ((call_checks-zero limit q slots space output work).0 both.0, both.1),
    λ h. (call-later-zero limit q slots space output work (request_checks q request)).1 ((call_checks-zero limit q slots space output work).1 h.0, h.1),
  )
    where
      slots : ℕ
      slots = list_count request * list_slots q request

      space : ℕ
      space = work_slots_for (transforms_of request) (cells q) q.dimension

-- the checks of a request tell no 13 and no 17, and neither do those before them
module _ (q : Question) where
  request-late : {k : ℕ} → Late k → (request : Request) → absent k (request_checks q request) ≡ true
  unfolding chain_checks
  request-late k report = refl
  request-late wide (coordinates z) = refl
  request-late bounds (coordinates z) = refl
  request-late k (lists many chains) = chains-late coefficient_limit (cells q) q.dimension chains k many
  request-late wide (surface z) = refl
  request-late bounds (surface z) = refl

  pub early-late : {k : ℕ} → Late k → (limit : ℕ) (request : Request) (output work : ℕ) → first_refusal (early_checks limit q request output work) ≢ k
  unfolding early_checks call_checks
  early-late {k} late limit request output work =
      first_absent k (checks ++ request_checks q request) (nonzero late) (absent-append k checks (request_checks q request) (before late) (request-late late request))
    where
      checks : List (ℕ × Bool)
      checks = call_checks limit q (list_count request * list_slots q request) (work_slots_for (transforms_of request) (cells q) q.dimension) output work

      nonzero : {k : ℕ} → Late k → k ≢ 0
      nonzero wide e = absurd (omega arith)
      nonzero bounds e = absurd (omega arith)

      before : {k : ℕ} → Late k → absent k checks ≡ true
      before wide = refl
      before bounds = refl
