-- The lists of a request, after two reductions that are right: their width (numbers-width), that they fit their slots (width_fits), and that every number of
-- them fits 64 bits where the request's chains pass their checks (numbers-word).
use mathlib.Core.Path.{◌≡◌}
use mathlib.Core.Bool.{true}
use mathlib.Core.List.{[]}
use Prim.Native.Nat.{ℕ, ◌+◌, ◌≤◌, ◌<◌}
use native.Mathlib.Nat.{le_refl}
use native.Mathlib.Omega.{arith}
use lib.ListN.{length}
use Rattle.limits.specs.Limits.{library_limit, entry_limit, coefficient_limit, surface_coefficient_limit}
use Rattle.trials.specs.Trial.{first_refusal}
use Rattle.reduction_steps.specs.State.{State, within}
use Rattle.lists.proofs.TabulateLaws.{length-tabulate}
use Rattle.reports.specs.Reductions.{Transforms}
use Rattle.reports.specs.Report.{free_rank, torsion_count}
use Rattle.reports.specs.Surface.{surface_at, surface_list}
use Rattle.reports.proofs.ReportLaws.{report-fits, coordinates-fit}
use Rattle.requests.specs.Question.{Question, cells, cell_count, next_count}
use Rattle.requests.specs.Chains.{chain_at}
use Rattle.requests.proofs.ChainsLaws.{chains-zero, fault-small}
use Rattle.requests.specs.Call.{Request, report, coordinates, lists, surface, list_count, list_slots, numbers_of, request_checks}
use Rattle.host_calls.proofs.BytesLaws.{Word}
use Rattle.integers.specs.Slot.{slot}
use Rattle.answers.proofs.TwoReductions.{Right}
use Rattle.answers.proofs.Numbers.{report-length, coordinates-length}
use Rattle.answers.proofs.ChainChecks.{chain-passes}
use Rattle.answers.proofs.Fits.{report-word, coordinates-word}
use Rattle.answers.proofs.SurfaceRight.{surface-word}
use Rattle.answers.specs.Outcome.{list_width}
use Rattle.answers.proofs.Behind.{Behind}

module _ (q : Question) {s r : ℕ} {x : State} (R : Right (cells q) q.dimension s r x) where
  pub numbers-width : (request : Request) (i : ℕ) → length (numbers_of q request s r x i) ≡ list_width q request (free_rank s r) (torsion_count r x)
  unfolding surface_list
  numbers-width report i = report-length R
  numbers-width (coordinates z) i = coordinates-length R z
  numbers-width (lists many chains) i = coordinates-length R (chain_at (cell_count q) chains i)
  numbers-width (surface z) i = length-tabulate (next_count q) (surface_at (cell_count q) r x z)

  total-fits : torsion_count r x + free_rank s r ≤ cell_count q
  total-fits = omega (arith, coordinates-length R [], coordinates-fit (cell_count q) s x [] R.rows_bound)

  pub width_fits : (request : Request) → list_width q request (free_rank s r) (torsion_count r x) ≤ list_slots q request
  width_fits report = omega (arith, report-length R, report-fits (cell_count q) s r x R.rank-bound R.rows_bound)
  width_fits (coordinates z) = total-fits
  width_fits (lists many chains) = total-fits
  width_fits (surface z) = le_refl (next_count q)

  module _ (small : within entry_limit x ≡ true) (few : cell_count q ≤ library_limit) where
    pub numbers-word : (request : Request) → first_refusal (request_checks q request) ≡ 0 → (i : ℕ) → i < list_count request → (j : ℕ) → Word (slot (numbers_of q request s r x i) j)
    numbers-word report passed i l j = report-word R small few j
    numbers-word (coordinates z) passed i l j = coordinates-word R small few z (chain-passes coefficient_limit (cells q) q.dimension z passed).small j
    numbers-word (lists many chains) passed i l j =
        coordinates-word R small few (chain_at (cell_count q) chains i)
        (fault-small coefficient_limit (cells q) q.dimension chains i (((chains-zero coefficient_limit (cells q) q.dimension chains many).0 passed).1 i l)) j
    numbers-word (surface z) passed i l j =
        surface-word R small few z (chain-passes surface_coefficient_limit (cells q) q.dimension z passed).small (next_count q) j

-- how many coordinates a chain has, by what stands behind a call
abbrev pub coordinates-width : {q : Question} {t : Transforms} → Behind q t → ℕ
coordinates-width B = torsion_count B.rank B.state + free_rank B.rows B.rank
