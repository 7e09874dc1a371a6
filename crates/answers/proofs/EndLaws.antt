-- The checks at the end of the reductions, after two that are right: none applies exactly where the request's chain bounds what it must (ending-iff), and the
-- one that does tells 17 (ending-number). surface-fills: the boundary of a surface that stands behind a call is the chain.
use mathlib.Core.Path.{◌≡◌, refl, ap}
use mathlib.Core.Logic.{◌↔◌, ◌≢◌}
use mathlib.Core.Bool.{Bool, true, false}
use mathlib.Core.List.{List, [], ◌∷◌}
use Prim.Native.Nat.{ℕ, suc}
use native.Mathlib.Omega.{arith}
use lib.IntN.{ℤ}
use Rattle.integers.specs.Slot.{slot}
use Rattle.limits.specs.Limits.{entry_limit, surface_coefficient_limit}
use Rattle.matrices.specs.Vector.{apply}
use Rattle.homology_groups.specs.Chain.{Same}
use Rattle.complexes.specs.Boundary.{boundary}
use Rattle.trials.specs.Trial.{first_refusal}
use Rattle.reduction_steps.specs.State.{State}
use Rattle.reports.specs.Reductions.{second_columns_only}
use Rattle.reports.specs.Surface.{bounds_nothing, surface_list}
use Rattle.requests.specs.Question.{Question, cells, cell_count, next_count, rule, two}
use Rattle.requests.specs.Call.{Request, report, coordinates, lists, surface, request_checks, end_checks}
use Rattle.answers.specs.Outcome.{Bounds}
use Rattle.answers.proofs.TwoReductions.{Right}
use Rattle.answers.proofs.ChainChecks.{chain-passes}
use Rattle.answers.proofs.SurfaceRight.{bounds-iff, reductions-columns, surface-bounds}
use Rattle.answers.proofs.Behind.{Behind, rule-is}

-- the one check tells its number or 0
abbrev told : Bool → ℕ
told b = first_refusal ((17, b) ∷ [])

told-zero : (b : Bool) → (told b ≡ 0) ↔ (b ≡ false)
told-zero true = (λ e. absurd (omega arith), λ e. ap told e)
told-zero false = (λ e. refl, λ e. refl)

module _ (q : Question) {s r : ℕ} {x : State} (R : Right (cells q) q.dimension s r x) where
  pub ending-iff : (request : Request) → first_refusal (request_checks q request) ≡ 0 → (first_refusal (end_checks q request s r x) ≡ 0) ↔ Bounds q request
  ending-iff report passed = (λ e. tt, λ b. refl)
  ending-iff (coordinates z) passed = (λ e. tt, λ b. refl)
  ending-iff (lists many chains) passed = (λ e. tt, λ b. refl)
  ending-iff (surface z) passed =
      let bounds = bounds-iff R z (chain-passes surface_coefficient_limit (cells q) q.dimension z passed).cycle in
      let zero = told-zero (bounds_nothing (cell_count q) s x z) in
      (λ e. bounds.0 (zero.0 e), λ b. zero.1 (bounds.1 b))

-- a surface call that is done, with its two reductions
pub surface-fills : (q : Question) (z : List ℤ) → first_refusal (request_checks q (surface z)) ≡ 0 → (B : Behind q (second_columns_only true))
    → first_refusal (end_checks q (surface z) B.rows B.rank B.state) ≡ 0
    → Same (cell_count q) (apply (next_count q) (boundary (cells q) (suc q.dimension)) (slot (surface_list (cell_count q) (next_count q) B.rank B.state z))) (slot z)
unfolding two
surface-fills q z passed B ends =
    surface-bounds
    (reductions-columns B.complex (second_columns_only true) (rule q) (rule-is q) entry_limit q.dimension (omega arith) B.rows B.rank B.state B.reductions-are refl) z
    (chain-passes surface_coefficient_limit (cells q) q.dimension z passed).cycle ((told-zero (bounds_nothing (cell_count q) B.rows B.state z)).0 ends)

pub ending-number : (q : Question) (request : Request) (s r : ℕ) (x : State) → first_refusal (end_checks q request s r x) ≢ 0 → first_refusal (end_checks q request s r x) ≡ 17
ending-number q report s r x d = absurd (d refl)
ending-number q (coordinates z) s r x d = absurd (d refl)
ending-number q (lists many chains) s r x d = absurd (d refl)
ending-number q (surface z) s r x d = go (bounds_nothing (cell_count q) s x z) d
  where
    go : (b : Bool) → told b ≢ 0 → told b ≡ 17
    go true d = refl
    go false d = absurd (d refl)
