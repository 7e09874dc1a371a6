-- The call on many chains beside that on one chain, and on none; the laws on checks and numbers serve the host's calls too.
--     same-with                        calls whose reductions leave the same are the same
--     one-early, one-numbers, one-chain     the call on one chain is the single call
--     none-early, none-numbers, no_cells    where the dimension has no cells, any number of chains is as none
--     nonempty-lists                   the call on the chains that have coefficients is the call on all
use mathlib.Core.Path.{◌≡◌, refl, ◌∙◌, ap}
use mathlib.Core.Bool.{Bool, true, false}
use mathlib.Core.List.{List, []}
use Prim.Native.Nat.{ℕ, zero, suc, ◌*◌, ◌<◌}
use native.Mathlib.Nat.{one-mul, zero-mul, mul-zero}
use native.Mathlib.Omega.{arith}
use borrow.Author.Tests.{eqb-true}
use lib.Dec.{eqb}
use lib.ListN.{length}
use lib.Seq.{take_all}
use lib.IntN.{ℤ}
use Rattle.limits.specs.Limits.{entry_limit, coefficient_limit}
use Rattle.lists.specs.Splice.{splices}
use Rattle.lists.proofs.SplicesLaws.{splices-same, splices-nothing}
use Rattle.trials.specs.Trial.{first_refusal, concluded}
use Rattle.reduction_steps.specs.State.{State}
use Rattle.reports.specs.Reductions.{Reductions, too_wide, reduced, no_transforms}
use Rattle.reports.proofs.ReductionsLaws.{reductions-done}
use Rattle.reports.specs.Report.{counts_of, reported, coordinate_list}
use Rattle.requests.specs.Question.{Question, cells, cell_count, rule, two}
use Rattle.requests.specs.Chains.{chain_at, chain_checks, cycles_checks, chains_checks, nonempty}
use Rattle.requests.specs.Call.{coordinates, lists, numbers_of, call_checks, early_checks, call_with, call}
use Rattle.requests.proofs.ChainsLaws.{chains-zero, cycles-no-cells}
use Rattle.requests.proofs.CallLaws.{Ending, no_ending, early-iff}

-- where nothing is refused, calls are the same if the reductions leave the same; where something is, whatever they would leave
pub same-with : {B : Type 0} (early : ℕ) (ending : Ending) (R : Reductions) (left left' : ℕ → ℕ → State → List B) (output : List B) (work : List ℤ)
    → (early ≡ 0 → (s r : ℕ) (x : State) → R ≡ reduced s r x → left s r x ≡ left' s r x)
    → call_with early ending R left output work ≡ call_with early ending R left' output work
same-with zero ending too_wide left left' output work h = refl
same-with {B} zero ending (reduced s r x) left left' output work h =
    ap (λ (l : List B). concluded 0 (first_refusal (ending s r x)) (counts_of s r x) l output work) (h refl s r x refl)
same-with (suc k) ending R left left' output work h = refl

-- a chain of n coefficients is the first of them
first-chain : (n : ℕ) (z : List ℤ) → length z ≡ n → chain_at n z 0 ≡ z
first-chain n z e = rw (zero-mul n) (take_all n z (omega (arith, e)))

-- ---- one chain

module _ (limit : ℕ) (q : Question) (z : List ℤ) (output work : ℕ) where
  pub one-early : first_refusal (early_checks limit q (lists 1 z) output work) ≡ first_refusal (early_checks limit q (coordinates z) output work)
  unfolding early_checks call_checks chains_checks cycles_checks chain_checks
  one-early = go (eqb (length z) (cell_count q)) refl
    where
      go : (t : Bool) → eqb (length z) (cell_count q) ≡ t → first_refusal (early_checks limit q (lists 1 z) output work) ≡ first_refusal (early_checks limit q (coordinates z) output work)
      go true e = rw (one-mul (cell_count q), first-chain (cell_count q) z (eqb-true (length z) (cell_count q) e))
      go false e = rw (one-mul (cell_count q), e)

  pub one-numbers : first_refusal (early_checks limit q (lists 1 z) output work) ≡ 0 → (s r : ℕ) (x : State) (i : ℕ) → i < 1
      → numbers_of q (lists 1 z) s r x i ≡ numbers_of q (coordinates z) s r x i
  one-numbers e s r x (suc i) l = absurd (omega arith)
  one-numbers e s r x zero l =
      let sized = ((chains-zero coefficient_limit (cells q) q.dimension z 1).0 ((early-iff limit q (lists 1 z) output work).0 e).1).0 in
      ap (λ (y : List ℤ). coordinate_list (cell_count q) s x y) (first-chain (cell_count q) z (sized ∙ one-mul (cell_count q)))

pub one-chain : (limit : ℕ) (q : Question) (z output work : List ℤ) → call limit q (lists 1 z) output work ≡ call limit q (coordinates z) output work
unfolding call
one-chain limit q z output work =
    same-with (first_refusal (early_checks limit q (lists 1 z) (length output) (length work))) no_ending (two q no_transforms)
    (λ s r x. splices (cell_count q) (numbers_of q (lists 1 z) s r x) 1 output) (λ s r x. splices (cell_count q) (numbers_of q (coordinates z) s r x) 1 output) output work
    (λ e s r x d. splices-same (cell_count q) (numbers_of q (lists 1 z) s r x) (numbers_of q (coordinates z) s r x) 1 output (one-numbers limit q z (length output) (length work) e s r x))
    ∙ ap (λ (early : ℕ). call_with early no_ending (two q no_transforms) (λ s r x. splices (cell_count q) (numbers_of q (coordinates z) s r x) 1 output) output work)
    (one-early limit q z (length output) (length work))

-- ---- no cells

module _ (q : Question) (empty : cell_count q ≡ 0) where
  -- no row of Q, and so no coordinate
  pub none-numbers : (s r : ℕ) (x : State) → two q no_transforms ≡ reduced s r x → (many : ℕ) (chains : List ℤ) (i : ℕ) → numbers_of q (lists many chains) s r x i ≡ []
  unfolding two coordinate_list reported
  none-numbers s r x e many chains i = rw rows
    where
      rows : s ≡ 0
      rows = omega (arith, (reductions-done no_transforms (rule q) entry_limit (cells q) q.dimension s r x e).rows, empty)

  none : (many : ℕ) → many * cell_count q ≡ 0 * cell_count q
  none many = rw empty (mul-zero many)

  pub none-early : (limit many output work : ℕ) (chains : List ℤ)
      → first_refusal (early_checks limit q (lists many chains) output work) ≡ first_refusal (early_checks limit q (lists 0 chains) output work)
  unfolding early_checks call_checks chains_checks cycles_checks
  none-early limit many output work chains = rw (cycles-no-cells coefficient_limit (cells q) q.dimension chains empty many, none many)

  pub no_cells : (limit many : ℕ) (chains output work : List ℤ) → call limit q (lists many chains) output work ≡ call limit q (lists 0 chains) output work
  unfolding call splices
  no_cells limit many chains output work =
      same-with (first_refusal (early_checks limit q (lists many chains) (length output) (length work))) no_ending (two q no_transforms)
      (λ s r x. splices (cell_count q) (numbers_of q (lists many chains) s r x) many output) (λ s r x. output) output work
      (λ e s r x d. splices-nothing (cell_count q) (numbers_of q (lists many chains) s r x) many output (λ i l. none-numbers s r x d many chains i))
      ∙ ap (λ (early : ℕ). call_with early no_ending (two q no_transforms) (λ s r x. output) output work) (none-early limit many (length output) (length work) chains)

-- ---- any number of chains

pub nonempty-size : (many n : ℕ) → nonempty many n * n ≡ many * n
nonempty-size many zero = simp mul-zero refl
nonempty-size many (suc n) = refl

pub nonempty-lists : (limit : ℕ) (q : Question) (many : ℕ) (chains output work : List ℤ)
    → call limit q (lists many chains) output work ≡ call limit q (lists (nonempty many (cell_count q)) chains) output work
nonempty-lists limit q many chains output work = go (cell_count q) refl
  where
    go : (n : ℕ) → cell_count q ≡ n → call limit q (lists many chains) output work ≡ call limit q (lists (nonempty many n) chains) output work
    go zero e = no_cells q e limit many chains output work
    go (suc n) e = refl
