-- The checks 10 to 12 of a chain. `chain-passes`: a chain that passes them has n_p coefficients and is a cycle. `not-a-cycle-iff`: 12 is told
-- exactly when 10 and 11 pass and the chain is no cycle.
use mathlib.Core.Path.{◌≡◌, refl, sym, ◌∙◌, ap}
use mathlib.Core.Logic.{◌↔◌}
use mathlib.Core.Bool.{Bool, true, false, not}
use mathlib.Core.List.{List, [], ◌∷◌}
use Prim.Native.Nat.{ℕ, ◌≤◌}
use native.Mathlib.Omega.{arith}
use borrow.Author.Tests.{eqb-true, eq-eqb, not-false}
use lib.Dec.{eqb}
use lib.ListN.{length}
use lib.IntN.{ℤ, nat_abs}
use Rattle.integers.proofs.Order.{nat_abs-zero}
use Rattle.matrices.specs.Vector.{apply}
use Rattle.complexes.specs.Boundary.{count_below, boundary}
use Rattle.trials.specs.Trial.{first_refusal}
use Rattle.sheet_format.specs.Check.{some}
use Rattle.trials.proofs.FirstLaws.{first-zero, first-append-absent}
use Rattle.sheet_format.specs.CheckLaws.{some-false}
use Rattle.complexes.specs.Complex.{Sections, count}
use Rattle.requests.specs.Chains.{chain_at, chain_checks, chain_length_differs, coefficient_exceeds, boundary_not_zero}
use Rattle.requests.proofs.ChainsLaws.{coefficients-iff, fault}
use Rattle.answers.specs.Homology.{IsCycle}
use Rattle.integers.specs.Slot.{slot}
use Rattle.answers.specs.Outcome.{NoCycle}

-- ---- 12

cycle-iff : (K : Sections) (p : ℕ) (z : List ℤ) → (boundary_not_zero K p z ≡ false) ↔ IsCycle K p (slot z)
unfolding boundary_not_zero
cycle-iff K p z = (forward, backward)
  where
    rows : ℕ
    rows = count_below K p

    value : ℕ → ℤ
    value i = apply (count K p) (boundary K p) (slot z) i

    nonzero : ℕ → Bool
    nonzero i = not (eqb (nat_abs (value i)) 0)

    forward : some rows nonzero ≡ false → IsCycle K p (slot z)
    forward e = record {
      vanishes = λ i l. nat_abs-zero (value i) (eqb-true (nat_abs (value i)) 0 (not-false (eqb (nat_abs (value i)) 0) ((some-false rows nonzero).0 e i l)));
    }

    backward : IsCycle K p (slot z) → some rows nonzero ≡ false
    backward c = (some-false rows nonzero).1 (λ i l. ap (λ (t : ℤ). not (eqb (nat_abs t) 0)) (c.vanishes i l))

-- ---- the three

pub record ChainPasses (limit : ℕ) (K : Sections) (p : ℕ) (z : List ℤ) : Type 0 where
  pub size : length z ≡ count K p
  pub small : (i : ℕ) → nat_abs (slot z i) ≤ limit
  pub cycle : IsCycle K p (slot z)

size-iff : (K : Sections) (p : ℕ) (z : List ℤ) → (chain_length_differs K p z ≡ false) ↔ (length z ≡ count K p)
size-iff K p z = (
  λ e. eqb-true (length z) (count K p) (not-false (eqb (length z) (count K p)) e),
  λ e. ap not (eq-eqb (length z) (count K p) e),
)

pub chain-passes : (limit : ℕ) (K : Sections) (p : ℕ) (z : List ℤ) → first_refusal (chain_checks limit K p z) ≡ 0 → ChainPasses limit K p z
unfolding chain_checks
chain-passes limit K p z e =
    let (size, (small, (cycle, _))) = (first-zero (chain_checks limit K p z) refl).0 e in
    record { size = (size-iff K p z).0 size; small = (coefficients-iff limit z).0 small; cycle = (cycle-iff K p z).0 cycle }

pub not-a-cycle-iff : (limit : ℕ) (K : Sections) (p : ℕ) (z : List ℤ) → (first_refusal (chain_checks limit K p z) ≡ 12) ↔ NoCycle limit K p z
unfolding chain_checks
not-a-cycle-iff limit K p z = (forward, backward)
  where
    -- the checks before 12
    earlier : List (ℕ × Bool)
    earlier = (10, chain_length_differs K p z) ∷ (11, coefficient_exceeds limit z) ∷ []

    last : Bool → List (ℕ × Bool)
    last t = (12, t) ∷ []

    forward : first_refusal (chain_checks limit K p z) ≡ 12 → NoCycle limit K p z
    forward e =
        let k = first-append-absent earlier (last (boundary_not_zero K p z)) refl 12 refl e in
        let (size, (small, _)) = (first-zero earlier refl).0 k.0 in
        record {
          size = (size-iff K p z).0 size;
          small = (coefficients-iff limit z).0 small;
          no-cycle = λ c. zero≢twelve (sym (ap (λ (t : Bool). first_refusal (last t)) ((cycle-iff K p z).1 c)) ∙ k.1);
        }
      where
        zero≢twelve : ◌≡◌ {A = ℕ} 0 12 → ⊥
        zero≢twelve h = omega arith

    told : NoCycle limit K p z → (t : Bool) → boundary_not_zero K p z ≡ t → t ≡ true
    told h true e = refl
    told h false e = absurd (h.no-cycle ((cycle-iff K p z).0 e))

    backward : NoCycle limit K p z → first_refusal (chain_checks limit K p z) ≡ 12
    backward h =
        rw (
          (size-iff K p z).1 h.size,
          (coefficients-iff limit z).1 h.small,
          told h (boundary_not_zero K p z) refl,
        )

-- a chain of many, of n_p coefficients, is at fault as by itself
pub chain-told : (limit : ℕ) (K : Sections) (p : ℕ) (chains : List ℤ) (i : ℕ) → length (chain_at (count K p) chains i) ≡ count K p
    → first_refusal (chain_checks limit K p (chain_at (count K p) chains i)) ≡ fault limit K p chains i
unfolding chain_checks
chain-told limit K p chains i e = rw (eq-eqb (length (chain_at (count K p) chains i)) (count K p) e)
