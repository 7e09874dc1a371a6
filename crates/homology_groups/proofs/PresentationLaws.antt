-- Generators and orders that agree on their range present the same group: `presentation-ext`. `combination-ext`: the same of combinations.
use Prim.Native.Nat.{ℕ, suc, ◌<◌}
use native.Mathlib.Omega.{arith}
use mathlib.Core.Path.{◌≡◌, refl, ap}
use lib.IntN.{ℤ, ◌-ℤ◌, ◌*ℤ◌}
use Rattle.matrices.specs.Matrix.{Matrix}
use Rattle.matrices.proofs.SumLaws.{sum-ext}
use Rattle.homology_groups.specs.Chain.{Chain, Same, combination}
use Rattle.homology_groups.proofs.ChainLaws.{same-sym, cycle-same, boundary-same}
use Rattle.homology_groups.specs.Presentation.{Presentation}

pub combination-ext : {n k : ℕ} {c c' : ℕ → ℤ} {g g' : ℕ → Chain} → ((j : ℕ) → j < k → c j ≡ c' j) → ((j : ℕ) → j < k → Same n (g j) (g' j)) → Same n (combination k c g) (combination k c' g')
unfolding combination
combination-ext {n} {k} {c} {c'} {g} {g'} e f =
    record { at = λ i h. sum-ext k (λ j. c j *ℤ g j i) (λ j. c' j *ℤ g' j i) (λ j l. cc (e j l, (f j l).at i h)) }

pub presentation-ext : {m n l k : ℕ} {A B : Matrix} {g g' : ℕ → Chain} {o o' : ℕ → ℤ} → ((j : ℕ) → j < k → Same n (g j) (g' j)) → ((j : ℕ) → j < k → o j ≡ o' j) → Presentation m n l A B k g o → Presentation m n l A B k g' o'
presentation-ext {n} {k} {g} {g'} same equal P = record {
  cycles = λ j h. cycle-same (same j h) (P.cycles j h);
  spans = λ z h.
      let s = P.spans z h in
      record {
        coefficients = s.coefficients;
        remainder = boundary-same (record { at = λ i a. ap (λ (t : ℤ). z i -ℤ t) ((combined s.coefficients).at i a) }) s.remainder;
      };
  relations = λ c. (
    λ b j h. rw (← equal j h) ((P.relations c).0 (boundary-same (same-sym (combined c)) b) j h),
    λ d. boundary-same (combined c) ((P.relations c).1 (λ j h. rw (equal j h) (d j h))),
  );
  nonneg = λ j h. rw (← equal j h) (P.nonneg j h);
  proper = λ j h. rw (← equal j h) (P.proper j h);
  divides-next = λ j h. rw (← equal j (omega arith), ← equal (suc j) h) (P.divides-next j h);
}
  where
    combined : (c : ℕ → ℤ) → Same n (combination k c g) (combination k c g')
    combined c = combination-ext (λ j h. refl) same
