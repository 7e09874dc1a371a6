-- The columns of the final G that are not of kind 1, with the diagonal entries there, present the homology group: `presentation`.
-- `remainder-boundary`: a cycle less its coordinates times these generators is a boundary, whatever multiples of the orders the
-- coordinates are reduced by.
use Prim.Native.Nat.{ℕ, ◌+◌, ◌-◌, ◌<◌}
use native.Mathlib.Nat.{add-suc}
use native.Mathlib.Omega.{arith}
use native.Mathlib.Decide.{dec_lt}
use mathlib.Core.Path.{◌≡◌, sym, ◌∙◌, ap, subst}
use mathlib.Core.Logic.{◌↔◌}
use lib.IntN.{ℤ, ◌-ℤ◌}
use Rattle.integers.proofs.Ring.{sub_self}
use Rattle.integers.proofs.Divides.{one-dvd, dvd-zero}
use Rattle.integers.specs.Division.{◌∣ℤ◌}
use Rattle.matrices.specs.Matrix.{Matrix}
use Rattle.matrices.specs.Vector.{apply}
use Rattle.smith.proofs.Rank.{IsOnes}
use Rattle.homology_groups.specs.Chain.{Chain, Same, Cycle, Boundary, combination}
use Rattle.homology_groups.proofs.ChainLaws.{same-sym, boundary-same}
use Rattle.homology_groups.proofs.Shift.{shift, shift-above, combination-shift}
use Rattle.homology_groups.proofs.Reduced.{Reduced}
use Rattle.homology_groups.proofs.Coordinates.{left-inverse-apply, generators-cycle, column-cycle, boundary-iff, coordinates-decide}
use Rattle.homology_groups.specs.Presentation.{Spanned, Presentation}

-- generator j: column u + j of G
unfoldable pub generator : ℕ → Matrix → ℕ → Chain
generator u G j i = G i (u + j)

module _ {m n l : ℕ} {A B : Matrix} {s : ℕ} {e : ℕ → ℤ} {G Q : Matrix} (R : Reduced m n l A B s e G Q) {u : ℕ} (ones : IsOnes s e u) where
  -- at the places of kind 1 there is nothing to show
  pub divides-from : (f : ℕ → ℤ) → ((j : ℕ) → j < s - u → e (u + j) ∣ℤ f (u + j)) → (i : ℕ) → i < s → e i ∣ℤ f i
  divides-from f h i l = go (dec_lt i u)
    where
      go : Dec (i < u) → e i ∣ℤ f i
      go (yes k) = rw (ones.ones i k) (one-dvd (f i))
      go (no k) = subst (λ (t : ℕ). e t ∣ℤ f t) (omega arith) (h (i - u) (omega arith))

  -- a combination of the generators as G times a chain
  combined : (ℕ → ℤ) → Chain
  combined c = apply s G (shift u c)

  combination-is : (c : ℕ → ℤ) → Same n (combination (s - u) c (generator u G)) (combined c)
  unfolding generator combined
  combination-is c = record { at = λ i h. combination-shift u (s - u) (omega (arith, ones.bound)) c G i }

  combined-cycle : (c : ℕ → ℤ) → Cycle m n A (combined c)
  unfolding combined
  combined-cycle c = generators-cycle R (shift u c)

  -- the coefficients are coordinates
  combined-coordinate : (c : ℕ → ℤ) (j : ℕ) → j < s - u → apply n Q (combined c) (u + j) ≡ c j
  unfolding combined
  combined-coordinate c j h = (left-inverse-apply R (shift u c)).at (u + j) (omega arith) ∙ shift-above u c j

  pub remainder-boundary : (z : Chain) → Cycle m n A z → (c : ℕ → ℤ) → ((j : ℕ) → j < s - u → e (u + j) ∣ℤ (apply n Q z (u + j) -ℤ c j)) → Boundary n l B (λ i. z i -ℤ combination (s - u) c (generator u G) i)
  remainder-boundary z cycle c h = boundary-same same ((coordinates-decide R z (combined c) cycle (combined-cycle c)).1 divides)
    where
      same : Same n (λ i. z i -ℤ combined c i) (λ i. z i -ℤ combination (s - u) c (generator u G) i)
      same = record { at = λ i l. ap (λ (t : ℤ). z i -ℤ t) (sym ((combination-is c).at i l)) }

      divides : (i : ℕ) → i < s → e i ∣ℤ (apply n Q z i -ℤ apply n Q (combined c) i)
      divides =
          divides-from (λ i. apply n Q z i -ℤ apply n Q (combined c) i) (λ j l. rw (combined-coordinate c j l) (h j l))

  relations : (c : ℕ → ℤ) → Boundary n l B (combination (s - u) c (generator u G)) ↔ ((j : ℕ) → j < s - u → e (u + j) ∣ℤ c j)
  relations c = (forward, backward)
    where
      iff : Boundary n l B (combined c) ↔ ((i : ℕ) → i < s → e i ∣ℤ apply n Q (combined c) i)
      iff = boundary-iff R (combined c) (combined-cycle c)

      forward : Boundary n l B (combination (s - u) c (generator u G)) → (j : ℕ) → j < s - u → e (u + j) ∣ℤ c j
      forward b j h = rw (combined-coordinate c j h) at (iff.0 (boundary-same (combination-is c) b) (u + j) (omega arith))

      backward : ((j : ℕ) → j < s - u → e (u + j) ∣ℤ c j) → Boundary n l B (combination (s - u) c (generator u G))
      backward f = boundary-same (same-sym (combination-is c)) (iff.1 divides)
        where
          divides : (i : ℕ) → i < s → e i ∣ℤ apply n Q (combined c) i
          divides = divides-from (apply n Q (combined c)) (λ j h. rw (combined-coordinate c j h) (f j h))

  spans : (z : Chain) → Cycle m n A z → Spanned n l B (s - u) (generator u G) z
  spans z cycle = record { coefficients = own; remainder = remainder-boundary z cycle own divides }
    where
      own : ℕ → ℤ
      own j = apply n Q z (u + j)

      divides : (j : ℕ) → j < s - u → e (u + j) ∣ℤ (apply n Q z (u + j) -ℤ apply n Q z (u + j))
      divides j h = rw (sub_self (apply n Q z (u + j))) (dvd-zero (e (u + j)))

  cycles : (j : ℕ) → j < s - u → Cycle m n A (generator u G j)
  unfolding generator
  cycles j h = column-cycle R (u + j) (omega arith)

  pub presentation : Presentation m n l A B (s - u) (generator u G) (λ j. e (u + j))
  presentation =
      record {
        cycles = cycles;
        spans = spans;
        relations = relations;
        nonneg = λ j h. R.second.nonneg (u + j);
        proper = λ j h. ones.others (u + j) (omega arith) (omega arith);
        divides-next = λ j h. rw (add-suc u j) (R.second.divides (u + j));
      }
