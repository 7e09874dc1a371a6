-- Chains as combinations of generators that present the group.
-- `coefficients-congruent`: two lists of coefficients whose combinations differ from one chain by boundaries differ by multiples of the orders.
-- `multiple-remainder`: a multiple of a generator, less another multiple of it, is a boundary where the order divides their difference.
use Prim.Native.Nat.{ℕ, ◌<◌}
use native.Mathlib.Decide.{ℕ_discrete}
use mathlib.Core.Path.{◌≡◌, refl, sym, ◌∙◌, ap, ap₂, subst}
use mathlib.Core.Logic.{◌≢◌}
use mathlib.Core.Bool.{cond}
use mathlib.Core.List.{[], ◌∷◌}
use lib.Dec.{eqb}
use lib.IntN.{ℤ, pos, ◌-ℤ◌, ◌*ℤ◌}
use borrow.Author.Tests.{eq-eqb, ne_eqb}
use Rattle.integers.proofs.Ring.{zero-mul, sub-mul}
use Rattle.integers.proofs.Solve.{solve, terms}
use Rattle.integers.proofs.Divides.{dvd-zero}
use Rattle.integers.specs.Division.{◌∣ℤ◌}
use Rattle.matrices.specs.Matrix.{Matrix}
use Rattle.matrices.proofs.SumLaws.{sum-ext, sum-sub, sum-single}
use Rattle.homology_groups.specs.Chain.{Chain, Boundary, combination}
use Rattle.homology_groups.proofs.ChainLaws.{boundary-same}
use Rattle.homology_groups.proofs.BoundaryLaws.{boundary-sub}
use Rattle.homology_groups.specs.Presentation.{Presentation}

-- v at place j and 0 elsewhere
abbrev pub single : ℕ → ℤ → ℕ → ℤ
single j v i = cond (eqb i j) v (pos 0)

pub single-at : (j : ℕ) (v : ℤ) → single j v j ≡ v
single-at j v = rw (eq-eqb j j refl)

pub single-other : (j : ℕ) (v : ℤ) (i : ℕ) → i ≢ j → single j v i ≡ pos 0
single-other j v i h = rw (ne_eqb i j h)

combination-single : (k j : ℕ) (v : ℤ) (g : ℕ → Chain) (i : ℕ) → j < k → combination k (single j v) g i ≡ v *ℤ g j i
unfolding combination
combination-single k j v g i h =
    sum-single k j (λ a. single j v a *ℤ g a i) h (λ a l d. ap (λ (x : ℤ). x *ℤ g a i) (single-other j v a d) ∙ zero-mul (g a i))
    ∙ ap (λ (x : ℤ). x *ℤ g j i) (single-at j v)

combination-sub : (k : ℕ) (c e : ℕ → ℤ) (g : ℕ → Chain) (i : ℕ) → combination k (λ j. c j -ℤ e j) g i ≡ combination k c g i -ℤ combination k e g i
unfolding combination
combination-sub k c e g i =
    sum-ext k (λ j. (c j -ℤ e j) *ℤ g j i) (λ j. c j *ℤ g j i -ℤ e j *ℤ g j i) (λ j l. sub-mul (c j) (e j) (g j i))
    ∙ sum-sub k (λ j. c j *ℤ g j i) (λ j. e j *ℤ g j i)

module _ {m n l k : ℕ} {A B : Matrix} {g : ℕ → Chain} {o : ℕ → ℤ} (P : Presentation m n l A B k g o) where
  pub coefficients-congruent : (z : Chain) (c e : ℕ → ℤ) → Boundary n l B (λ i. z i -ℤ combination k c g i) → Boundary n l B (λ i. z i -ℤ combination k e g i)
      → (j : ℕ) → j < k → o j ∣ℤ (c j -ℤ e j)
  coefficients-congruent z c e of_c of-e = (P.relations (λ j. c j -ℤ e j)).0 (boundary-same (record { at = λ i h. same i }) (boundary-sub of-e of_c))
    where
      differ : (z x y : ℤ) → z -ℤ y -ℤ (z -ℤ x) ≡ x -ℤ y
      differ z x y = solve (z ∷ x ∷ y ∷ []) (search terms depth 16) tt

      same : (i : ℕ) → z i -ℤ combination k e g i -ℤ (z i -ℤ combination k c g i) ≡ combination k (λ j. c j -ℤ e j) g i
      same i = differ (z i) (combination k c g i) (combination k e g i) ∙ sym (combination-sub k c e g i)

  pub multiple-remainder : (z : Chain) (j : ℕ) → j < k → (w v : ℤ) → o j ∣ℤ (w -ℤ v) → ((i : ℕ) → i < n → z i ≡ w *ℤ g j i)
      → Boundary n l B (λ i. z i -ℤ combination k (single j v) g i)
  multiple-remainder z j h w v d is = boundary-same (record { at = same }) ((P.relations (single j (w -ℤ v))).1 divides)
    where
      divides : (i : ℕ) → i < k → o i ∣ℤ single j (w -ℤ v) i
      divides i a = pick (ℕ_discrete i j)
        where
          pick : Dec (i ≡ j) → o i ∣ℤ single j (w -ℤ v) i
          pick (yes e) = subst (λ (x : ℕ). o x ∣ℤ single j (w -ℤ v) x) (sym e) (rw (single-at j (w -ℤ v)) d)
          pick (no f) = rw (single-other j (w -ℤ v) i f) (dvd-zero (o i))

      same : (i : ℕ) → i < n → combination k (single j (w -ℤ v)) g i ≡ z i -ℤ combination k (single j v) g i
      same i a =
          combination-single k j (w -ℤ v) g i h
          ∙ sub-mul w v (g j i)
          ∙ sym (ap₂ ◌-ℤ◌ (is i a) (combination-single k j v g i h))
