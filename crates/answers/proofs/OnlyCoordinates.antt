-- `Represents`: numbers, those of the orders in the range of Note 5 of document 02, such that a chain less their combination with the generators of a
-- right report is a boundary. `represents-only`: a chain has one such list; `multiple-represents`: that of a multiple of a generator.
use mathlib.Core.Path.{◌≡◌, sym, subst}
use Prim.Native.Nat.{ℕ, ◌+◌, ◌<◌}
use native.Mathlib.Omega.{arith}
use native.Mathlib.Decide.{dec_lt, ℕ_discrete}
use lib.IntN.{ℤ, ◌-ℤ◌, ◌*ℤ◌}
use Rattle.integers.proofs.Order.{eq-of-sub}
use Rattle.integers.proofs.Divides.{zero-dvd}
use Rattle.integers.specs.Division.{◌∣ℤ◌, residue, NearestZero}
use Rattle.integers.proofs.Residue.{residue-nearest, residue-dvd, nearest_zero, nearest-same}
use Rattle.homology_groups.specs.Chain.{Chain, combination}
use Rattle.homology_groups.proofs.Coefficients.{single, single-at, single-other, coefficients-congruent, multiple-remainder}
use Rattle.complexes.specs.Complex.{Sections, count}
use Rattle.answers.specs.Homology.{IsBoundary}
use Rattle.answers.specs.Right.{order_in, generator_in, IsRight}
use Rattle.answers.proofs.ReportRight.{order-free, order-positive}

pub record Represents (K : Sections) (p f t : ℕ) (report : ℕ → ℤ) (z : Chain) (c : ℕ → ℤ) : Type 0 where
  pub nearest : (j : ℕ) → j < t → NearestZero (order_in report t j) (c j)
  pub remainder : IsBoundary K p (λ i. z i -ℤ combination (t + f) c (generator_in report t (count K p)) i)

module _ {K : Sections} {p f t : ℕ} {report : ℕ → ℤ} (right : IsRight K p f t report) where
  abbrev order : ℕ → ℤ
  order = order_in report t

  pub represents-only : {z : Chain} {c e : ℕ → ℤ} → Represents K p f t report z c → Represents K p f t report z e → (j : ℕ) → j < t + f → e j ≡ c j
  represents-only {z} {c} {e} of_c of-e j h = pick (dec_lt j t)
    where
      congruent : order j ∣ℤ (c j -ℤ e j)
      congruent = coefficients-congruent right.presents z c e of_c.remainder of-e.remainder j h

      pick : Dec (j < t) → e j ≡ c j
      pick (yes l) = sym (nearest-same (order j) (c j) (e j) (of_c.nearest j l) (of-e.nearest j l) congruent)
      pick (no l) = sym (eq-of-sub (c j) (e j) (zero-dvd (subst (λ (d : ℤ). d ∣ℤ (c j -ℤ e j)) (order-free report t j (omega arith)) congruent)))

  pub multiple-represents : (z : Chain) (j : ℕ) → j < t + f → (w : ℤ) → ((i : ℕ) → i < count K p → z i ≡ w *ℤ generator_in report t (count K p) j i)
      → Represents K p f t report z (single j (residue w (order j)))
  multiple-represents z j h w is = record {
    nearest = λ i l. nearest i l (ℕ_discrete i j);
    remainder = multiple-remainder right.presents z j h w (residue w (order j)) (residue-dvd w (order j)) is;
  }
    where
      nearest : (i : ℕ) → i < t → Dec (i ≡ j) → NearestZero (order i) (single j (residue w (order j)) i)
      nearest i l (yes e) =
          subst (λ (a : ℕ). NearestZero (order a) (single j (residue w (order j)) a)) (sym e)
          (rw (single-at j (residue w (order j))) (residue-nearest w (order j) (order-positive right j (subst (λ (a : ℕ). a < t) e l))))
      nearest i l (no d) = rw (single-other j (residue w (order j)) i d) (nearest_zero (order i) (order-positive right i l))
