-- Numbers that read as the coordinates of a cycle after two reductions that are right (`ReadsCoordinates`): equal lists mean homologous cycles
-- (coordinates-decide; coordinates-zero: a list of zeros, a boundary), and a cycle is its coordinates times the reported generators up to a boundary (coordinates-combine);
-- coordinates-nearest: their range.
use mathlib.Core.Path.{◌≡◌, refl, sym, ◌∙◌, ap, subst}
use mathlib.Core.Logic.{◌↔◌}
use mathlib.Core.List.{List, [], ◌∷◌, map}
use Prim.Native.Nat.{ℕ, zero, suc, ◌+◌, ◌-◌, ◌<◌}
use native.Mathlib.Omega.{arith}
use lib.ListN.{get_or}
use lib.IntN.{ℤ, pos, ◌-ℤ◌}
use lib.Signed.{◌<ℤ◌}
use Rattle.integers.specs.Division.{residue, NearestZero}
use Rattle.integers.proofs.Ring.{add-zero}
use Rattle.integers.proofs.Residue.{residue-nearest, residue-of-zero}
use Rattle.matrices.specs.Matrix.{transpose}
use Rattle.matrices.specs.Vector.{apply}
use Rattle.matrices.proofs.VectorLaws.{apply-zero}
use Rattle.homology_groups.specs.Chain.{Chain, Same, combination}
use Rattle.homology_groups.proofs.ChainLaws.{boundary-same}
use Rattle.homology_groups.proofs.Presents.{generator}
use Rattle.homology_groups.proofs.PresentationLaws.{combination-ext}
use Rattle.homology_groups.proofs.CoordinateList.{coordinate, coordinates-equal-iff, coordinates-remainder}
use Rattle.complexes.specs.Complex.{Sections, count}
use Rattle.complexes.specs.Boundary.{boundary}
use Rattle.reduction_steps.specs.Table.{entry}
use Rattle.reduction_steps.specs.State.{State}
use Rattle.reports.specs.Report.{kind, reported, free_rank, torsion_count, coordinate_at, coordinate_list}
use Rattle.answers.specs.Homology.{IsCycle, IsBoundary}
use Rattle.integers.specs.Slot.{slot}
use Rattle.answers.specs.Right.{order_in, generator_in}
use Rattle.answers.proofs.TwoReductions.{Right}
use Rattle.answers.proofs.Numbers.{ones, is-ones, total, coordinate-is}
use Rattle.answers.proofs.ReportRight.{Reads, reads-generator, order_is, order-positive, report-is-right}

-- a list of zeros reads 0
map-zero : (f : ℕ → ℤ) → ((i : ℕ) → f i ≡ pos 0) → (l : List ℕ) (j : ℕ) → get_or (map f l) j (pos 0) ≡ pos 0
map-zero f h [] j = refl
map-zero f h (i ∷ l) zero = h i
map-zero f h (i ∷ l) (suc j) = map-zero f h l j

-- the numbers from place 0 on are the coordinates of z that s rows of Q, rank r and the state x give
pub record ReadsCoordinates (K : Sections) (p s r : ℕ) (x : State) (z : List ℤ) (coordinates : ℕ → ℤ) : Type 0 where
  pub places : (j : ℕ) → j < torsion_count r x + free_rank s r → coordinates j ≡ get_or (coordinate_list (count K p) s x z) j (pos 0)

module _ {K : Sections} {p s r : ℕ} {x : State} (R : Right K p s r x) where
  abbrev n : ℕ
  n = count K p

  abbrev k : ℕ
  k = torsion_count r x + free_rank s r

  abbrev coordinate_of : List ℤ → ℕ → ℤ
  coordinate_of z j = coordinate n (ones R) (kind x) (entry x.row_follower) (slot z) j

  read : {z : List ℤ} {c : ℕ → ℤ} → ReadsCoordinates K p s r x z c → (j : ℕ) → j < k → c j ≡ coordinate_of z j
  read {z} reads j h = reads.places j h ∙ coordinate-is R z j h

  pub coordinates-decide : {y z : List ℤ} {c₁ c₂ : ℕ → ℤ} → ReadsCoordinates K p s r x y c₁ → ReadsCoordinates K p s r x z c₂ → IsCycle K p (slot y) → IsCycle K p (slot z)
      → ((j : ℕ) → j < k → c₁ j ≡ c₂ j) ↔ IsBoundary K p (λ i. slot y i -ℤ slot z i)
  coordinates-decide {y} {z} {c₁} {c₂} reads₁ reads₂ cy cz = (forward, backward)
    where
      iff : ((j : ℕ) → j < s - ones R → coordinate_of y j ≡ coordinate_of z j) ↔ IsBoundary K p (λ i. slot y i -ℤ slot z i)
      iff = coordinates-equal-iff R.reduced (is-ones R) (slot y) (slot z) cy cz

      forward : ((j : ℕ) → j < k → c₁ j ≡ c₂ j) → IsBoundary K p (λ i. slot y i -ℤ slot z i)
      forward h = iff.0 (λ j l.
          let a : j < k = omega (arith, total R) in
          sym (read reads₁ j a) ∙ h j a ∙ read reads₂ j a)

      backward : IsBoundary K p (λ i. slot y i -ℤ slot z i) → (j : ℕ) → j < k → c₁ j ≡ c₂ j
      backward d j l = read reads₁ j l ∙ iff.1 d j (omega (arith, total R)) ∙ sym (read reads₂ j l)

  -- the coordinates of a cycle are 0 exactly where it is a boundary
  pub coordinates-zero : {z : List ℤ} {c : ℕ → ℤ} → ReadsCoordinates K p s r x z c → IsCycle K p (slot z) → ((j : ℕ) → j < k → c j ≡ pos 0) ↔ IsBoundary K p (slot z)
  unfolding coordinate_at coordinate_list
  coordinates-zero {z} {c} reads cycle = (λ h. bounds (iff.0 h), λ b. iff.1 (boundary-same (record { at = λ i l. sym (less_zero (slot z i)) }) b))
    where
      less_zero : (a : ℤ) → a -ℤ pos 0 ≡ a
      less_zero a = add-zero a

      at_zero : (i : ℕ) → coordinate_at n x [] i ≡ pos 0
      at_zero i = ap (λ (a : ℤ). residue a (kind x i)) (apply-zero n (entry x.row_follower) i) ∙ residue-of-zero (kind x i) (R.reduced.second.nonneg i)

      none : ReadsCoordinates K p s r x [] (λ j. pos 0)
      none = record { places = λ j l. sym (map-zero (coordinate_at n x []) at_zero (reported (kind x) s) j) }

      zero-cycle : IsCycle K p (slot [])
      zero-cycle = record { vanishes = λ i l. apply-zero n (boundary K p) i }

      iff : ((j : ℕ) → j < k → c j ≡ pos 0) ↔ IsBoundary K p (λ i. slot z i -ℤ slot [] i)
      iff = coordinates-decide reads none cycle zero-cycle

      bounds : IsBoundary K p (λ i. slot z i -ℤ slot [] i) → IsBoundary K p (slot z)
      bounds = boundary-same (record { at = λ i l. less_zero (slot z i) })

  pub coordinates-combine : {z : List ℤ} {c report : ℕ → ℤ} → ReadsCoordinates K p s r x z c → Reads K p s r x report → IsCycle K p (slot z)
      → IsBoundary K p (λ i. slot z i -ℤ combination k c (generator_in report (torsion_count r x) n) i)
  coordinates-combine {z} {c} {report} reads reported cz = boundary-same (record { at = λ i l. ap (λ (v : ℤ). slot z i -ℤ v) (same.at i l) }) own
    where
      G : ℕ → Chain
      G = generator (ones R) (transpose (entry x.row_inverse))

      own : IsBoundary K p (λ i. slot z i -ℤ combination k (coordinate_of z) G i)
      own = subst (λ (j : ℕ). IsBoundary K p (λ i. slot z i -ℤ combination j (coordinate_of z) G i)) (sym (total R)) (coordinates-remainder R.reduced (is-ones R) (slot z) cz)

      same : Same n (combination k (coordinate_of z) G) (combination k c (generator_in report (torsion_count r x) n))
      same = combination-ext (λ j h. sym (read reads j h)) (reads-generator R reported)

  -- a coordinate of order d lies above -d/2 and up to d/2
  pub coordinates-nearest : {z : List ℤ} {c report : ℕ → ℤ} → ReadsCoordinates K p s r x z c → Reads K p s r x report → (j : ℕ) → j < torsion_count r x
      → NearestZero (order_in report (torsion_count r x) j) (c j)
  unfolding coordinate
  coordinates-nearest {z} {c} {report} reads reported j l =
      subst (λ (v : ℤ). NearestZero (order_in report (torsion_count r x) j) v) (sym (read reads j (omega arith)))
      (subst (λ (d : ℤ). NearestZero d (residue value (kind x (ones R + j)))) (order_is R reported j) (residue-nearest value (kind x (ones R + j)) positive))
    where
      value : ℤ
      value = apply n (entry x.row_follower) (slot z) (ones R + j)

      positive : pos 0 <ℤ kind x (ones R + j)
      positive = subst (λ (d : ℤ). pos 0 <ℤ d) (sym (order_is R reported j)) (order-positive (report-is-right R reported) j l)
