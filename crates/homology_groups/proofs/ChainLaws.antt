-- Laws of chains that agree at n places, and of a matrix times such chains: `apply-same`, `apply-eq`, `apply-zeros`, `inverse-apply`,
-- `inverse-cancel`. `eq-of-apply`: matrices that agree on every chain agree.
-- Cycles and boundaries: `cycle-same`, `cycle-sub`, `boundary-same`, `boundary-cycle`.
use Prim.Native.Nat.{ℕ, ◌<◌}
use mathlib.Core.Path.{◌≡◌, refl, sym, ◌∙◌, ap}
use lib.IntN.{ℤ, pos, ◌-ℤ◌}
use Rattle.matrices.specs.Matrix.{Matrix, Eq, mul, identity, null}
use Rattle.matrices.proofs.Product.{mul-identity-right}
use Rattle.matrices.proofs.Inverse.{InversePair}
use Rattle.matrices.specs.Vector.{apply}
use Rattle.matrices.proofs.VectorLaws.{mul_apply, apply-ext, apply-mul, apply-null, apply-zero, apply-sub, apply-cancel}
use Rattle.homology_groups.specs.Chain.{Chain, Same, Cycle, Boundary}

pub same-sym : {n : ℕ} {x y : Chain} → Same n x y → Same n y x
same-sym e = record { at = λ i h. sym (e.at i h) }

pub same-trans : {n : ℕ} {x y z : Chain} → Same n x y → Same n y z → Same n x z
same-trans e f = record { at = λ i h. e.at i h ∙ f.at i h }

-- ---- a matrix times a chain

pub apply-same : {n : ℕ} (A : Matrix) {x y : Chain} → Same n x y → (i : ℕ) → apply n A x i ≡ apply n A y i
apply-same {n} A {x} {y} e i = apply-ext n A A x y i (λ k h. refl) e.at

pub same-apply : (m : ℕ) {n : ℕ} (A : Matrix) {x y : Chain} → Same n x y → Same m (apply n A x) (apply n A y)
same-apply m A e = record { at = λ i h. apply-same A e i }

pub apply-eq : {m n : ℕ} {A B : Matrix} → Eq m n A B → (x : Chain) → Same m (apply n A x) (apply n B x)
apply-eq {m} {n} {A} {B} e x = record { at = λ i h. apply-ext n A B x x i (λ k l. e.at i k h l) (λ k l. refl) }

-- a matrix times a chain of zeros
pub apply-zeros : (n : ℕ) (A : Matrix) (x : Chain) → ((j : ℕ) → j < n → x j ≡ pos 0) → (i : ℕ) → apply n A x i ≡ pos 0
apply-zeros n A x h i = apply-same A {y = λ _. pos 0} (record { at = h }) i ∙ apply-zero n A i

-- column j of a matrix is the matrix times column j of the identity
pub apply-unit : (n : ℕ) (A : Matrix) (j i : ℕ) → j < n → apply n A (λ k. identity k j) i ≡ A i j
apply-unit n A j i h = sym (mul_apply n A identity i j) ∙ mul-identity-right n A i j h

pub eq-of-apply : {m n : ℕ} {A B : Matrix} → ((x : Chain) → Same m (apply n A x) (apply n B x)) → Eq m n A B
eq-of-apply {m} {n} {A} {B} f =
    record { at = λ i j h k. sym (apply-unit n A j i k) ∙ (f (λ a. identity a j)).at i h ∙ apply-unit n B j i k }

pub inverse-apply : {n : ℕ} {U Ui : Matrix} → InversePair n U Ui → (x : Chain) → Same n (apply n Ui (apply n U x)) x
inverse-apply {n} {U} {Ui} p x = record { at = apply-cancel n Ui U p.left x }

pub inverse-cancel : {n : ℕ} {U Ui : Matrix} {x y : Chain} → InversePair n U Ui → Same n (apply n U x) (apply n U y) → Same n x y
inverse-cancel {n} {U} {Ui} {x} {y} p e =
    record { at = λ i h. sym ((inverse-apply p x).at i h) ∙ apply-same Ui e i ∙ (inverse-apply p y).at i h }

-- ---- cycles and boundaries

pub cycle-same : {m n : ℕ} {A : Matrix} {x y : Chain} → Same n x y → Cycle m n A x → Cycle m n A y
cycle-same {A = A} e c = record { vanishes = λ i h. apply-same A (same-sym e) i ∙ c.vanishes i h }

pub cycle-sub : {m n : ℕ} {A : Matrix} {x y : Chain} → Cycle m n A x → Cycle m n A y → Cycle m n A (λ i. x i -ℤ y i)
cycle-sub {n = n} {A = A} {x = x} {y = y} a b =
    record {
      vanishes = λ i h.
          apply-sub n A x y i
          ∙ ap (λ (t : ℤ). t -ℤ apply n A y i) (a.vanishes i h)
          ∙ ap (λ (t : ℤ). pos 0 -ℤ t) (b.vanishes i h);
    }

pub boundary-same : {n l : ℕ} {B : Matrix} {x y : Chain} → Same n x y → Boundary n l B x → Boundary n l B y
boundary-same e b = record { filling = b.filling; fills = same-trans b.fills e }

-- where A B = 0, boundaries of B are cycles of A
pub boundary-cycle : {m n l : ℕ} {A B : Matrix} {z : Chain} → Eq m l (mul n A B) null → Boundary n l B z → Cycle m n A z
boundary-cycle {m} {n} {l} {A} {B} {z} e b = cycle-same b.fills (record { vanishes = vanishes })
  where
    vanishes : (i : ℕ) → i < m → apply n A (apply l B b.filling) i ≡ pos 0
    vanishes i h = sym (apply-mul n l A B b.filling i) ∙ (apply-eq e b.filling).at i h ∙ apply-null l b.filling i
