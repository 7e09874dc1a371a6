-- `presentation-unique`: any two presentations of one group have the same number of generators and the same orders.
-- The generators of each are combinations of the other's, up to boundaries; the two matrices of coefficients are inverse to each other
-- modulo the orders, and `block-divides` does the rest (`orders-divide`).
use Prim.Native.Nat.{ℕ, suc, ◌+◌, ◌≤◌, ◌<◌}
use native.Mathlib.Omega.{arith}
use native.Mathlib.Decide.{dec_lt, ℕ_discrete}
use mathlib.Core.Path.{◌≡◌, refl, sym, ◌∙◌, ap, subst}
use mathlib.Core.List.{[], ◌∷◌}
use lib.IntN.{ℤ, pos, ◌+ℤ◌, ◌-ℤ◌, ◌*ℤ◌}
use Rattle.integers.proofs.Ring.{mul-zero, mul-one}
use Rattle.integers.proofs.Solve.{solve, terms}
use Rattle.integers.proofs.Order.{nonneg-is}
use Rattle.integers.proofs.Divides.{dvd_trans, dvd-zero, dvd-one}
use Rattle.integers.specs.Division.{◌∣ℤ◌}
use Rattle.matrices.specs.Matrix.{Matrix, mul, identity}
use Rattle.matrices.proofs.Product.{mul_assoc, sub-mul, mul-sub, mul-scale-left, mul-identity-left, identity-at, identity-other}
use Rattle.smith.proofs.Rectangle.{block-divides}
use Rattle.smith.proofs.Divisors.{dvd-chain, dvd-eq}
use Rattle.homology_groups.specs.Chain.{Chain, Same, Boundary, combination}
use Rattle.homology_groups.proofs.ChainLaws.{boundary-same}
use Rattle.homology_groups.proofs.BoundaryLaws.{boundary-add, boundary-sub, boundary-scale, boundary-combination}
use Rattle.homology_groups.specs.Presentation.{Spanned, Presentation, SameOrders}

-- Generators are the rows of a matrix; the combinations of k of them with the rows of C are the rows of C times it.
combination-mul : (k : ℕ) (C : Matrix) (g : ℕ → Chain) (i a : ℕ) → combination k (C i) g a ≡ mul k C g i a
unfolding combination mul
combination-mul k C g i a = refl

-- row i of C gives generator g i, for i below k, as a combination of the k' generators g', up to a boundary
record Expressed (n l : ℕ) (B : Matrix) (k : ℕ) (g : ℕ → Chain) (k' : ℕ) (g' : ℕ → Chain) : Type 0 where
  C : Matrix
  remainder : (i : ℕ) → i < k → Boundary n l B (λ a. g i a -ℤ mul k' C g' i a)

express : {m n l k k' : ℕ} {A B : Matrix} {g g' : ℕ → Chain} {o o' : ℕ → ℤ} → Presentation m n l A B k g o → Presentation m n l A B k' g' o' → Expressed n l B k g k' g'
unfolding combination mul
express {m} {n} {l} {k} {k'} {A} {B} {g} {g'} P P' = record { C = λ i. pick i (dec_lt i k); remainder = λ i h. pick-remainder i (dec_lt i k) h }
  where
    spanned : (i : ℕ) → i < k → Spanned n l B k' g' (g i)
    spanned i h = P'.spans (g i) (P.cycles i h)

    pick : (i : ℕ) → Dec (i < k) → ℕ → ℤ
    pick i (yes h) = (spanned i h).coefficients
    pick i (no h) = λ j. pos 0

    pick-remainder : (i : ℕ) (h : Dec (i < k)) → i < k → Boundary n l B (λ a. g i a -ℤ combination k' (pick i h) g' a)
    pick-remainder i (yes h) _ = (spanned i h).remainder
    pick-remainder i (no h) h' = absurd (h h')

module _ {m n l k k' : ℕ} {A B : Matrix} {g g' : ℕ → Chain} {o o' : ℕ → ℤ} (P : Presentation m n l A B k g o) (P' : Presentation m n l A B k' g' o') where
  forth : Expressed n l B k g k' g'
  forth = express P P'

  back : Expressed n l B k' g' k g
  back = express P' P

  -- modulo the orders the two matrices are inverse to each other
  inverse : (i j : ℕ) → i < k → j < k → o j ∣ℤ (identity i j -ℤ mul k' forth.C back.C i j)
  inverse i j a b = (P.relations (E i)).0 (boundary-same same sum-boundary) j b
    where
      E : Matrix
      E x y = identity x y -ℤ mul k' forth.C back.C x y

      rest : ℕ → Chain
      rest x y = g' x y -ℤ mul k back.C g x y

      sum-boundary : Boundary n l B (λ x. (g i x -ℤ mul k' forth.C g' i x) +ℤ combination k' (forth.C i) rest x)
      sum-boundary = boundary-add (forth.remainder i a) (boundary-combination k' (forth.C i) rest back.remainder)

      telescope : (x y z : ℤ) → x -ℤ y +ℤ (y -ℤ z) ≡ x -ℤ z
      telescope x y z = solve (x ∷ y ∷ z ∷ []) (search terms depth 16) tt

      same : Same n (λ x. (g i x -ℤ mul k' forth.C g' i x) +ℤ combination k' (forth.C i) rest x) (combination k (E i) g)
      same = record {
        at = λ x _. cc
            (combination-mul k' forth.C rest i x, mul-sub k' forth.C g' (mul k back.C g) i x, telescope (g i x) (mul k' forth.C g' i x) (mul k' forth.C (mul k back.C g) i x), combination-mul k E g i x, sub-mul k identity (mul k' forth.C back.C) g i x, mul-identity-left k g i x a, mul_assoc k' k forth.C back.C g i x);
      }

  -- a multiple of g' j that is a boundary has coefficients divisible by the orders
  multiple : (c : ℤ) (j i : ℕ) → j < k' → i < k → o' j ∣ℤ c → o i ∣ℤ (c *ℤ back.C j i)
  multiple c j i a b h = (P.relations (c_c j)).0 (boundary-same same (boundary-sub left (boundary-scale c (back.remainder j a)))) i b
    where
      c_c : Matrix
      c_c x y = c *ℤ back.C x y

      c_i : Matrix
      c_i x y = c *ℤ identity x y

      unit : (x : ℕ) → Dec (j ≡ x) → o' x ∣ℤ (c *ℤ identity j x)
      unit x (yes e) = subst (λ (y : ℤ). o' x ∣ℤ y) (cc (e, identity-at j, mul-one c)) (subst (λ (y : ℕ). o' y ∣ℤ c) e h)
      unit x (no d) = subst (λ (y : ℤ). o' x ∣ℤ y) (cc (identity-other j x d, mul-zero c)) (dvd-zero (o' x))

      left : Boundary n l B (combination k' (c_i j) g')
      left = (P'.relations (c_i j)).1 (λ x _. unit x (ℕ_discrete j x))

      cancel : (x y : ℤ) → c *ℤ x -ℤ c *ℤ (x -ℤ y) ≡ c *ℤ y
      cancel x y = solve (c ∷ x ∷ y ∷ []) (search terms depth 16) tt

      same : Same n (λ x. combination k' (c_i j) g' x -ℤ c *ℤ (g' j x -ℤ mul k back.C g j x)) (combination k (c_c j) g)
      same = record {
        at = λ x _. cc
            (combination-mul k' c_i g' j x, mul-scale-left k' c identity g' j x, mul-identity-left k' g' j x a, cancel (g' j x) (mul k back.C g j x), combination-mul k c_c g j x, mul-scale-left k c back.C g j x);
      }

  -- If the first r of the k' orders divide c, then so does order b of the k, for every b below k - k' + r.
  orders-divide : (b r : ℕ) (c : ℤ) → r ≤ k' → k' + b < k + r → ((j : ℕ) → j < r → o' j ∣ℤ c) → o b ∣ℤ c
  orders-divide b r c lr lk h =
      block-divides k k' b r forth.C back.C (o b) c lr lk
      (λ i j _ li a lj. dvd_trans (later j a lj) (inverse i j li lj))
      (λ j i a lb li. dvd_trans (later i lb li) (multiple c j i (omega arith) li (h j a)))
    where
      later : (j : ℕ) → b ≤ j → j < k → o b ∣ℤ o j
      later j a lj = dvd-chain k o P.divides-next b j a lj

  -- with fewer generators in the second, the first order would divide 1
  count-le : k ≤ k'
  count-le = go (dec_lt k' k)
    where
      go : Dec (k' < k) → k ≤ k'
      go (yes h) = absurd (P.proper 0 (omega arith) one)
        where
          one : o 0 ≡ pos 1
          one = nonneg-is (P.nonneg 0 (omega arith)) ∙ ap pos (dvd-one (orders-divide 0 0 (pos 1) (omega arith) (omega arith) (λ j a. absurd (omega arith))))
      go (no h) = omega arith

  order-divides : (j : ℕ) → j < k → k ≡ k' → o j ∣ℤ o' j
  order-divides j a e =
      orders-divide j (suc j) (o' j) (omega arith) (omega arith) (λ i b. dvd-chain k' o' P'.divides-next i j (omega arith) (omega arith))

pub presentation-unique : {m n l k k' : ℕ} {A B : Matrix} {g g' : ℕ → Chain} {o o' : ℕ → ℤ} → Presentation m n l A B k g o → Presentation m n l A B k' g' o' → SameOrders k o k' o'
presentation-unique {k} {k'} {o} {o'} P P' = record { count = count; orders = orders }
  where
    count : k ≡ k'
    count = omega (arith, count-le P P', count-le P' P)

    orders : (j : ℕ) → j < k → o j ≡ o' j
    orders j a =
        let a' : j < k' = omega (arith, count) in
        dvd-eq (P.nonneg j a) (P'.nonneg j a') (order-divides P P' j a count) (order-divides P' P j a' (sym count))
