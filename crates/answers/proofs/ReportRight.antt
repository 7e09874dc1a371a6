-- Numbers that read as the report of two reductions that are right (`Reads`) are a right report: report-is-right, has-counts.
-- `order-free`, `order-positive`: an order is 0 behind the t orders and positive before. `counts-unique`: reports that are right agree on the free rank
-- and the number of orders.
use mathlib.Core.Path.{◌≡◌, refl, sym, ◌∙◌, ap, subst}
use mathlib.Core.Bool.{Bool, cond}
use Prim.Native.Nat.{ℕ, suc, ◌+◌, ◌*◌, ◌≤◌, ◌<◌}
use native.Mathlib.Nat.{suc-mul, mul-le-mul_right}
use native.Mathlib.Omega.{arith}
use native.Mathlib.Decide.{dec_le, dec_lt}
use borrow.Author.Tests.{lt-ltb, le-ltb}
use lib.ListN.{get_or}
use lib.IntN.{ℤ, pos}
use lib.Signed.{◌<ℤ◌, <ℤ-≤ℤ_trans}
use Rattle.integers.proofs.Order.{lt-pos, pos-lt, le_of_lt}
use Rattle.matrices.specs.Matrix.{transpose}
use Rattle.smith.proofs.Rank.{order-above-one}
use Rattle.homology_groups.specs.Chain.{Same}
use Rattle.homology_groups.proofs.Presents.{generator, presentation}
use Rattle.homology_groups.proofs.PresentationLaws.{presentation-ext}
use Rattle.homology_groups.specs.Presentation.{SameOrders}
use Rattle.homology_groups.proofs.Unique.{presentation-unique}
use Rattle.complexes.specs.Complex.{Sections, count}
use Rattle.reduction_steps.specs.Table.{entry}
use Rattle.reduction_steps.specs.State.{State}
use Rattle.reports.specs.Report.{kind, free_rank, torsion_count, report_list}
use Rattle.reports.proofs.ReportLaws.{get_or-report-free, get_or-report-torsion}
use Rattle.answers.specs.Homology.{Presents}
use Rattle.integers.specs.Slot.{slot}
use Rattle.answers.specs.Right.{order_in, generator_in, IsRight, HasCounts, report_length}
use Rattle.answers.proofs.TwoReductions.{Right}
use Rattle.answers.proofs.Numbers.{ones, is-ones, ones-bound, torsion-is, total, report-order, report-generator}

-- slot i of generator j lies within k generators of n coefficients
slot-below : (j k i n : ℕ) → j < k → i < n → j * n + i < k * n
slot-below j k i n a b = omega (arith, suc-mul j n, mul-le-mul_right {m = suc j} {n = k} n a)

-- the generators after the t orders are free
pub order-free : (report : ℕ → ℤ) (t j : ℕ) → t ≤ j → order_in report t j ≡ pos 0
order-free report t j h = ap (λ (c : Bool). cond c (report (2 + j)) (pos 0)) (le-ltb j t h)

-- the numbers from slot 0 on are those of the report that s rows of Q, rank r and the state x give
pub record Reads (K : Sections) (p s r : ℕ) (x : State) (report : ℕ → ℤ) : Type 0 where
  pub slots : (i : ℕ) → i < report_length K p (free_rank s r) (torsion_count r x) → report i ≡ get_or (report_list (count K p) s r x) i (pos 0)

module _ {K : Sections} {p s r : ℕ} {x : State} (R : Right K p s r x) where
  abbrev n : ℕ
  n = count K p

  abbrev t : ℕ
  t = torsion_count r x

  abbrev f : ℕ
  f = free_rank s r

  abbrev u : ℕ
  u = ones R

  module _ {report : ℕ → ℤ} (reads : Reads K p s r x report) where
    pub reads-generator : (j : ℕ) → j < t + f → Same n (generator u (transpose (entry x.row_inverse)) j) (generator_in report t n j)
    unfolding generator
    reads-generator j h = record {
      at = λ i l. sym (reads.slots (2 + t + j * n + i) (omega (arith, slot-below j (t + f) i n h l)) ∙ report-generator R j i h l);
    }

    reads-order : (j : ℕ) → j < t → order_in report t j ≡ kind x (u + j)
    reads-order j h = ap (λ (c : Bool). cond c (report (2 + j)) (pos 0)) (lt-ltb j t h) ∙ reads.slots (2 + j) (omega arith) ∙ report-order R j h

    pub order_is : (j : ℕ) → kind x (u + j) ≡ order_in report t j
    order_is j = go (dec_lt j t)
      where
        go : Dec (j < t) → kind x (u + j) ≡ order_in report t j
        go (yes h) = sym (reads-order j h)
        go (no h) = R.rank.zeros (u + j) (omega (arith, torsion-is R, ones-bound R)) ∙ sym (order-free report t j (omega arith))

    presents : Presents K p (t + f) (generator_in report t n) (order_in report t)
    presents =
        presentation-ext reads-generator (λ j h. order_is j)
        (subst (λ (k : ℕ). Presents K p k (generator u (transpose (entry x.row_inverse))) (λ j. kind x (u + j))) (sym (total R)) (presentation R.reduced (is-ones R)))

    pub report-is-right : IsRight K p f t report
    report-is-right = record {
      free-rank = reads.slots 0 (omega arith) ∙ get_or-report-free n s r x;
      orders-count = reads.slots 1 (omega arith) ∙ get_or-report-torsion n s r x;
      order-above-one = λ j h.
          subst (λ (o : ℤ). pos 1 <ℤ o) (order_is j)
          (order-above-one R.reduced.second (is-ones R) R.rank (u + j) (omega arith)
          (omega (arith, torsion-is R, R.rank-bound)) (omega (arith, torsion-is R)));
      presents = presents;
      only = λ k g o P. presentation-unique presents P;
    }

  -- the report's counts are the group's
  pub has-counts : HasCounts K p f t
  has-counts = record { report = slot (report_list n s r x); is_right = report-is-right (record { slots = λ i l. refl }) }

-- ---- the counts are the group's alone

module _ {K : Sections} {p f t f' t' : ℕ} {r r' : ℕ → ℤ} where
  -- no report that is right has fewer orders than another
  orders-le : IsRight K p f t r → IsRight K p f' t' r' → t' ≤ t
  orders-le a b = go (dec_le t' t)
    where
      same : SameOrders (t + f) (order_in r t) (t' + f') (order_in r' t')
      same = a.only (t' + f') (generator_in r' t' (count K p)) (order_in r' t') b.presents

      -- order t, free in the first, exceeds 1 in the second
      free : t < t' → order_in r' t' t ≡ pos 0
      free l = sym (same.orders t (omega (arith, same.count))) ∙ order-free r t t (omega arith)

      go : Dec (t' ≤ t) → t' ≤ t
      go (yes h) = h
      go (no h) = absurd (one≮zero (subst (λ (o : ℤ). pos 1 <ℤ o) (free (omega arith)) (b.order-above-one t (omega arith))))
        where
          one≮zero : pos 1 <ℤ pos 0 → ⊥
          one≮zero l = omega (arith, pos-lt l)

-- an order is positive
pub order-positive : {K : Sections} {p f t : ℕ} {report : ℕ → ℤ} → IsRight K p f t report → (j : ℕ) → j < t → pos 0 <ℤ order_in report t j
order-positive right j h = <ℤ-≤ℤ_trans (lt-pos {m = 0} {n = 1} (omega arith)) (le_of_lt (right.order-above-one j h))

pub counts-unique : {K : Sections} {p f t f' t' : ℕ} → HasCounts K p f t → HasCounts K p f' t' → (f ≡ f') × (t ≡ t')
counts-unique {K} {p} {f} {t} {f'} {t'} a b = (omega (arith, same, total-is), same)
  where
    same : t ≡ t'
    same = omega (arith, orders-le a.is_right b.is_right, orders-le b.is_right a.is_right)

    total-is : t + f ≡ t' + f'
    total-is = (a.is_right.only (t' + f') (generator_in b.report t' (count K p)) (order_in b.report t') b.is_right.presents).count
