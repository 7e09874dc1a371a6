-- A transform that is kept ends as that of the Smith normal form. Of the first reduction: first_rows_lem, first-rows-inverse; of the second: second-rows,
-- second-rows-inverse, which stand to the right of Q and G, second-columns, second-columns-inverse. Of one that is not kept, of width 0, they say nothing.
use mathlib.Core.Path.{◌∙◌}
use mathlib.Core.Bool.{Bool, true, false, cond}
use Prim.Native.Nat.{ℕ, suc, ◌+◌, ◌-◌}
use native.Mathlib.Nat.{add-sub_cancel_left}
use native.Mathlib.Omega.{arith}
use borrow.Author.Tests.{le-ltb}
use lib.Dec.{ltb}
use lib.ListN.{drop}
use Rattle.matrices.specs.Matrix.{Matrix, Eq, mul, identity, transpose}
use Rattle.matrices.proofs.Product.{Eq-refl, Eq-trans, Eq-transpose, mul-ext, mul-identity-left, mul-identity-right}
use Rattle.complexes.specs.Complex.{Sections, count}
use Rattle.complexes.specs.Boundary.{count_below}
use Rattle.reduction_steps.specs.Table.{Table, entry}
use Rattle.reduction_steps.specs.State.{State}
use Rattle.reduction_laws.specs.Tables.{entry-table}
use Rattle.reduction_laws.proofs.SmithForm.{Reduced}
use Rattle.reports.specs.Reductions.{Transforms, transform, width, beside, width_beside, first_sizes, first_start, second_sizes, second_start}
use Rattle.answers.proofs.TwoReductions.{identity-transpose, times-identity, identity-times}

-- ---- a transform by itself

module _ (n : ℕ) {T X : Matrix} where
  by_rows : (kept : Bool) → Eq n (width kept n) X (mul n T (entry (transform kept n))) → Eq n (width kept n) X T
  by_rows true e = times-identity e
  by_rows false e = record { at = λ i j a b. absurd (omega arith) }

  by-columns : (kept : Bool) → Eq (width kept n) n X (mul n (transpose (entry (transform kept n))) T) → Eq (width kept n) n X T
  by-columns true e = identity-times e
  by-columns false e = record { at = λ i j a b. absurd (omega arith) }

-- ---- a transform to the right of a companion Q

-- the columns from n on
abbrev pub right : ℕ → Matrix → Matrix
right n A i j = A i (n + j)

module _ (m n : ℕ) (Q : Table) where
  right-start : Eq m m (right n (entry (beside true m n Q))) identity
  right-start = record {
    at = λ i j a b.
        entry-table m (n + m) (λ i j. cond (ltb j n) (entry Q i j) (identity i (j - n))) i (n + j) a (omega arith)
        ∙ rw (le-ltb (n + j) n (omega arith), add-sub_cancel_left n j);
  }

  module _ {T X : Matrix} where
    beside-rows : (kept : Bool) → Eq m (width_beside kept m n) X (mul m T (entry (beside kept m n Q))) → Eq m (width kept m) (right n X) T
    unfolding mul
    beside-rows true e =
        Eq-trans {B = mul m T (right n (entry (beside true m n Q)))} (record { at = λ i j a b. e.at i (n + j) a (omega arith) })
        (Eq-trans (mul-ext (Eq-refl m m T) right-start) (record { at = λ i j a b. mul-identity-right m T i j b }))
    beside-rows false e = record { at = λ i j a b. absurd (omega arith) }

    beside-columns : (kept : Bool) → Eq (width_beside kept m n) m (transpose X) (mul m (transpose (entry (beside kept m n Q))) T)
        → Eq (width kept m) m (transpose (right n X)) T
    unfolding mul
    beside-columns true e =
        Eq-trans {B = mul m (transpose (right n (entry (beside true m n Q)))) T} (record { at = λ i j a b. e.at (n + i) j (omega arith) b })
        (Eq-trans (mul-ext (Eq-trans (Eq-transpose right-start) (record { at = λ i j a b. identity-transpose j i })) (Eq-refl m m T))
        (record { at = λ i j a b. mul-identity-left m T i j a }))
    beside-columns false e = record { at = λ i j a b. absurd (omega arith) }

-- ---- the two reductions

module _ {limit : ℕ} (t : Transforms) (K : Sections) (p : ℕ) where
  module _ {r : ℕ} {x : State} (S : Reduced limit (first_sizes t K p) (first_start t K p) r x) where
    pub first_rows_lem : Eq (count_below K p) (width t.first_rows (count_below K p)) (entry x.row_follower) S.U
    unfolding first_start
    first_rows_lem = by_rows (count_below K p) t.first_rows S.row_follower

    pub first-rows-inverse : Eq (width t.first_rows (count_below K p)) (count_below K p) (transpose (entry x.row_inverse)) S.Ui
    unfolding first_start
    first-rows-inverse = by-columns (count_below K p) t.first_rows S.row_inverse

  module _ (r₁ : ℕ) (x₁ : State) {r : ℕ} {x : State} (S : Reduced limit (second_sizes t K p r₁) (second_start t K p r₁ x₁) r x) where
    -- the rows of Q
    abbrev s : ℕ
    s = count K p - r₁

    pub second-rows : Eq s (width t.second_rows s) (right (count K p) (entry x.row_follower)) S.U
    unfolding second_start
    second-rows = beside-rows s (count K p) (drop r₁ x₁.column_inverse) t.second_rows S.row_follower

    pub second-rows-inverse : Eq (width t.second_rows s) s (transpose (right (count K p) (entry x.row_inverse))) S.Ui
    unfolding second_start
    second-rows-inverse = beside-columns s (count K p) (drop r₁ x₁.column_follower) t.second_rows S.row_inverse

    pub second-columns : Eq (width t.second_columns (count K (suc p))) (count K (suc p)) (transpose (entry x.column_follower)) S.C
    unfolding second_start
    second-columns = by-columns (count K (suc p)) t.second_columns S.column_follower

    pub second-columns-inverse : Eq (count K (suc p)) (width t.second_columns_inverse (count K (suc p))) (entry x.column_inverse) S.Ci
    unfolding second_start
    second-columns-inverse = by_rows (count K (suc p)) t.second_columns_inverse S.column_inverse
