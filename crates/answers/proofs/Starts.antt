-- The two reductions start with tables of the right sizes and within the limit, whatever transforms are kept: first-shaped, first-within, second-shaped,
-- second-within. beside-left, beside-width: where Q and G stand when a transform stands beside them.
use mathlib.Core.Path.{◌≡◌, sym, ◌∙◌, ap}
use mathlib.Core.Bool.{Bool, true, false, cond}
use mathlib.Core.List.{List, []}
use Prim.Native.Nat.{ℕ, zero, suc, ◌+◌, ◌-◌, ◌≤◌, zero-le}
use native.Mathlib.Nat.{sub-zero, zero-sub, suc-sub-suc, zero-add, suc-add, le_refl, le_trans}
use native.Mathlib.Omega.{arith}
use native.Mathlib.Decide.{ℕ_discrete}
use borrow.Author.Tests.{lt-ltb}
use lib.Dec.{ltb}
use lib.ListN.{get_or, drop}
use lib.Seq.{get_or-drop}
use lib.IntN.{ℤ, pos, nat_abs}
use Rattle.lists.specs.Tabulate.{tabulate}
use Rattle.matrices.specs.Matrix.{Eq, mul, identity, null}
use Rattle.matrices.proofs.Product.{Eq-refl, identity-at, identity-other}
use Rattle.complexes.specs.Complex.{Sections, count}
use Rattle.complexes.specs.Boundary.{count_below, boundary}
use Rattle.complexes.proofs.ChainComplex.{ChainComplex}
use Rattle.reduction_steps.specs.Table.{Table, entry, table, table_within}
use Rattle.reduction_steps.specs.State.{State, within}
use Rattle.reduction_laws.specs.Tables.{entry-table, table-ext, table-entry, table_within-iff, table_within-table}
use Rattle.reduction_laws.specs.Shape.{Shaped, within-iff}
use Rattle.reports.specs.Reductions.{Transforms, transform, width, beside, width_beside, first_sizes, first_start, second_sizes, second_start, product}

-- ---- lines from r on

drop-tabulate {ℓ} : {A : Type ℓ} (r m : ℕ) (f : ℕ → A) → drop r (tabulate m f) ≡ tabulate (m - r) (λ i. f (r + i))
unfolding tabulate
drop-tabulate zero m f = simp (sub-zero, zero-add)
drop-tabulate (suc r) zero f = simp zero-sub
drop-tabulate (suc r) (suc m) f = simp (suc-sub-suc, suc-add) (drop-tabulate r m (λ i. f (suc i)))

pub entry-drop : (r : ℕ) (T : Table) (i j : ℕ) → entry (drop r T) i j ≡ entry T (r + i) j
entry-drop r T i j = ap (λ (l : List ℤ). get_or l j (pos 0)) (get_or-drop r T i [])

drop-shaped : (r m n : ℕ) (T : Table) → T ≡ table m n (entry T) → drop r T ≡ table (m - r) n (entry (drop r T))
unfolding table
drop-shaped r m n T e =
    ap (drop r) e
    ∙ drop-tabulate r m (λ i. tabulate n (λ j. entry T i j))
    ∙ table-ext (record { at = λ i j a b. sym (entry-drop r T i j) })

drop-within : (limit r : ℕ) (T : Table) → table_within limit T ≡ true → table_within limit (drop r T) ≡ true
drop-within limit r T h =
    (table_within-iff limit (drop r T)).1 (λ i j. rw (entry-drop r T i j) ((table_within-iff limit T).0 h (r + i) j))

-- ---- transforms

identity-small : (i j : ℕ) → nat_abs (identity i j) ≤ 1
identity-small i j = go (ℕ_discrete i j)
  where
    go : Dec (i ≡ j) → nat_abs (identity i j) ≤ 1
    go (yes e) = rw (← e, identity-at i) (omega arith)
    go (no d) = rw (identity-other i j d) zero-le

identity-within : (limit n : ℕ) → 1 ≤ limit → table_within limit (table n n identity) ≡ true
identity-within limit n h = (table_within-table limit n n identity).1 (λ i j a b. le_trans (identity-small i j) h)

transform-shaped : (kept : Bool) (n : ℕ) → transform kept n ≡ table n (width kept n) (entry (transform kept n))
transform-shaped true n = sym (table-entry n n identity)
transform-shaped false n = sym (table-entry n 0 null)

transform-within : (kept : Bool) (limit n : ℕ) → 1 ≤ limit → table_within limit (transform kept n) ≡ true
transform-within true limit n h = identity-within limit n h
transform-within false limit n h = (table_within-table limit n 0 null).1 (λ i j a b. absurd (omega arith))

module _ (m n : ℕ) (T : Table) where
  beside-shaped : (kept : Bool) → T ≡ table m n (entry T) → beside kept m n T ≡ table m (width_beside kept m n) (entry (beside kept m n T))
  beside-shaped true e = sym (table-entry m (n + m) (λ i j. cond (ltb j n) (entry T i j) (identity i (j - n))))
  beside-shaped false e = e

  beside-within : (kept : Bool) (limit : ℕ) → 1 ≤ limit → table_within limit T ≡ true → table_within limit (beside kept m n T) ≡ true
  beside-within true limit one h =
      (table_within-table limit m (n + m) (λ i j. cond (ltb j n) (entry T i j) (identity i (j - n)))).1 (λ i j a b. go i j (ltb j n))
    where
      go : (i j : ℕ) (left : Bool) → nat_abs (cond left (entry T i j) (identity i (j - n))) ≤ limit
      go i j true = (table_within-iff limit T).0 h i j
      go i j false = le_trans (identity-small i (j - n)) one
  beside-within false limit one h = h

  -- T stands in the first n columns
  pub beside-left : (kept : Bool) → Eq m n (entry (beside kept m n T)) (entry T)
  beside-left true = record {
    at = λ i j a b.
        entry-table m (n + m) (λ i j. cond (ltb j n) (entry T i j) (identity i (j - n))) i j a (omega arith) ∙ rw (lt-ltb j n b);
  }
  beside-left false = Eq-refl m n (entry T)

pub beside-width : (kept : Bool) (m n : ℕ) → n ≤ width_beside kept m n
beside-width true m n = omega arith
beside-width false m n = le_refl n

-- ---- the first reduction

pub first-shaped : (t : Transforms) (K : Sections) (p : ℕ) → Shaped (first_sizes t K p) (first_start t K p)
unfolding first_start
first-shaped t K p = record {
  matrix = sym (table-entry (count_below K p) (count K p) (boundary K p));
  row_follower = transform-shaped t.first_rows (count_below K p);
  row_inverse = transform-shaped t.first_rows (count_below K p);
  column_follower = sym (table-entry (count K p) (count K p) identity);
  column_inverse = sym (table-entry (count K p) (count K p) identity);
}

pub first-within : (t : Transforms) {most : ℕ} {K : Sections} → ChainComplex most K → (limit p : ℕ) → 1 ≤ limit → within limit (first_start t K p) ≡ true
unfolding first_start
first-within t {K} chains limit p h = (within-iff limit (first_start t K p)).1 (record {
  matrix = (table_within-table limit (count_below K p) (count K p) (boundary K p)).1 (λ i j a b. le_trans (chains.small p i j) h);
  row_follower = transform-within t.first_rows limit (count_below K p) h;
  row_inverse = transform-within t.first_rows limit (count_below K p) h;
  column_follower = identity-within limit (count K p) h;
  column_inverse = identity-within limit (count K p) h;
})

-- ---- the second

module _ (t : Transforms) (K : Sections) (p r : ℕ) (s : State) where
  pub second-shaped : Shaped (first_sizes t K p) s → Shaped (second_sizes t K p r) (second_start t K p r s)
  unfolding second_start product
  second-shaped h = record {
    matrix = sym (table-entry (count K p - r) (count K (suc p)) (mul (count K p) (entry (drop r s.column_inverse)) (boundary K (suc p))));
    row_follower =
        beside-shaped (count K p - r) (count K p) (drop r s.column_inverse) t.second_rows
        (drop-shaped r (count K p) (count K p) s.column_inverse h.column_inverse);
    row_inverse =
        beside-shaped (count K p - r) (count K p) (drop r s.column_follower) t.second_rows
        (drop-shaped r (count K p) (count K p) s.column_follower h.column_follower);
    column_follower = transform-shaped t.second_columns (count K (suc p));
    column_inverse = transform-shaped t.second_columns_inverse (count K (suc p));
  }

  pub second-within : (limit : ℕ) → 1 ≤ limit → within limit s ≡ true → table_within limit (product K p r s) ≡ true → within limit (second_start t K p r s) ≡ true
  unfolding second_start
  second-within limit one h e =
      let all = (within-iff limit s).0 h in
      (within-iff limit (second_start t K p r s)).1 (record {
        matrix = e;
        row_follower =
            beside-within (count K p - r) (count K p) (drop r s.column_inverse) t.second_rows limit one
            (drop-within limit r s.column_inverse all.column_inverse);
        row_inverse =
            beside-within (count K p - r) (count K p) (drop r s.column_follower) t.second_rows limit one
            (drop-within limit r s.column_follower all.column_follower);
        column_follower = transform-within t.second_columns limit (count K (suc p)) one;
        column_inverse = transform-within t.second_columns_inverse limit (count K (suc p)) one;
      })
