-- The two reductions of a dimension of a chain complex, both done, leave what `homology_groups` asks for (reductions-right), within the limit
-- (reductions-within).
use mathlib.Core.Path.{◌≡◌, refl, sym, ◌∙◌, subst}
use mathlib.Core.Bool.{true}
use Prim.Native.Nat.{ℕ, suc, ◌+◌, ◌-◌, ◌≤◌}
use native.Mathlib.Nat.{le_trans, min-le_left, min-le_right}
use native.Mathlib.Omega.{arith}
use native.Mathlib.Decide.{ℕ_discrete}
use lib.ListN.{drop}
use Rattle.matrices.specs.Matrix.{Matrix, Eq, mul, identity, transpose}
use Rattle.matrices.proofs.Product.{Eq-refl, Eq-trans, Eq-transpose, identity-other, mul-ext, mul-identity-left, mul-identity-right}
use Rattle.smith.proofs.CertificateLaws.{smith-ext}
use Rattle.smith.proofs.Rank.{IsRank}
use Rattle.homology_groups.proofs.Reduced.{Reduced, kernel_basis, kernel_rows}
use Rattle.complexes.specs.Complex.{Sections, count}
use Rattle.complexes.specs.Boundary.{count_below, boundary}
use Rattle.complexes.proofs.ChainComplex.{ChainComplex}
use Rattle.reduction_steps.specs.Table.{Table, entry, table}
use Rattle.reduction_steps.specs.State.{State, within}
use Rattle.reduction_steps.specs.Pivot.{Rule, IsRule}
use Rattle.reduction_steps.specs.Step.{done, reduce}
use Rattle.reduction_laws.specs.Tables.{Eq-table}
use Rattle.reduction_laws.proofs.SmithForm as machine
use Rattle.reduction_laws.proofs.SmithForm.{reduce-smith}
use Rattle.reports.specs.Reductions.{Transforms, first_sizes, first_start, second_sizes, second_start, product, reduced, reductions}
use Rattle.reports.proofs.ReductionsLaws.{BothDone, reductions-done}
use Rattle.reports.specs.Report.{kind}
use Rattle.answers.proofs.Starts.{first-shaped, first-within, second-shaped, second-within, entry-drop, beside-left, beside-width}

-- s rows of Q, rank r and the state x are right for dimension p of K
pub record Right (K : Sections) (p s r : ℕ) (x : State) : Type 0 where
  pub reduced : Reduced (count_below K p) (count K p) (count K (suc p)) (boundary K p) (boundary K (suc p)) s (kind x) (transpose (entry x.row_inverse)) (entry x.row_follower)
  pub rank : IsRank (kind x) r
  pub rank-bound : r ≤ s
  pub rows_bound : s ≤ count K p

-- ---- identities as companions

pub identity-transpose : (i j : ℕ) → identity i j ≡ identity j i
identity-transpose i j = go (ℕ_discrete i j)
  where
    go : Dec (i ≡ j) → identity i j ≡ identity j i
    go (yes e) = cc
    go (no d) = identity-other i j d ∙ sym (identity-other j i (λ e. d (sym e)))

module _ {m n : ℕ} {A X : Matrix} where
  pub times-identity : Eq m n X (mul n A (entry (table n n identity))) → Eq m n X A
  times-identity e =
      Eq-trans e (Eq-trans (mul-ext (Eq-refl m n A) (Eq-table n n identity)) (record { at = λ i j a b. mul-identity-right n A i j b }))

  pub identity-times : Eq m n X (mul m (transpose (entry (table m m identity))) A) → Eq m n X A
  identity-times e =
      Eq-trans e (Eq-trans (mul-ext transposed (Eq-refl m n A)) (record { at = λ i j a b. mul-identity-left m A i j a }))
    where
      transposed : Eq m m (transpose (entry (table m m identity))) identity
      transposed = Eq-trans (Eq-transpose (Eq-table m m identity)) (record { at = λ i j a b. identity-transpose j i })

-- ---- lines from r₁ on

module _ {n : ℕ} (r : ℕ) (T : Table) {C : Matrix} where
  rows-from : Eq n n (entry T) C → Eq (n - r) n (entry (drop r T)) (kernel_rows r C)
  unfolding kernel_rows
  rows-from e = record { at = λ i j a b. entry-drop r T i j ∙ e.at (r + i) j (omega arith) b }

  columns-from : Eq n n (transpose (entry T)) C → Eq n (n - r) (transpose (entry (drop r T))) (kernel_basis r C)
  unfolding kernel_basis
  columns-from e = record { at = λ i j a b. entry-drop r T j i ∙ e.at i (r + j) a (omega arith) }

-- ---- the part of a range

module _ {m n w : ℕ} {A B : Matrix} (h : n ≤ w) where
  left : Eq m w A B → Eq m n A B
  left e = record { at = λ i j a b. e.at i j a (le_trans b h) }

  upper : Eq w m A B → Eq n m A B
  upper e = record { at = λ i j a b. e.at i j (le_trans a h) b }

-- ---- both reductions

module _ {most : ℕ} {K : Sections} (complex : ChainComplex most K) (t : Transforms) (rule : Rule) (is : IsRule rule) (limit p : ℕ) (one : 1 ≤ limit) where
  abbrev m : ℕ
  m = count_below K p

  abbrev n : ℕ
  n = count K p

  abbrev l : ℕ
  l = count K (suc p)

  module _ (r₁ : ℕ) (x₁ : State) (S₁ : machine.Reduced limit (first_sizes t K p) (first_start t K p) r₁ x₁)
      (r : ℕ) (x : State) (S₂ : machine.Reduced limit (second_sizes t K p r₁) (second_start t K p r₁ x₁) r x) where
    first-bound : r₁ ≤ n
    first-bound = le_trans S₁.bound (min-le_right m n)

    second-bound : r ≤ n - r₁
    second-bound = le_trans S₂.bound (min-le_left (n - r₁) l)

    -- Q and G after the first reduction
    Q-is : Eq (n - r₁) n (entry (drop r₁ x₁.column_inverse)) (kernel_rows r₁ S₁.Ci)
    unfolding first_start
    Q-is = rows-from r₁ x₁.column_inverse (times-identity S₁.column_inverse)

    G-is : Eq n (n - r₁) (transpose (entry (drop r₁ x₁.column_follower))) (kernel_basis r₁ S₁.C)
    unfolding first_start
    G-is = columns-from r₁ x₁.column_follower (identity-times S₁.column_follower)

    product_is : Eq (n - r₁) l (entry (product K p r₁ x₁)) (mul n (kernel_rows r₁ S₁.Ci) (boundary K (suc p)))
    unfolding product
    product_is =
        Eq-trans (Eq-table (n - r₁) l (mul n (entry (drop r₁ x₁.column_inverse)) (boundary K (suc p)))) (mul-ext Q-is (Eq-refl n l (boundary K (suc p))))

    -- where they stand at the start of the second
    Q-left : Eq (n - r₁) n (entry (second_start t K p r₁ x₁).row_follower) (entry (drop r₁ x₁.column_inverse))
    unfolding second_start
    Q-left = beside-left (n - r₁) n (drop r₁ x₁.column_inverse) t.second_rows

    G-left : Eq n (n - r₁) (transpose (entry (second_start t K p r₁ x₁).row_inverse)) (transpose (entry (drop r₁ x₁.column_follower)))
    unfolding second_start
    G-left = Eq-transpose (beside-left (n - r₁) n (drop r₁ x₁.column_follower) t.second_rows)

    pub both_right : Right K p (n - r₁) r x
    unfolding first_start second_start
    both_right = record {
      reduced = record {
        complex = complex.zero p;
        rank = r₁;
        size = omega (arith, first-bound);
        d = machine.diagonal_of x₁;
        U = S₁.U;
        Ui = S₁.Ui;
        C = S₁.C;
        Ci = S₁.Ci;
        first = smith-ext (Eq-table m n (boundary K p)) S₁.smith;
        is_rank = S₁.rank;
        P = S₂.U;
        Pi = S₂.Ui;
        W = S₂.C;
        Wi = S₂.Ci;
        second = smith-ext product_is S₂.smith;
        is_generators = Eq-trans (upper (beside-width t.second_rows (n - r₁) n) S₂.row_inverse) (mul-ext (Eq-trans G-left G-is) (Eq-refl (n - r₁) (n - r₁) S₂.Ui));
        is_coordinates = Eq-trans (left (beside-width t.second_rows (n - r₁) n) S₂.row_follower) (mul-ext (Eq-refl (n - r₁) (n - r₁) S₂.U) (Eq-trans Q-left Q-is));
      };
      rank = S₂.rank;
      rank-bound = second-bound;
      rows_bound = omega arith;
    }

    -- its second column transform is that of the second reduction
    pub both-columns : both_right.reduced.W ≡ S₂.C
    unfolding both_right
    both-columns = refl

  pub first_reduced : (r₁ : ℕ) (x₁ : State) → reduce limit (first_sizes t K p) rule (first_start t K p) ≡ done r₁ x₁ → machine.Reduced limit (first_sizes t K p) (first_start t K p) r₁ x₁
  first_reduced = reduce-smith limit (first_sizes t K p) rule is (first_start t K p) (first-shaped t K p) (first-within t complex limit p one)

  module _ (s r : ℕ) (x : State) (e : reductions t rule limit K p ≡ reduced s r x) where
    abbrev pub both : BothDone t rule limit K p s r x
    both = reductions-done t rule limit K p s r x e

    abbrev r₁ : ℕ
    r₁ = both.first_rank

    abbrev x₁ : State
    x₁ = both.first_state

    pub first-smith : machine.Reduced limit (first_sizes t K p) (first_start t K p) r₁ x₁
    first-smith = first_reduced r₁ x₁ both.first

    pub second-smith : machine.Reduced limit (second_sizes t K p r₁) (second_start t K p r₁ x₁) r x
    second-smith =
        reduce-smith limit (second_sizes t K p r₁) rule is (second_start t K p r₁ x₁)
        (second-shaped t K p r₁ x₁ first-smith.shaped) (second-within t K p r₁ x₁ limit one first-smith.within both.narrow) r x both.second

    pub reductions-right : Right K p s r x
    reductions-right = subst (λ (n : ℕ). Right K p n r x) (sym both.rows) (both_right r₁ x₁ first-smith r x second-smith)

    -- the state that is left lies within the limit
    pub reductions-within : within limit x ≡ true
    reductions-within = second-smith.within
