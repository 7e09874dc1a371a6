-- The surface that a cycle bounds, document 02, Note 6, after two reductions that are right. `bounds-iff`: 17 is not told exactly where the cycle is a
-- boundary. `surface-bounds`: with the transform of the columns kept (`KeptColumns`, `reductions-columns`), the boundary of the surface is the cycle.
-- `surface-chain`: it is made of the coefficients of the chain alone. `surface-word`: every coefficient fits 64 bits.
use mathlib.Core.Path.{◌≡◌, refl, sym, ◌∙◌, ap, subst}
use mathlib.Core.Logic.{◌↔◌}
use mathlib.Core.Bool.{Bool, true, false, not}
use mathlib.Core.List.{List}
use Prim.Native.Nat.{ℕ, suc, ◌*◌, ◌≤◌, ◌<◌}
use native.Mathlib.Nat.{le_trans, min-le_right, mul-le-mul, mul-le-mul_right}
use native.Mathlib.Omega.{arith}
use borrow.Author.Tests.{not-false}
use lib.Dec.{T}
use lib.IntN.{ℤ, pos, nat_abs, ◌*ℤ◌}
use Rattle.integers.specs.Slot.{slot}
use Rattle.integers.specs.Division.{floor, divides, ◌∣ℤ◌}
use Rattle.integers.proofs.Divides.{divides-dvd, dvd-divides}
use Rattle.integers.proofs.Floor.{nat_abs-floor}
use Rattle.integers.proofs.Order.{nat_abs_mul}
use Rattle.limits.specs.Limits.{library_limit, entry_limit, surface_coefficient_limit}
use Rattle.lists.proofs.TabulateLaws.{get_or-tabulate}
use Rattle.matrices.specs.Matrix.{Eq, transpose}
use Rattle.matrices.specs.Vector.{apply}
use Rattle.matrices.proofs.SumLaws.{sum-ext, nat_abs-sum}
use Rattle.smith.proofs.Rank.{rank-bound}
use Rattle.homology_groups.specs.Chain.{Same}
use Rattle.homology_groups.proofs.ChainLaws.{same-trans, same-apply}
use Rattle.homology_groups.proofs.Coordinates.{boundary-iff}
use Rattle.homology_groups.proofs.Fillings.{over_pivots, pivots-bound}
use Rattle.complexes.specs.Complex.{Sections, count}
use Rattle.complexes.specs.Boundary.{boundary}
use Rattle.complexes.proofs.ChainComplex.{ChainComplex}
use Rattle.sheet_format.specs.CheckLaws.{some-false}
use Rattle.reduction_steps.specs.Table.{entry}
use Rattle.reduction_steps.specs.State.{State, within}
use Rattle.reduction_steps.specs.Pivot.{Rule, IsRule}
use Rattle.reduction_laws.specs.Shape.{within-iff}
use Rattle.reduction_laws.specs.Tables.{table_within-iff}
use Rattle.reduction_laws.proofs.SmithForm as machine
use Rattle.reports.specs.Reductions.{Transforms, width, first_sizes, first_start, second_sizes, second_start, reduced, reductions}
use Rattle.reports.proofs.ReductionsLaws.{BothDone}
use Rattle.reports.specs.Report.{kind, row_times}
use Rattle.reports.specs.Surface.{bounds_nothing, surface_at, surface_list}
use Rattle.answers.specs.Homology.{IsCycle, IsBoundary}
use Rattle.answers.proofs.TwoReductions.{Right, both, both_right, both-columns, first-smith, second-smith}
use Rattle.answers.proofs.KeptTransforms.{second-columns}
use Rattle.answers.proofs.Fits.{bounded-tabulate, small_word, row_small}
use Rattle.host_calls.proofs.BytesLaws.{Word}

-- ---- 17

module _ {K : Sections} {p s r : ℕ} {x : State} (R : Right K p s r x) (z : List ℤ) where
  abbrev row : ℕ → ℤ
  row = row_times (count K p) x z

  divisible-iff : (bounds_nothing (count K p) s x z ≡ false) ↔ ((i : ℕ) → i < s → kind x i ∣ℤ row i)
  unfolding bounds_nothing
  divisible-iff = (
    λ e i h. divides-dvd (kind x i) (row i) (subst T (sym (not-false (divides (kind x i) (row i)) ((some-false s test).0 e i h))) tt),
    λ f. (some-false s test).1 (λ i h. ap not (true_of (divides (kind x i) (row i)) (dvd-divides (kind x i) (row i) (f i h)))),
  )
    where
      test : ℕ → Bool
      test i = not (divides (kind x i) (row i))

      true_of : (b : Bool) → T b → b ≡ true
      true_of true t = refl
      true_of false t = absurd t

  pub bounds-iff : IsCycle K p (slot z) → (bounds_nothing (count K p) s x z ≡ false) ↔ IsBoundary K p (slot z)
  bounds-iff cycle =
      let iff = boundary-iff R.reduced (slot z) cycle in
      (λ e. iff.1 (divisible-iff.0 e), λ b. divisible-iff.1 (iff.0 b))

-- ---- the surface

-- two reductions that are right, with the transform of the columns of the second
pub record KeptColumns (K : Sections) (p s r : ℕ) (x : State) : Type 0 where
  pub right : Right K p s r x
  pub columns : Eq (count K (suc p)) (count K (suc p)) (transpose (entry x.column_follower)) right.reduced.W

pub reductions-columns : {most : ℕ} {K : Sections} (complex : ChainComplex most K) (t : Transforms) (rule : Rule) (is : IsRule rule) (limit p : ℕ) (one : 1 ≤ limit)
    (s r : ℕ) (x : State) → reductions t rule limit K p ≡ reduced s r x → t.second_columns ≡ true → KeptColumns K p s r x
reductions-columns {K} complex t rule is limit p one s r x e kept =
    subst (λ (n : ℕ). KeptColumns K p n r x) (sym b.rows) (record {
      right = both_right complex t rule is limit p one b.first_rank b.first_state first r x second;
      columns =
          rw (both-columns complex t rule is limit p one b.first_rank b.first_state first r x second)
          (subst (λ (k : Bool). Eq (width k (count K (suc p))) (count K (suc p)) (transpose (entry x.column_follower)) second.C) kept
          (second-columns t K p b.first_rank b.first_state second));
    })
  where
    b : BothDone t rule limit K p s r x
    b = both complex t rule is limit p one s r x e

    first : machine.Reduced limit (first_sizes t K p) (first_start t K p) b.first_rank b.first_state
    first = first-smith complex t rule is limit p one s r x e

    second : machine.Reduced limit (second_sizes t K p b.first_rank) (second_start t K p b.first_rank b.first_state) r x
    second = second-smith complex t rule is limit p one s r x e

module _ {K : Sections} {p s r : ℕ} {x : State} (C : KeptColumns K p s r x) (z : List ℤ) where
  abbrev n : ℕ
  n = count K p

  abbrev l : ℕ
  l = count K (suc p)

  rank_below : r ≤ l
  rank_below = le_trans (rank-bound C.right.reduced.second C.right.rank) (min-le_right s l)

  -- the boundary of the surface is the cycle
  pub surface-bounds : IsCycle K p (slot z) → bounds_nothing n s x z ≡ false → Same n (apply l (boundary K (suc p)) (slot (surface_list n l r x z))) (slot z)
  unfolding surface_list surface_at
  surface-bounds cycle passed =
      same-trans (same-apply n (boundary K (suc p)) (record { at = over }))
      (pivots-bound C.right.reduced C.right.rank (slot z) divisible cycle)
    where
      divisible : (i : ℕ) → i < s → kind x i ∣ℤ row_times n x z i
      divisible = (divisible-iff C.right z).0 passed

      over : (j : ℕ) → j < l → slot (surface_list n l r x z) j ≡ over_pivots C.right.reduced C.right.rank (slot z) divisible j
      over j h =
          get_or-tabulate l (surface_at n r x z) j (pos 0) h
          ∙ sum-ext r (λ i. floor (row_times n x z i) (kind x i) *ℤ entry x.column_follower i j) (λ i. floor (row_times n x z i) (kind x i) *ℤ C.right.reduced.W j i)
          (λ i k. ap (λ (t : ℤ). floor (row_times n x z i) (kind x i) *ℤ t) (C.columns.at j i h (le_trans k rank_below)))

-- chains with the same coefficients have the same surface
pub surface-chain : (n l r : ℕ) (x : State) (y z : List ℤ) → ((i : ℕ) → i < n → slot y i ≡ slot z i) → (j : ℕ) → j < l
    → slot (surface_list n l r x y) j ≡ slot (surface_list n l r x z) j
unfolding surface_list surface_at apply
surface-chain n l r x y z same j h =
    get_or-tabulate l (surface_at n r x y) j (pos 0) h
    ∙ sum-ext r (taken y) (taken z) (λ i k.
    ap (λ (t : ℤ). floor t (kind x i) *ℤ entry x.column_follower i j)
    (sum-ext n (λ m. entry x.row_follower i m *ℤ slot y m) (λ m. entry x.row_follower i m *ℤ slot z m)
    (λ m g. ap (λ (t : ℤ). entry x.row_follower i m *ℤ t) (same m g))))
    ∙ sym (get_or-tabulate l (surface_at n r x z) j (pos 0) h)
  where
    taken : List ℤ → ℕ → ℤ
    taken v i = floor (row_times n x v i) (kind x i) *ℤ entry x.column_follower i j

-- ---- the coefficients fit 64 bits: 256 pivots, rows of 256 places, coefficients of the chain within 15, and two entries

module _ {K : Sections} {p s r : ℕ} {x : State} (R : Right K p s r x) (within-limit : within entry_limit x ≡ true) (few : count K p ≤ library_limit)
    (z : List ℤ) (small : (i : ℕ) → nat_abs (slot z i) ≤ surface_coefficient_limit) where
  abbrev row_most : ℕ
  row_most = library_limit * (entry_limit * surface_coefficient_limit)

  coefficient-small : (j : ℕ) → nat_abs (surface_at (count K p) r x z j) ≤ library_limit * (row_most * entry_limit)
  unfolding surface_at
  coefficient-small j =
      le_trans
      (nat_abs-sum r (λ i. floor (row_times (count K p) x z i) (kind x i) *ℤ entry x.column_follower i j) (row_most * entry_limit) (λ i h.
      rw (nat_abs_mul (floor (row_times (count K p) x z i) (kind x i)) (entry x.column_follower i j))
      (mul-le-mul (le_trans (nat_abs-floor (row_times (count K p) x z i) (kind x i)) (row_small R within-limit few surface_coefficient_limit z small i))
      ((table_within-iff entry_limit x.column_follower).0 ((within-iff entry_limit x).0 within-limit).column_follower i j))))
      (mul-le-mul_right (row_most * entry_limit) (le_trans R.rank-bound (le_trans R.rows_bound few)))

  pub surface-word : (l i : ℕ) → Word (slot (surface_list (count K p) l r x z) i)
  unfolding surface_list
  surface-word l i =
      small_word (slot (surface_list (count K p) l r x z) i) ((bounded-tabulate l (surface_at (count K p) r x z) coefficient-small).at i) (omega arith)
