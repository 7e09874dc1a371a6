-- Between the two reductions Q is the lines of the inverse from the rank on and G the columns of V from the rank on, which are the same places of
-- the slice: later-lines. After the product the slice holds the start of the second reduction: second-state, product_narrow; or the product
-- goes beyond the limit: product-beyond.
use mathlib.Core.Path.{◌≡◌, refl, sym, subst, ◌∙◌, ap}
use mathlib.Core.Bool.{Bool, true, false}
use mathlib.Core.Logic.{◌⊎◌, inl, inr}
use mathlib.Core.List.{List}
use Prim.Native.Nat.{ℕ, suc, ◌+◌, ◌*◌, ◌-◌, ◌≤◌, ◌<◌, zero-le, max}
use native.Mathlib.Nat.{add-mul, le_refl, le_of_eq, le_trans, le_antisymm, le-max_left, le-max_right, max-le}
use native.Mathlib.Omega.{arith}
use lib.IntN.{ℤ, pos, nat_abs}
use lib.ListN.{get_or, drop}
use Rattle.matrices.specs.Matrix.{Eq, mul}
use Rattle.matrices.specs.Matrix as theory
use Rattle.matrices.proofs.Product.{Eq-refl, mul-ext}
use Rattle.complexes.specs.Complex.{Sections, count}
use Rattle.complexes.specs.Boundary.{count_below, boundary}
use Rattle.reduction_steps.specs.Table.{Table, entry, table, table_largest, table_within}
use Rattle.reduction_steps.specs.State.{State, largest}
use Rattle.reduction_laws.specs.Tables.{entry-table, table-ext, table_largest-table, table_within-table, table_within-false}
use Rattle.reduction_laws.specs.Shape.{Shaped}
use Rattle.reports.specs.Reductions.{Transforms, second_columns_only, no_transforms, transform, width, first_sizes, second_sizes, second_start, product, absent}
use Rattle.requests.specs.Call.{work_slots_for}
use Rattle.limits.specs.Limits.{entry_limit}
use Rattle.answers.proofs.Starts.{second-shaped, entry-drop}
use Rattle.matrix_lines.specs.Slice.{line_at, Under}
use Rattle.matrix_lines.specs.Matrices.{contents, everywhere, EntryOf, Holds, Exceeds}
use Rattle.matrix_lines.proofs.Peaks.{under-covered}
use Rattle.operations.specs.Laid.{Laid, lines_of, state_of}
use Rattle.operations.proofs.Regions.{lines-off, lines-on}
use Rattle.operations.proofs.Operate.{largest-under}
use Rattle.two_reductions.specs.Workspaces.{matrix_at, first_workspace, second_workspace}
use Rattle.two_reductions.specs.Slices.{first_workspace_of, second_workspace_of, start_peak}
use Rattle.two_reductions.proofs.Places.{room-kept, second-laid, matrix-row-inverse, matrix-row-follower, matrix-column-follower}
use Rattle.two_reductions.proofs.Filling.{state-is, lines-absent, identity-reached}

-- the matrix of the later lines stands where they stand
later-lines : (at lines width r : ℕ) (w : List ℤ)
    → Eq (lines - r) width (contents (matrix_at (at + r * width) (lines - r) width) w) (entry (drop r (lines_of (matrix_at at lines width) w)))
unfolding lines_of
later-lines at lines width r w = record {
  at = λ i j a b.
      ap (λ (k : ℕ). get_or w k (pos 0)) (omega (arith, add-mul r i width))
      ∙ sym (entry-table lines width (contents (matrix_at at lines width) w) (r + i) j (omega arith) b)
      ∙ sym (entry-drop r (table lines width (contents (matrix_at at lines width) w)) i j);
}

-- the matrix's largest entry is one of the state's
matrix-largest : (s : State) → table_largest s.matrix ≤ largest s
unfolding largest
matrix-largest s = omega arith

-- an identity that is kept holds an entry that is the peak at its start
transform-reached : (kept : Bool) (n : ℕ) (s : State) → s.column_follower ≡ transform kept n → start_peak (width kept n) ≤ largest s
transform-reached true n s e = identity-reached n s e
transform-reached false n s e = zero-le

module _ (K : Sections) (p n r : ℕ) (kept : Bool) (slots : work_slots_for (second_columns_only kept) K p ≤ n) (within : r ≤ count K p) (peak : ℕ) (w : List ℤ)
    (shaped : Shaped (first_sizes no_transforms K p) (state_of (first_workspace_of K p) peak w)) where
  -- the transforms that are kept
  abbrev t : Transforms
  t = second_columns_only kept

  -- the peak once the transform is filled
  abbrev pub filled_peak : ℕ
  filled_peak = max peak (start_peak (width kept (count K (suc p))))

  -- Q times the boundary matrix of dimension p + 1
  abbrev pub multiplied : theory.Matrix
  multiplied = mul (count K p) (contents (second_workspace_of K p kept r).row_follower w) (boundary K (suc p))

  pub laid-second : Laid n (second_workspace_of K p kept r)
  laid-second =
      second-laid (count K p) (count_below K p) (count K (suc p)) (width kept (count K (suc p))) (omega (arith, room-kept K p kept, slots)) r within

  Q-is : Eq (count K p - r) (count K p) (contents (second_workspace_of K p kept r).row_follower w)
      (entry (drop r (state_of (first_workspace_of K p) peak w).column_inverse))
  unfolding first_workspace second_workspace
  Q-is = later-lines _ (count K p) (count K p) r w

  G-is : Eq (count K p - r) (count K p) (contents (second_workspace_of K p kept r).row_inverse w)
      (entry (drop r (state_of (first_workspace_of K p) peak w).column_follower))
  unfolding first_workspace second_workspace
  G-is = later-lines _ (count K p) (count K p) r w

  product_is : table (count K p - r) (count K (suc p)) multiplied ≡ product K p r (state_of (first_workspace_of K p) peak w)
  unfolding product
  product_is = table-ext (mul-ext Q-is (Eq-refl (count K p) (count K (suc p)) (boundary K (suc p))))

  module _ (follower : lines_of (second_workspace_of K p kept r).column_follower w ≡ transform kept (count K (suc p))) (under : Under filled_peak w) {x : ℕ} {w' : List ℤ}
      (h : Holds (second_workspace_of K p kept r).matrix w everywhere multiplied 0 x w') where
    -- before the peak takes in what stands there
    abbrev begun : ℕ → State
    begun top = record {
      matrix = product K p r (state_of (first_workspace_of K p) peak w);
      row_follower = drop r (state_of (first_workspace_of K p) peak w).column_inverse;
      row_inverse = drop r (state_of (first_workspace_of K p) peak w).column_follower;
      column_follower = transform kept (count K (suc p));
      column_inverse = absent (count K (suc p));
      peak = top;
    }

    tables : (top : ℕ) → state_of (second_workspace_of K p kept r) top w' ≡ begun top
    unfolding lines_of second_workspace second_start
    tables top =
        state-is
        (lines-on h ∙ product_is)
        (lines-off (matrix-row-follower laid-second) h ∙ table-ext Q-is ∙ sym later.row_follower)
        (lines-off (matrix-row-inverse laid-second) h ∙ table-ext G-is ∙ sym later.row_inverse)
        (lines-off (matrix-column-follower laid-second) h ∙ follower)
        (lines-absent (second_workspace_of K p kept r).column_inverse.at (count K (suc p)) w')
        refl
      where
        later : Shaped (second_sizes t K p r) (second_start t K p r (state_of (first_workspace_of K p) peak w))
        later = second-shaped t K p r (state_of (first_workspace_of K p) peak w) shaped

    pub product-under : Under (max filled_peak x) w'
    product-under = under-covered under h.covered h.bounded

    -- the larger one of the peak and what the product answers is the larger one of the peak and the largest entry now
    peak-is : max filled_peak x ≡ max peak (largest (begun peak))
    unfolding second_workspace
    peak-is =
        le_antisymm
        (max-le (max-le (le-max_left peak (largest (begun peak))) (le_trans (transform-reached kept (count K (suc p)) (begun peak) refl) (le-max_right peak (largest (begun peak)))))
        (le_trans (answer h.wrote) (le-max_right peak (largest (begun peak)))))
        (max-le (le_trans (le-max_left peak (start_peak (width kept (count K (suc p))))) (le-max_left filled_peak x))
        (subst (λ (s : State). largest s ≤ max filled_peak x) (tables peak) (largest-under (second_workspace_of K p kept r) peak product-under)))
      where
        entry-product : (i j : ℕ) → i < count K p - r → j < count K (suc p) → nat_abs (multiplied i j) ≤ table_largest (begun peak).matrix
        entry-product =
            (table_largest-table (table_largest (begun peak).matrix) (count K p - r) (count K (suc p)) multiplied).0
            (subst (λ (T : Table). table_largest T ≤ table_largest (begun peak).matrix) (sym product_is) (le_refl (table_largest (begun peak).matrix)))

        answer : (x ≡ 0) ⊎ EntryOf (second_workspace_of K p kept r).matrix everywhere multiplied x → x ≤ largest (begun peak)
        answer (inl e) = omega arith
        answer (inr o) =
            le_trans (le_of_eq o.is) (le_trans (entry-product o.line o.place o.line-below o.place-below) (matrix-largest (begun peak)))

    pub second-state : state_of (second_workspace_of K p kept r) (max filled_peak x) w' ≡ second_start t K p r (state_of (first_workspace_of K p) peak w)
    unfolding second_start
    second-state = tables (max filled_peak x) ∙ ap begun peak-is

    pub product_narrow : table_within entry_limit (product K p r (state_of (first_workspace_of K p) peak w)) ≡ true
    unfolding second_workspace
    product_narrow =
        rw (← product_is)
        ((table_within-table entry_limit (count K p - r) (count K (suc p)) multiplied).1
        (λ i j s t. subst (λ (x : ℤ). nat_abs x ≤ entry_limit) (h.on.at i j s t) (h.bounded.bound (line_at 0 (count K (suc p)) i + j))))

  pub product-beyond : {w' : List ℤ} → Exceeds (second_workspace_of K p kept r).matrix w multiplied w'
      → table_within entry_limit (product K p r (state_of (first_workspace_of K p) peak w)) ≡ false
  unfolding second_workspace
  product-beyond h =
      rw (← product_is)
      (table_within-false entry_limit (table (count K p - r) (count K (suc p)) multiplied) h.line h.place
      (rw (entry-table (count K p - r) (count K (suc p)) multiplied h.line h.place h.line-below h.place-below)
      h.beyond))
