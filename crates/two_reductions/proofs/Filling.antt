-- A slice of zeros in which the boundary matrix and two identities are written holds the start of the first reduction: filled.
use mathlib.Core.Path.{◌≡◌, refl, subst, ◌∙◌, ap}
use mathlib.Core.List.{List}
use Prim.Native.Nat.{ℕ, zero, suc, ◌+◌, ◌*◌, ◌≤◌, ◌<◌, zero-le, max}
use native.Mathlib.Omega.{arith}
use native.Mathlib.Nat.{le_refl, le_trans, le_antisymm, le-max_right, max-le}
use native.Mathlib.Decide.{ℕ_discrete}
use lib.IntN.{ℤ, pos, nat_abs}
use lib.ListN.{length, get_or, replicate, length-replicate}
use Rattle.matrices.specs.Matrix.{Eq, identity, null}
use Rattle.matrices.specs.Matrix as theory
use Rattle.matrices.proofs.Product.{identity-at, identity-other}
use Rattle.complexes.specs.Complex.{Sections, count}
use Rattle.complexes.specs.Boundary.{count_below, boundary}
use Rattle.reduction_steps.specs.Table.{Table, table, table_largest}
use Rattle.reduction_steps.specs.State.{State, largest}
use Rattle.reduction_laws.specs.Tables.{table-ext, table_largest-table}
use Rattle.reports.specs.Reductions.{no_transforms, first_start, absent}
use Rattle.requests.specs.Call.{work_slots}
use Rattle.matrix_lines.specs.Slice.{entry_limit, line_at, Under}
use Rattle.matrix_lines.specs.Matrices.{contents, Held, everywhere, Holds}
use Rattle.matrix_lines.specs.declared.matrix.Matrix.{Matrix}
use Rattle.operations.specs.Laid.{Laid, lines_of, state_of}
use Rattle.operations.specs.declared.workspace.Workspace.{Workspace}
use Rattle.operations.proofs.Regions.{disjoint-sym, contents-apart, lines-off, lines-on}
use Rattle.operations.proofs.Operate.{largest-under}
use Rattle.boundaries.specs.Filled.{MatrixFilled}
use Rattle.boundaries.proofs.Filled.{filled-under, filled-holds}
use Rattle.two_reductions.specs.Workspaces.{matrix_at, first_workspace}
use Rattle.two_reductions.specs.Slices.{first_workspace_of, start_peak, Filled}
use Rattle.two_reductions.proofs.Places.{first-laid, held-column-follower, held-column-inverse, matrix-column-follower, matrix-column-inverse, column-follower-inverse}

-- ---- a slice of zeros

zero-at : (n i : ℕ) → get_or (replicate n (pos 0)) i (pos 0) ≡ pos 0
zero-at zero i = refl
zero-at (suc n) zero = refl
zero-at (suc n) (suc i) = zero-at n i

pub zeros-null : (n : ℕ) (M : Matrix) → Eq M.lines M.width (contents M (replicate n (pos 0))) null
unfolding null
zeros-null n M = record { at = λ i j a b. zero-at n (line_at M.at M.width i + j) }

-- a matrix without lines holds anything
pub no_lines : {M : Matrix} {w : List ℤ} (A : ℕ → ℕ → ℤ) → M.lines ≡ 0 → MatrixFilled M w A w
no_lines A e = record { same_length = refl; on = record { at = λ i j a b. absurd (omega arith) }; off = λ i o. refl }

-- ---- states

pub state-is :
    {a a' b b' c c' d d' e e' : Table} {p p' : ℕ} → a ≡ a' → b ≡ b' → c ≡ c' → d ≡ d' → e ≡ e' → p ≡ p'
    → ◌≡◌ {A = State} (record { matrix = a; row_follower = b; row_inverse = c; column_follower = d; column_inverse = e; peak = p })
    (record { matrix = a'; row_follower = b'; row_inverse = c'; column_follower = d'; column_inverse = e'; peak = p' })
state-is p q r s t u = cc

-- a companion that is absent
pub lines-absent : (at lines : ℕ) (w : List ℤ) → lines_of (matrix_at at lines 0) w ≡ absent lines
unfolding lines_of
lines-absent at lines w = table-ext (record { at = λ i j a b. absurd (omega arith) })

follower-largest : (s : State) → table_largest s.column_follower ≤ largest s
unfolding largest
follower-largest s = omega arith

-- ---- the first reduction

-- the peak at the start lies within the limit, and is 1 where there are cells
pub start-limit : (cells : ℕ) → start_peak cells ≤ entry_limit
start-limit zero = omega arith
start-limit (suc cells) = omega arith

pub start-one : (cells j : ℕ) → j < cells → 1 ≤ start_peak cells
start-one zero j below = absurd (omega arith)
start-one (suc cells) j below = le_refl 1

pub identity-small : (i j : ℕ) → nat_abs (identity i j) ≤ 1
identity-small i j = pick (ℕ_discrete i j)
  where
    pick : Dec (i ≡ j) → nat_abs (identity i j) ≤ 1
    pick (yes e) = rw (e, identity-at j) (omega arith)
    pick (no d) = rw (identity-other i j d) (omega arith)

-- an identity of n lines holds an entry that is the peak at its start
pub identity-reached : (n : ℕ) (s : State) → s.column_follower ≡ table n n identity → start_peak n ≤ largest s
identity-reached zero s e = zero-le
identity-reached (suc n) s e =
    le_trans
    (rw (identity-at 0) at
    ((table_largest-table (table_largest s.column_follower) (suc n) (suc n) identity).0
    (subst (λ (T : Table). table_largest T ≤ table_largest s.column_follower) e (le_refl (table_largest s.column_follower))) 0 0 (omega arith) (omega arith)))
    (follower-largest s)

-- what `fill_identity` asks
abbrev pub CanFill : Matrix → List ℤ → Type 0
CanFill M w = Held (length w) M × (M.lines ≡ M.width) × Eq M.lines M.width (contents M w) null

module _ (K : Sections) (p n : ℕ) (slots : work_slots K p ≤ n) where
  -- the slice of zeros, and what is written in it by one call after another
  pub record Written (W : Workspace) (w₁ w₂ w₃ : List ℤ) : Type 0 where
    pub matrix : MatrixFilled W.matrix (replicate n (pos 0)) (boundary K p) w₁
    pub follower : MatrixFilled W.column_follower w₁ identity w₂
    pub inverse : MatrixFilled W.column_inverse w₂ identity w₃

  first-laid-of : Laid n (first_workspace_of K p)
  first-laid-of = first-laid (count K p) (count_below K p) (count K (suc p)) slots

  module _ {w₁ w₂ w₃ : List ℤ} (small : (i j : ℕ) → nat_abs (boundary K p i j) ≤ 1) (h : Written (first_workspace_of K p) w₁ w₂ w₃) where
    abbrev start : ℕ
    start = start_peak (count K p)

    zeros-under : Under start (replicate n (pos 0))
    zeros-under = record { bound = λ i. rw (zero-at n i) zero-le; limit = start-limit (count K p) }

    matrix-holds : Holds (first_workspace_of K p).matrix (replicate n (pos 0)) everywhere (boundary K p) start start w₁
    unfolding first_workspace
    matrix-holds = filled-holds h.matrix zeros-under (λ i j a b. le_trans (small i j) (start-one (count K p) j b))

    matrix-under : Under start w₁
    unfolding first_workspace
    matrix-under = filled-under h.matrix zeros-under (λ i j a b. le_trans (small i j) (start-one (count K p) j b))

    follower-holds : Holds (first_workspace_of K p).column_follower w₁ everywhere identity start start w₂
    unfolding first_workspace
    follower-holds = filled-holds h.follower matrix-under (λ i j a b. le_trans (identity-small i j) (start-one (count K p) j b))

    follower-under : Under start w₂
    unfolding first_workspace
    follower-under = filled-under h.follower matrix-under (λ i j a b. le_trans (identity-small i j) (start-one (count K p) j b))

    inverse-holds : Holds (first_workspace_of K p).column_inverse w₂ everywhere identity start start w₃
    unfolding first_workspace
    inverse-holds = filled-holds h.inverse follower-under (λ i j a b. le_trans (identity-small i j) (start-one (count K p) j b))

    inverse-under : Under start w₃
    unfolding first_workspace
    inverse-under = filled-under h.inverse follower-under (λ i j a b. le_trans (identity-small i j) (start-one (count K p) j b))

    -- before the peak takes in what stands there
    abbrev begun : ℕ → State
    begun top = record {
      matrix = table (count_below K p) (count K p) (boundary K p);
      row_follower = absent (count_below K p);
      row_inverse = absent (count_below K p);
      column_follower = table (count K p) (count K p) identity;
      column_inverse = table (count K p) (count K p) identity;
      peak = top;
    }

    tables : (top : ℕ) → state_of (first_workspace_of K p) top w₃ ≡ begun top
    unfolding first_workspace
    tables top =
        state-is
        (lines-off (disjoint-sym (matrix-column-inverse first-laid-of)) inverse-holds
        ∙ lines-off (disjoint-sym (matrix-column-follower first-laid-of)) follower-holds
        ∙ lines-on matrix-holds)
        (lines-absent room (count_below K p) w₃)
        (lines-absent room (count_below K p) w₃)
        (lines-off (disjoint-sym (column-follower-inverse first-laid-of)) inverse-holds ∙ lines-on follower-holds)
        (lines-on inverse-holds)
        refl
      where
        room : ℕ
        room = count K p * max (count_below K p) (count K (suc p))

    first-state : state_of (first_workspace_of K p) start w₃ ≡ first_start no_transforms K p
    unfolding first_start
    first-state = tables start ∙ ap begun start_is
      where
        start_is : start ≡ max 0 (largest (begun 0))
        start_is =
            le_antisymm (le_trans (identity-reached (count K p) (begun 0) refl) (le-max_right 0 (largest (begun 0))))
            (max-le zero-le (subst (λ (s : State). largest s ≤ start) (tables 0) (largest-under (first_workspace_of K p) 0 inverse-under)))

  module _ (W : Workspace) (is : W ≡ first_workspace_of K p) where
    pub laid : Laid n W
    laid = rw is first-laid-of

    -- the matrix has the rows and columns of the boundary matrix
    pub matrix-rows : W.matrix.lines ≡ count_below K p
    unfolding first_workspace
    matrix-rows = rw is refl

    pub matrix-columns : W.matrix.width ≡ count K p
    unfolding first_workspace
    matrix-columns = rw is refl

    pub filled : {w₁ w₂ w₃ : List ℤ} → ((i j : ℕ) → nat_abs (boundary K p i j) ≤ 1) → Written W w₁ w₂ w₃ → Filled K p n w₃
    filled {w₁} {w₂} {w₃} small h = record {
      state = first-state small (rw is at h);
      kept = record {
        same_length = h.inverse.same_length ∙ h.follower.same_length ∙ h.matrix.same_length ∙ length-replicate n (pos 0);
        under = inverse-under small (rw is at h);
      };
    }

    pub follower-fills : {w : List ℤ} {A : theory.Matrix} → MatrixFilled W.matrix (replicate n (pos 0)) A w → CanFill W.column_follower w
    unfolding first_workspace
    follower-fills {w} h = (
      rw (h.same_length, length-replicate) (held-column-follower laid),
      square,
      record { at = λ i j s t. (contents-apart (matrix-column-follower laid) (replicate n (pos 0)) w h.off).same.at i j s t ∙ (zeros-null n W.column_follower).at i j s t },
    )
      where
        square : W.column_follower.lines ≡ W.column_follower.width
        square = rw is refl

    pub inverse-fills : {w w' : List ℤ} {A B : theory.Matrix} → MatrixFilled W.matrix (replicate n (pos 0)) A w → MatrixFilled W.column_follower w B w'
        → CanFill W.column_inverse w'
    unfolding first_workspace
    inverse-fills {w} {w'} h k = (
      rw (k.same_length, h.same_length, length-replicate) (held-column-inverse laid),
      square,
      record {
        at = λ i j s t.
            (contents-apart (column-follower-inverse laid) w w' k.off).same.at i j s t
            ∙ (contents-apart (matrix-column-inverse laid) (replicate n (pos 0)) w h.off).same.at i j s t
            ∙ (zeros-null n W.column_inverse).at i j s t;
      },
    )
      where
        square : W.column_inverse.lines ≡ W.column_inverse.width
        square = rw is refl
