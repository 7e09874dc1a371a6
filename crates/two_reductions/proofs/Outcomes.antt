-- What the two reductions come to, from what each call answers: first-reduces, first-refused, product-refused, second-started, second-refused,
-- second-done.
use mathlib.Core.Path.{◌≡◌, refl, sym, subst, ◌∙◌, ap}
use mathlib.Core.Bool.{Bool, true}
use mathlib.Core.List.{List}
use Rattle.std.proofs.Common.{Result, Ok, Err}
use Prim.Native.Nat.{ℕ, suc, ◌≤◌, max}
use native.Mathlib.Omega.{arith}
use lib.IntN.{ℤ, pos}
use lib.ListN.{length, replicate}
use Rattle.matrices.specs.Matrix.{mul}
use Rattle.matrices.specs.Matrix as theory
use Rattle.complexes.specs.Complex.{Sections, count}
use Rattle.complexes.proofs.ChainComplex.{ChainComplex}
use Rattle.complexes.specs.Boundary.{boundary}
use Rattle.reduction_steps.specs.Table.{table_within}
use Rattle.reduction_steps.specs.Pivot.{Rule, IsRule}
use Rattle.reduction_steps.specs.Step.{done, wide, reduce}
use Rattle.reports.specs.Reductions as reports
use Rattle.reports.specs.Reductions.{Transforms, second_columns_only, no_transforms, width, first_sizes, first_start, second_sizes, second_start, product, after_second, reductions_of}
use Rattle.reports.proofs.ReductionsLaws.{first-wide, product_wide, after-second, second-wide}
use Rattle.requests.specs.Call.{work_slots_for}
use Rattle.limits.specs.Limits.{entry_limit, library_limit}
use Rattle.answers.proofs.TwoReductions.{reductions-right}
use Rattle.matrix_lines.specs.Matrices.{contents, Held, Holds, Exceeds, everywhere}
use Rattle.matrix_lines.proofs.Peaks.{under-covered}
use Rattle.refusal.specs.declared.Refusal.{Refusal}
use Rattle.operations.specs.Laid.{Laid, state_of}
use Rattle.operations.specs.declared.workspace.Workspace.{Workspace}
use Rattle.passes.specs.PassAnswers.{Cleared, StillUnder}
use Rattle.reducer.specs.StageAnswers.{Reduces, ReductionDone, ReductionRefused, reduction_of}
use Rattle.reducer.specs.declared.reduction.Reduction.{Reduction}
use Rattle.two_reductions.specs.Workspaces.{first_workspace, second_workspace}
use Rattle.two_reductions.specs.Slices.{first_workspace_of, second_workspace_of, first_reduction, start_peak, Filled, TwiceReduced}
use Rattle.two_reductions.proofs.Places.{held-row-follower}
use Rattle.two_reductions.proofs.Between.{laid-second, second-state, product_narrow, product-beyond}
use Rattle.two_reductions.proofs.Kept.{Begun}

-- the slice cleared by a callee that was lent one of length m
cleared : {m n : ℕ} {x : Refusal} {w : List ℤ} → m ≡ n → Cleared m x w → Cleared n x w
cleared e h = record { number = h.number; zeros = h.zeros ∙ ap (λ (k : ℕ). replicate k (pos 0)) e }

-- ---- the first reduction

module _ (rule : Rule) (K : Sections) (p n : ℕ) (W : Workspace) (is : W ≡ first_workspace_of K p) {w : List ℤ} (f : Filled K p n w) {peak : ℕ}
    (from : peak ≡ start_peak (count K p)) where
  -- it starts as the definition's
  starts : reduction_of rule W peak w ≡ first_reduction rule K p
  unfolding first_workspace
  starts = rw (is, from) (ap (reduce entry_limit (first_sizes no_transforms K p) rule) f.state)

  -- what it answers is the definition's
  pub first-reduces : (x : Result Reduction Refusal) (w' : List ℤ) → Reduces W (reduction_of rule W peak w) (length w) x w' → Reduces (first_workspace_of K p) (first_reduction rule K p) n x w'
  first-reduces (Ok r) w' h = record {
    outcome = sym starts ∙ h.outcome ∙ ap (λ (X : Workspace). done r.rank (state_of X r.peak w')) is;
    kept = record { same_length = h.kept.same_length ∙ f.kept.same_length; under = h.kept.under };
  }
  first-reduces (Err x) w' h = record {
    outcome = sym starts ∙ h.outcome;
    cleared = record { number = h.cleared.number; zeros = h.cleared.zeros ∙ ap (λ (k : ℕ). replicate k (pos 0)) f.kept.same_length };
  }

-- ---- the two reductions

module _ {rule : Rule} (is-rule : IsRule rule) (K : Sections) (p n : ℕ) (complex : ChainComplex library_limit K) (kept : Bool)
    (slots : work_slots_for (second_columns_only kept) K p ≤ n) where
  -- the transforms that are kept
  abbrev t : Transforms
  t = second_columns_only kept

  -- the first reduction keeps none of them
  first-same : reduce entry_limit (first_sizes t K p) rule (first_start t K p) ≡ first_reduction rule K p
  unfolding first_start
  first-same = refl

  -- the first goes too wide
  pub first-refused : {m : ℕ} {x : Refusal} {w : List ℤ} → m ≡ n → first_reduction rule K p ≡ wide → Cleared m x w
      → TwiceReduced K p kept (reductions_of t rule K p) n (Err x) w
  first-refused e h c = (first-wide t rule entry_limit K p (first-same ∙ h), cleared e c)

  -- the product lies within the limit, and the slice holds the start of the second reduction
  pub record SecondStarted (r peak : ℕ) (w : List ℤ) (peak' : ℕ) (w' : List ℤ) : Type 0 where
    pub begun : Begun rule K p n kept r peak w
    pub state : state_of (second_workspace_of K p kept r) peak' w' ≡ second_start t K p r (state_of (first_workspace_of K p) peak w)
    pub narrow : table_within entry_limit (product K p r (state_of (first_workspace_of K p) peak w)) ≡ true
    pub still : StillUnder n peak' w'

  -- ---- the product

  module _ {r peak : ℕ} {w : List ℤ} (b : Begun rule K p n kept r peak w) (W : Workspace) (is : W ≡ second_workspace_of K p kept r) where
    pub laid_then : Laid n W
    laid_then = rw is (laid-second K p n r kept slots b.rank-within peak w b.shaped)

    -- what `multiply` asks of Q and of the matrix
    pub Q-width : W.row_follower.width ≡ count K p
    unfolding second_workspace
    Q-width = rw is refl

    pub product-width : W.matrix.width ≡ count K (suc p)
    unfolding second_workspace
    product-width = rw is refl

    pub Q-held : Held (length w) W.row_follower
    Q-held = rw b.same_length (held-row-follower laid_then)

    -- Q times the matrix of dimension p + 1, as the code asks for it
    abbrev pub asked : theory.Matrix
    asked = mul W.row_follower.width (contents W.row_follower w) (boundary K (suc p))

    pub product-refused : {w' : List ℤ} → Exceeds W.matrix w asked w' → reductions_of t rule K p ≡ reports.too_wide
    unfolding second_workspace
    product-refused {w'} h =
        product_wide t rule entry_limit K p r (state_of (first_workspace_of K p) peak w) (first-same ∙ b.outcome)
        (product-beyond K p n r kept slots b.rank-within peak w b.shaped (rw is at h))

    -- the product answered x, and the second reduction starts with the larger one of that and the peak before
    pub second-started : {x peak' : ℕ} {w' : List ℤ} → Holds W.matrix w everywhere asked 0 x w' → peak' ≡ max (max peak (start_peak (width kept (count K (suc p))))) x
        → SecondStarted r peak w peak' w'
    unfolding second_workspace
    second-started {x} {peak'} {w'} h e = subst (λ (m : ℕ). SecondStarted r peak w m w') (sym e) (record {
      begun = b;
      state = second-state K p n r kept slots b.rank-within peak w b.shaped b.follower b.under (rw is at h);
      narrow = product_narrow K p n r kept slots b.rank-within peak w b.shaped b.follower b.under (rw is at h);
      still = record { same_length = h.same_length ∙ b.same_length; under = under-covered b.under h.covered h.bounded };
    })

  -- ---- the second reduction

  module _ {r peak : ℕ} {w : List ℤ} {peak' : ℕ} {w' : List ℤ} (s : SecondStarted r peak w peak' w') (W : Workspace) (is : W ≡ second_workspace_of K p kept r) where
    starts-again : reduction_of rule W peak' w' ≡ reduce entry_limit (second_sizes t K p r) rule (second_start t K p r (state_of (first_workspace_of K p) peak w))
    unfolding second_workspace
    starts-again = rw is (ap (reduce entry_limit (second_sizes t K p r) rule) s.state)

    pub second-refused : {x : Refusal} {w'' : List ℤ} → ReductionRefused (reduction_of rule W peak' w') (length w') x w''
        → TwiceReduced K p kept (reductions_of t rule K p) n (Err x) w''
    second-refused h = (
      second-wide t rule entry_limit K p r (state_of (first_workspace_of K p) peak w) (first-same ∙ s.begun.outcome) s.narrow (sym starts-again ∙ h.outcome),
      cleared s.still.same_length h.cleared,
    )

    pub second-done : {last peak'' : ℕ} {w'' : List ℤ} → ReductionDone W (reduction_of rule W peak' w') (length w') last peak'' w''
        → TwiceReduced K p kept (reductions_of t rule K p) n (Ok (record { workspace = W; rank = last; peak = peak'' })) w''
    unfolding second_workspace after_second
    second-done {last} {peak''} {w''} h = record {
      first-rank = r;
      rank-within = s.begun.rank-within;
      workspace-is = is;
      is = outcome;
      rank_below = (reductions-right complex t rule is-rule entry_limit p (omega arith) W.matrix.lines last (state_of W peak'' w'') outcome).rank-bound;
      kept = record { same_length = h.kept.same_length ∙ s.still.same_length; under = h.kept.under };
    }
      where
        outcome : reductions_of t rule K p ≡ reports.reduced W.matrix.lines last (state_of W peak'' w'')
        outcome =
            after-second t rule entry_limit K p r (state_of (first_workspace_of K p) peak w) (first-same ∙ s.begun.outcome) s.narrow
            (done last (state_of W peak'' w'')) (sym starts-again ∙ h.outcome)
            ∙ ap (λ (k : ℕ). reports.reduced k last (state_of W peak'' w'')) (sym (ap (λ (X : Workspace). X.matrix.lines) is))
