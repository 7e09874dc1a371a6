-- Before the second reduction, the room of the transform of its columns reads 0 (transform-fills) and is filled with the identity, which leaves the state of
-- the first as it was: begun. Where the transform is not kept, nothing is written.
use mathlib.Core.Path.{◌≡◌, refl, sym, ◌∙◌, ap, subst}
use mathlib.Core.Bool.{Bool, true, false}
use mathlib.Core.List.{List}
use Prim.Native.Nat.{ℕ, suc, ◌+◌, ◌*◌, ◌≤◌, ◌<◌, max}
use native.Mathlib.Nat.{mul_comm, mul-add, le_refl, le_trans, le-max_left, le-max_right, max-le, min-le_right}
use native.Mathlib.Omega.{arith}
use lib.IntN.{ℤ}
use lib.ListN.{length}
use Rattle.matrices.specs.Matrix.{Eq, identity, null}
use Rattle.complexes.specs.Complex.{Sections, count}
use Rattle.complexes.specs.Boundary.{count_below}
use Rattle.complexes.proofs.ChainComplex.{ChainComplex}
use Rattle.reduction_steps.specs.Table.{table}
use Rattle.reduction_steps.specs.Pivot.{Rule, IsRule}
use Rattle.reduction_steps.specs.Step.{done}
use Rattle.reduction_laws.specs.Shape.{Shaped}
use Rattle.reduction_laws.specs.Tables.{table-ext}
use Rattle.reduction_laws.proofs.SmithForm as machine
use Rattle.reports.specs.Reductions.{second_columns_only, no_transforms, transform, width, first_sizes, first_start}
use Rattle.requests.specs.Call.{work_slots, work_slots_for}
use Rattle.limits.specs.Limits.{entry_limit, library_limit}
use Rattle.answers.proofs.TwoReductions.{first_reduced}
use Rattle.matrix_lines.specs.Slice.{line_at, Under}
use Rattle.matrix_lines.specs.Matrices.{end, contents, Held}
use Rattle.matrix_lines.specs.declared.matrix.Matrix.{Matrix}
use Rattle.operations.specs.Laid.{Laid, lines_of, state_of}
use Rattle.operations.specs.declared.workspace.Workspace.{Workspace}
use Rattle.operations.proofs.Regions.{Disjoint, entry-inside, contents-apart}
use Rattle.reducer.specs.StageAnswers.{ReductionDone}
use Rattle.boundaries.specs.Filled.{MatrixFilled}
use Rattle.boundaries.proofs.Filled.{filled-under}
use Rattle.two_reductions.specs.Workspaces.{second_workspace}
use Rattle.two_reductions.specs.Slices.{first_workspace_of, second_workspace_of, first_reduction, start_peak, ZeroFrom}
use Rattle.two_reductions.proofs.Places.{first-laid, held-column-follower}
use Rattle.two_reductions.proofs.Filling.{state-is, identity-small, start-one, start-limit}
use Rattle.two_reductions.proofs.Between.{laid-second}

-- a transform is a table of the identity, which has no entries where it is absent
transform-table : (kept : Bool) (n : ℕ) → table n (width kept n) identity ≡ transform kept n
transform-table true n = refl
transform-table false n = table-ext (record { at = λ i j a b. absurd (omega arith) })

-- the first reduction is done with rank r and this peak, the slice holds its state, and where the transform is kept, its identity
pub record Begun (rule : Rule) (K : Sections) (p n : ℕ) (kept : Bool) (r peak : ℕ) (w : List ℤ) : Type 0 where
  pub outcome : first_reduction rule K p ≡ done r (state_of (first_workspace_of K p) peak w)
  pub rank-within : r ≤ count K p
  pub shaped : Shaped (first_sizes no_transforms K p) (state_of (first_workspace_of K p) peak w)
  pub follower : lines_of (second_workspace_of K p kept r).column_follower w ≡ transform kept (count K (suc p))
  pub same_length : length w ≡ n
  pub under : Under (max peak (start_peak (width kept (count K (suc p))))) w

module _ {rule : Rule} (is-rule : IsRule rule) (K : Sections) (p n : ℕ) (complex : ChainComplex library_limit K) (kept : Bool)
    (slots : work_slots_for (second_columns_only kept) K p ≤ n) {r peak : ℕ} {w : List ℤ}
    (Done-first : ReductionDone (first_workspace_of K p) (first_reduction rule K p) n r peak w) where
  right : machine.Reduced entry_limit (first_sizes no_transforms K p) (first_start no_transforms K p) r (state_of (first_workspace_of K p) peak w)
  right = first_reduced complex no_transforms rule is-rule entry_limit p (omega arith) r (state_of (first_workspace_of K p) peak w) Done-first.outcome

  pub first-rank : r ≤ count K p
  first-rank = le_trans right.bound (min-le_right (count_below K p) (count K p))

  module _ (W : Workspace) (is : W ≡ second_workspace_of K p kept r) where
    laid : Laid n W
    laid = rw is (laid-second K p n r kept slots first-rank peak w right.shaped)

    -- the transform stands behind the slots of the first reduction
    behind : W.column_follower.at ≡ work_slots K p
    unfolding second_workspace
    behind = rw is (omega (arith, mul-add (count K p) (2 * count K p) (max (count_below K p) (count K (suc p))), twice))
      where
        twice : count K p * (2 * count K p) ≡ 2 * (count K p * count K p)
        twice = omega (arith, mul_comm (count K p) (2 * count K p), mul_comm (count K p * count K p) 2)

    follower-width : W.column_follower.width ≡ width kept (count K (suc p))
    unfolding second_workspace
    follower-width = rw is refl

    follower-lines : W.column_follower.lines ≡ count K (suc p)
    unfolding second_workspace
    follower-lines = rw is refl

    -- what `fill_transform` asks
    pub transform-fills : ZeroFrom (work_slots K p) w →
        Held (length w) W.column_follower
        × (0 < W.column_follower.width → W.column_follower.lines ≡ W.column_follower.width)
        × Eq W.column_follower.lines W.column_follower.width (contents W.column_follower w) null
    unfolding null
    transform-fills zero = (
      rw Done-first.kept.same_length (held-column-follower laid),
      λ some. follower-lines ∙ square kept (subst (λ (m : ℕ). 0 < m) follower-width some) ∙ sym follower-width,
      record {
        at = λ i j a b.
            zero.zero-at (line_at W.column_follower.at W.column_follower.width i + j)
            (omega (arith, behind, (entry-inside W.column_follower i j a b).from));
      },
    )
      where
        square : (k : Bool) → 0 < width k (count K (suc p)) → count K (suc p) ≡ width k (count K (suc p))
        square true h = refl
        square false h = absurd (omega arith)

    module _ {w' : List ℤ} (f : MatrixFilled W.column_follower w identity w') where
      -- what ends where the transform begins is as it was
      lines-kept : (M : Matrix) → end M ≤ work_slots K p → lines_of M w' ≡ lines_of M w
      unfolding lines_of
      lines-kept M before = table-ext (contents-apart apart w w' f.off).same
        where
          apart : Disjoint W.column_follower M
          apart = record { none = λ k inside outside. omega (arith, behind, inside.from, outside.below, before) }

      first-kept : state_of (first_workspace_of K p) peak w' ≡ state_of (first_workspace_of K p) peak w
      first-kept =
          let l = first-laid {n = work_slots K p} (count K p) (count_below K p) (count K (suc p)) (le_refl (work_slots K p)) in
          state-is
          (lines-kept (first_workspace_of K p).matrix (omega (arith, l)))
          (lines-kept (first_workspace_of K p).row_follower (omega (arith, l)))
          (lines-kept (first_workspace_of K p).row_inverse (omega (arith, l)))
          (lines-kept (first_workspace_of K p).column_follower (omega (arith, l)))
          (lines-kept (first_workspace_of K p).column_inverse (omega (arith, l)))
          refl

      transform-is : lines_of W.column_follower w' ≡ transform kept (count K (suc p))
      unfolding lines_of
      transform-is =
          table-ext f.on
          ∙ ap (λ (m : ℕ). table m W.column_follower.width identity) follower-lines
          ∙ ap (λ (m : ℕ). table (count K (suc p)) m identity) follower-width
          ∙ transform-table kept (count K (suc p))

      -- the peak with the identity's
      abbrev top : ℕ
      top = max peak (start_peak (width kept (count K (suc p))))

      transform-under : Under top w'
      transform-under =
          filled-under f
          (record {
            bound = λ i. le_trans (Done-first.kept.under.bound i) (le-max_left peak (start_peak (width kept (count K (suc p)))));
            limit = max-le Done-first.kept.under.limit (start-limit (width kept (count K (suc p))));
          })
          (λ i j a b. le_trans (identity-small i j)
          (le_trans (start-one (width kept (count K (suc p))) j (subst (λ (m : ℕ). j < m) follower-width b)) (le-max_right peak (start_peak (width kept (count K (suc p)))))))

      pub begun : Begun rule K p n kept r peak w'
      begun = record {
        outcome = Done-first.outcome ∙ ap (done r) (sym first-kept);
        rank-within = first-rank;
        shaped = subst (Shaped (first_sizes no_transforms K p)) (sym first-kept) right.shaped;
        follower = rw is at transform-is;
        same_length = f.same_length ∙ Done-first.kept.same_length;
        under = transform-under;
      }
