-- `reductions::fill_first` meets its contract: the boundary matrix, V and its inverse are written one after another in a slice of zeros, each
-- where the others do not stand.
use mathlib.Core.Path.{◌≡◌, sym, subst, ◌∙◌, ap}
use mathlib.Core.List.{List}
use Prim.Native.Nat.{suc, ◌-◌}
use native.Mathlib.Omega.{arith}
use lib.IntN.{ℤ, pos}
use lib.ListN.{length, replicate}
use Rattle.matrices.specs.Matrix.{Eq, null}
use Rattle.complexes.specs.Complex.{count}
use Rattle.complexes.specs.Boundary.{boundary}
use Rattle.sheet_format.specs.Check.{sections_of}
use Rattle.matrix_lines.specs.Matrices.{contents}
use Rattle.boundaries.specs.Filled.{MatrixFilled}
use Rattle.two_reductions.proofs.Places.{held-matrix}
use Rattle.two_reductions.proofs.Sheet.{rows_none, rows-section, sheet-chains}
use Rattle.two_reductions.proofs.Filling.{zeros-null, no_lines, matrix-rows, matrix-columns, laid, filled, follower-fills, inverse-fills}
use Rattle.two_reductions.proofs.reductions.fill_first.Goals as goal
use Rattle.two_reductions.proofs.reductions.fill_first.Goals.{Start, Joined-p-gt0, then-p-gt0, else-p-gt0}

pub fill_boundary-requires : goal.fill_boundary-requires
fill_boundary-requires c =
    let start = (goal.at.fill_boundary-requires c).Start in
    let K = sections_of start.args.s.now in
    let p = start.args.p in
    let n = length start.args.w.now in
    let W = start.args.workspace in
    let is = start.requires.workspace_value in
    record {
      accepted = (start.requires.accepted.0, omega (arith, start.requires.accepted.1, c.if-p-gt0.true));
      lines_value = (
        matrix-rows K p n start.requires.p_in_bounds W is ∙ rows-section K p c.if-p-gt0.true,
        matrix-columns K p n start.requires.p_in_bounds W is ∙ ap (count K) (omega (arith, c.if-p-gt0.true)),
      );
      held = (
        held-matrix (laid K p n start.requires.p_in_bounds W is),
        subst (λ (w : List ℤ). Eq W.matrix.lines W.matrix.width (contents W.matrix w) null) (sym start.requires.w_value) (zeros-null n W.matrix),
      );
    }

-- the boundary matrix stands in a slice of zeros
matrix-filled : (c : Joined-p-gt0) →
    let args = c.args in
    MatrixFilled args.workspace.matrix (replicate (length args.w.now) (pos 0)) (boundary (sections_of args.s.now) args.p) c.if-p-gt0.w
matrix-filled c =
    let start = (goal.at.Joined-p-gt0 c).Start in
    let K = sections_of start.args.s.now in
    let p = start.args.p in
    let n = length start.args.w.now in
    let M = start.args.workspace.matrix in
    let zeros = start.requires.w_value in
    elim c.if-p-gt0.branch [
      | then-p-gt0 f ↦
          let dimension : suc (p - 1) ≡ p = omega (arith, f.if-p-gt0.true) in
          subst (λ (w : List ℤ). MatrixFilled M w (boundary K p) c.if-p-gt0.w) zeros (rw f.w-is (rw dimension at f.fill_boundary.ensures))
      | else-p-gt0 f ↦
          subst (MatrixFilled M (replicate n (pos 0)) (boundary K p)) (sym (f.w-is ∙ zeros)) (no_lines (boundary K p)
          (matrix-rows K p n start.requires.p_in_bounds start.args.workspace start.requires.workspace_value ∙ rows_none K p (omega (arith, f.if-p-gt0.false))))
    ]

pub fill_identity-requires : goal.fill_identity-requires
fill_identity-requires c =
    let start = (goal.at.fill_identity-requires c).Start in
    follower-fills (sections_of start.args.s.now) start.args.p (length start.args.w.now) start.requires.p_in_bounds start.args.workspace start.requires.workspace_value
    (matrix-filled (goal.at.fill_identity-requires c).Joined-p-gt0)

pub fill_identity-requires-2 : goal.fill_identity-requires-2
fill_identity-requires-2 c =
    let start = (goal.at.fill_identity-requires-2 c).Start in
    inverse-fills (sections_of start.args.s.now) start.args.p (length start.args.w.now) start.requires.p_in_bounds start.args.workspace start.requires.workspace_value
    (matrix-filled (goal.at.fill_identity-requires-2 c).Joined-p-gt0) c.fill_identity.ensures

pub returns : goal.returns
returns c =
    let start = (goal.at.returns c).Start in
    filled (sections_of start.args.s.now) start.args.p (length start.args.w.now) start.requires.p_in_bounds start.args.workspace start.requires.workspace_value
    ((sheet-chains (record { small = λ i. (c.type_inv.s i).fits }) start.requires.accepted.0).small start.args.p)
    (record {
      matrix = matrix-filled (goal.at.returns c).Joined-p-gt0;
      follower = c.fill_identity.ensures;
      inverse = c.fill_identity-2.ensures;
    })
