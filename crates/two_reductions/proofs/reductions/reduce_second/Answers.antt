-- `reductions::reduce_second` meets its contract: the transform that is kept is filled in room that reads 0 (`Kept`), and each call's answer is one step of
-- the definition of the two reductions (`Outcomes`).
use mathlib.Core.Path.{◌≡◌, refl, sym, ◌∙◌, ap}
use mathlib.Core.Bool.{Bool, true, false}
use Prim.Native.Nat.{ℕ, suc, ◌≤◌, ◌<◌, max}
use native.Mathlib.Omega.{arith}
use Rattle.std.proofs.lemmas.Result.{err_from_is_err_and}
use lib.IntN.{pos}
use lib.ListN.{length, replicate}
use Rattle.complexes.specs.Complex.{Sections, count}
use Rattle.complexes.proofs.ChainComplex.{ChainComplex}
use Rattle.sheet_format.specs.Check.{sections_of}
use Rattle.limits.specs.Limits.{library_limit}
use Rattle.reduction_steps.specs.Pivot.{pivot_rule}
use Rattle.reduction_steps.proofs.PivotLaws.{pivot_rule-is-rule}
use Rattle.reports.specs.Reductions.{width}
use Rattle.two_reductions.specs.CellCounts.{CellCountsRead}
use Rattle.two_reductions.specs.Workspaces.{second_workspace}
use Rattle.two_reductions.specs.Slices.{second_workspace_of, start_peak}
use Rattle.two_reductions.proofs.Sheet.{sheet-chains, cells-of, columns_of, second-of}
use Rattle.matrix_lines.proofs.Peaks.{under-small}
use Rattle.two_reductions.proofs.Kept.{Begun, first-rank, transform-fills, begun}
use Rattle.two_reductions.proofs.Outcomes.{SecondStarted, laid_then, Q-width, product-width, Q-held}
use Rattle.two_reductions.proofs.Outcomes.{product-refused, second-started, second-refused, second-done}
use Rattle.two_reductions.proofs.reductions.reduce_second.Goals as goal
use Rattle.two_reductions.proofs.reductions.reduce_second.Goals.{Start, After-kept_width-kept, After-second_workspace-second, After-fill_transform, After-multiply, After-max-started, After-reduce_matrix}

-- ---- the workspace

-- a line of the transform is no longer than a count
kept-below : (tracked : Bool) (columns : ℕ) → columns < 65536 → width tracked columns < 65536
kept-below true columns h = h
kept-below false columns h = omega arith

module _ (c : After-kept_width-kept) where
  abbrev start : Start
  start = (goal.at.After-kept_width-kept c).Start

  abbrev K : Sections
  K = sections_of start.args.s.now

  abbrev p : ℕ
  p = start.args.p

  -- the length of the slice
  abbrev n : ℕ
  n = length start.args.w.now

  abbrev tracked : Bool
  tracked = start.args.tracked

  complex : ChainComplex library_limit K
  complex = sheet-chains (record { small = λ i. (c.type_inv.s i).fits }) start.requires.accepted.0

  cell-counts : CellCountsRead K p start.args.n
  cell-counts = start.requires.cell_counts_read

  kept-is : c.kept_width-kept.result ≡ width tracked (count K (suc p))
  kept-is = c.kept_width-kept.ensures ∙ ap (width tracked) (columns_of cell-counts)

  rank-within : start.args.first.rank ≤ count K p
  rank-within = first-rank pivot_rule-is-rule K p n complex tracked start.requires.p_in_bounds start.requires.reduction_done

pub second_workspace-second-requires : goal.second_workspace-second-requires
second_workspace-second-requires c = (
  rw c.kept_width-kept.ensures (kept-below (tracked c) (start c).args.n.columns (start c).args.n.below.2),
  rw (cells-of (cell-counts c)) (rank-within c),
)

second_is : (c : After-second_workspace-second) →
    let k = (goal.at.After-second_workspace-second c).After-kept_width-kept in c.second_workspace-second.result ≡ second_workspace_of (K k) (p k) (tracked k) (start k).args.first.rank
second_is c =
    let k = (goal.at.After-second_workspace-second c).After-kept_width-kept in
    c.second_workspace-second.ensures
    ∙ ap (λ (m : ℕ). second_workspace (start k).args.n.cells (start k).args.n.rows (start k).args.n.columns m (start k).args.first.rank) k.kept_width-kept.ensures
    ∙ second-of (cell-counts k) (tracked k) (start k).args.first.rank

-- ---- the transform

pub fill_transform-requires : goal.fill_transform-requires
fill_transform-requires c =
    let k = (goal.at.fill_transform-requires c).After-second_workspace-second in
    transform-fills pivot_rule-is-rule (K (goal.at.After-second_workspace-second k).After-kept_width-kept) (p (goal.at.After-second_workspace-second k).After-kept_width-kept) (n (goal.at.After-second_workspace-second k).After-kept_width-kept) (complex (goal.at.After-second_workspace-second k).After-kept_width-kept) (tracked (goal.at.After-second_workspace-second k).After-kept_width-kept) (start (goal.at.After-second_workspace-second k).After-kept_width-kept).requires.p_in_bounds (start (goal.at.After-second_workspace-second k).After-kept_width-kept).requires.reduction_done c.second_workspace-second.result (second_is (goal.at.fill_transform-requires c).After-second_workspace-second)
    (start (goal.at.After-second_workspace-second k).After-kept_width-kept).requires.zero_from

module _ (c : After-fill_transform) where
  abbrev second : After-second_workspace-second
  second = (goal.at.After-fill_transform c).After-second_workspace-second

  abbrev at-kept : After-kept_width-kept
  at-kept = (goal.at.After-second_workspace-second second).After-kept_width-kept

  first : Begun pivot_rule (K at-kept) (p at-kept) (n at-kept) (tracked at-kept) (start at-kept).args.first.rank (start at-kept).args.first.peak c.fill_transform.new.w
  first =
      begun pivot_rule-is-rule (K at-kept) (p at-kept) (n at-kept) (complex at-kept) (tracked at-kept) (start at-kept).requires.p_in_bounds (start at-kept).requires.reduction_done
      second.second_workspace-second.result (second_is second) c.fill_transform.ensures

-- ---- the product

pub multiply-requires : goal.multiply-requires
multiply-requires c =
    let f = (goal.at.multiply-requires c).After-fill_transform in
    let k = at-kept f in
    let W = (second f).second_workspace-second.result in
    let is = second_is (second f) in
    let l = laid_then pivot_rule-is-rule (K k) (p k) (n k) (complex k) (tracked k) (start k).requires.p_in_bounds (first f) W is in
    record {
      accepted = (start k).requires.accepted.0;
      width_value = (
        Q-width pivot_rule-is-rule (K k) (p k) (n k) (complex k) (tracked k) (start k).requires.p_in_bounds (first f) W is,
        product-width pivot_rule-is-rule (K k) (p k) (n k) (complex k) (tracked k) (start k).requires.p_in_bounds (first f) W is,
        sym l.row-follower-lines,
      );
      held = (
        Q-held pivot_rule-is-rule (K k) (p k) (n k) (complex k) (tracked k) (start k).requires.p_in_bounds (first f) W is,
        omega (arith, l.after-matrix, l.after-row-inverse),
        under-small (first f).under,
      );
    }

pub returns-in_default : goal.returns-in_default
returns-in_default c =
    let called = (goal.at.returns-in_default c).After-multiply in
    let f = (goal.at.After-multiply called).After-fill_transform in
    let k = at-kept f in
    let beyond = c.in_default.ensures in (
      product-refused pivot_rule-is-rule (K k) (p k) (n k) (complex k) (tracked k) (start k).requires.p_in_bounds (first f) (second f).second_workspace-second.result (second_is (second f)) beyond,
      record {
        number = refl;
        zeros =
            c.clear.ensures
            ∙ ap (λ (m : ℕ). replicate m (pos 0)) (beyond.same_length ∙ (first f).same_length);
      },
    )

-- ---- the second reduction

module _ (c : After-max-started) where
  abbrev multiplied : After-multiply
  multiplied = (goal.at.After-max-started c).After-multiply

  abbrev filled : After-fill_transform
  filled = (goal.at.After-multiply multiplied).After-fill_transform

  -- the peak with that of the transform, and with the product's answer
  peak-is : let k = at-kept filled in
      c.max-started.result ≡ max (max (start k).args.first.peak (start_peak (width (tracked k) (count (K k) (suc (p k)))))) c.in-Ok.product
  peak-is = c.max-started.ensures ∙ ap (λ (m : ℕ). max m c.in-Ok.product) (c.max.ensures
      ∙ ap (λ (m : ℕ). max (start (at-kept filled)).args.first.peak m) (c.start_peak.ensures ∙ ap start_peak (kept-is (at-kept filled))))

  started : let k = at-kept filled in
      SecondStarted pivot_rule-is-rule (K k) (p k) (n k) (complex k) (tracked k) (start k).requires.p_in_bounds (start k).args.first.rank (start k).args.first.peak filled.fill_transform.new.w
      c.max-started.result multiplied.multiply.new.w
  started =
      let k = at-kept filled in
      second-started pivot_rule-is-rule (K k) (p k) (n k) (complex k) (tracked k) (start k).requires.p_in_bounds (first filled) (second filled).second_workspace-second.result (second_is (second filled))
      c.in-Ok.ensures peak-is

pub reduce_matrix-requires : goal.reduce_matrix-requires
reduce_matrix-requires c =
    let f = filled (goal.at.reduce_matrix-requires c).After-max-started in
    let k = at-kept f in
    let still = (started (goal.at.reduce_matrix-requires c).After-max-started).still in
    record {
      laid = rw still.same_length
          (laid_then pivot_rule-is-rule (K k) (p k) (n k) (complex k) (tracked k) (start k).requires.p_in_bounds (first f) (second f).second_workspace-second.result (second_is (second f)));
      under = still.under;
    }

pub returns-in_err-last : goal.returns-in_err-last
returns-in_err-last c =
    let called = (goal.at.returns-in_err-last c).After-reduce_matrix in
    let f = filled (goal.at.After-reduce_matrix called).After-max-started in
    let k = at-kept f in
    let e = err_from_is_err_and c.from_residual.result c.from_residual.ensures.1 in
    rw (e.1, e.2)
    (second-refused pivot_rule-is-rule (K k) (p k) (n k) (complex k) (tracked k) (start k).requires.p_in_bounds (started (goal.at.After-reduce_matrix called).After-max-started) (second f).second_workspace-second.result (second_is (second f))
    c.in_err-last.ensures)

pub returns : goal.returns
returns c =
    let called = (goal.at.returns c).After-reduce_matrix in
    let f = filled (goal.at.After-reduce_matrix called).After-max-started in
    let k = at-kept f in
    second-done pivot_rule-is-rule (K k) (p k) (n k) (complex k) (tracked k) (start k).requires.p_in_bounds (started (goal.at.After-reduce_matrix called).After-max-started) (second f).second_workspace-second.result (second_is (second f))
    c.in_ok-last.ensures
