-- `surface::surface_at` meets its contract: each return is one case of the definition of the surface call (`Admitting`, `SurfaceAnswers`).
use mathlib.Core.Path.{◌≡◌, sym, ◌∙◌}
use mathlib.Core.List.{List}
use native.Mathlib.Omega.{arith}
use lib.IntN.{ℤ}
use lib.ListN.{length}
use Rattle.std.proofs.lemmas.Result.{err_from_is_err_and}
use Rattle.sheet_format.specs.Check.{sections_of}
use Rattle.trials.specs.Trial.{first_refusal}
use Rattle.limits.specs.Limits.{surface_coefficient_limit}
use Rattle.requests.specs.Question.{asked}
use Rattle.requests.specs.Chains.{cycle_checks}
use Rattle.reduction_steps.proofs.PivotLaws.{pivot_rule-is-rule}
use Rattle.two_reductions.proofs.Sheet.{cells-of}
use Rattle.calls.specs.declared.admission.Request.TheVariants.{Surface}
use Rattle.calls.proofs.Admitting.{Lent, lengths, cells_of, Granted, admit-granted}
use Rattle.calls.proofs.Writing.{can-count}
use Rattle.calls.proofs.SurfaceAnswers.{surface-refuses, length-refuses, cycle-refuses, surface-wide, can_write, has_room, surface-bounds-nothing, surface-done}
use Rattle.calls.proofs.surface.surface_at.Goals as goal
use Rattle.calls.proofs.surface.surface_at.Goals.{Start, In_ok-n, Else-chain-n, In_ok-check_within, In_ok-reduced, After-bounds_nothing}

abbrev lent : Start → Lent
lent s =
    let a = s.args in
    record { limit = a.sheet.limit; question = asked a.s.now a.dimension; output = a.surface.now; work = a.work.now }

pub returns-in_err-n : goal.returns-in_err-n
returns-in_err-n c =
    let start = (goal.at.returns-in_err-n c).Start in
    let e = err_from_is_err_and c.from_residual.result c.from_residual.ensures.1 in
    rw (e.1, e.2) (surface-refuses (lent start) start.args.chain.now _ c.in_err-n.ensures)

module _ (c : In_ok-n) where
  abbrev start : Start
  start = (goal.at.In_ok-n c).Start

  abbrev given : Lent
  given = lent start

  abbrev z : List ℤ
  z = start.args.chain.now

  granted : Granted (lengths given) Surface c.in_ok-n.n
  granted = admit-granted (lengths given) Surface c.in_ok-n.ensures start.requires (record { small = λ i. (c.type_inv.s i).fits })

  cells_are : c.in_ok-n.n.cells ≡ cells_of given.question
  cells_are = cells-of granted.cell-counts

-- ---- 10 to 12

pub returns-then-chain-n : goal.returns-then-chain-n
returns-then-chain-n c =
    let k = (goal.at.returns-then-chain-n c).In_ok-n in
    length-refuses (given k) (z k) (granted k) (λ e. c.if-chain-n.true (e ∙ sym (cells_are k)))

module _ (c : Else-chain-n) where
  abbrev known : In_ok-n
  known = (goal.at.Else-chain-n c).In_ok-n

  size : length (z known) ≡ cells_of (given known).question
  size = c.if-chain-n.false ∙ cells_are known

pub check_within-requires : goal.check_within-requires
check_within-requires c =
    let g = granted (known c) in record { accepted = g.library; p_le_top = (g.passed.dimension, size c, omega arith) }

pub returns-in_err-check_within : goal.returns-in_err-check_within
returns-in_err-check_within c =
    let e = (goal.at.returns-in_err-check_within c).Else-chain-n in
    let k = known e in
    let x = err_from_is_err_and c.from_residual-in_err-check_within.result c.from_residual-in_err-check_within.ensures.1 in
    rw (x.1, x.2) (cycle-refuses (given k) (z k) (granted k) (size e) _ c.in_err-check_within.ensures)

module _ (c : In_ok-check_within) where
  abbrev sized : Else-chain-n
  sized = (goal.at.In_ok-check_within c).Else-chain-n

  abbrev at : In_ok-n
  at = known sized

  passed : first_refusal (cycle_checks surface_coefficient_limit (sections_of (given at).question.sheet) (given at).question.dimension (z at)) ≡ 0
  passed = c.in_ok-check_within.ensures

-- ---- the reductions

pub reduce_twice-requires : goal.reduce_twice-requires
reduce_twice-requires c =
    let g = granted (at (goal.at.reduce_twice-requires c).In_ok-check_within) in
    record { accepted = (g.library, g.passed.dimension); p_in_bounds = g.passed.work-slots; cell_counts_read = g.cell-counts }

pub returns-in_err-reduced : goal.returns-in_err-reduced
returns-in_err-reduced c =
    let t = (goal.at.returns-in_err-reduced c).In_ok-check_within in
    let x = err_from_is_err_and c.from_residual-in_err-reduced.result c.from_residual-in_err-reduced.ensures.1 in
    rw (x.1, x.2) (surface-wide (given (at t)) (z (at t)) (granted (at t)) (size (sized t)) (passed t) c.in_err-reduced.ensures)

-- ---- the surface

module _ (c : In_ok-reduced) where
  abbrev checked : In_ok-check_within
  checked = (goal.at.In_ok-reduced c).In_ok-check_within

pub bounds_nothing-requires : goal.bounds_nothing-requires
bounds_nothing-requires c =
    let t = checked c in
    can_write (given (at t)) (z (at t)) (granted (at t)) (size (sized t)) (passed t) c.in_ok-reduced.ensures

pub returns-then-bounds_nothing : goal.returns-then-bounds_nothing
returns-then-bounds_nothing c =
    let k = (goal.at.returns-then-bounds_nothing c).In_ok-reduced in
    let t = checked k in
    surface-bounds-nothing (given (at t)) (z (at t)) (granted (at t)) (size (sized t)) (passed t) k.in_ok-reduced.ensures
    (sym c.bounds_nothing.ensures ∙ c.if-bounds_nothing.true) c.clear.ensures

pub write_surface-requires : goal.write_surface-requires
write_surface-requires c =
    let k = (goal.at.write_surface-requires c).In_ok-reduced in
    let t = checked k in
    record {
      can_surface = can_write (given (at t)) (z (at t)) (granted (at t)) (size (sized t)) (passed t) k.in_ok-reduced.ensures;
      column_follower_in_bounds = has_room (given (at t)) (z (at t)) (granted (at t)) (size (sized t)) (passed t) k.in_ok-reduced.ensures;
    }

pub counts-counts-requires : goal.counts-counts-requires
counts-counts-requires c =
    let k = (goal.at.counts-counts-requires c).In_ok-reduced in
    let g = granted (at (checked k)) in
    can-count pivot_rule-is-rule g.complex g.passed.work-slots k.in_ok-reduced.ensures

pub returns : goal.returns
returns c =
    let k = (goal.at.returns c).In_ok-reduced in
    let t = checked k in
    surface-done (given (at t)) (z (at t)) (granted (at t)) (size (sized t)) (passed t) k.in_ok-reduced.ensures
    (sym c.bounds_nothing.ensures ∙ c.if-bounds_nothing.false) c.counts-counts.ensures c.write_surface.ensures c.clear-2.ensures
