use mathlib.Core.Path.{ap, ◌∙◌}
use Rattle.std.specs.Prelude.{Ok}
use Rattle.std.proofs.lemmas.Result.{err_from_is_err_and}
use Prim.Native.Nat.{◌+◌}
use Rattle.reduction_steps.specs.Pivot.{pivot_rule}
use Rattle.reduction_steps.proofs.PivotLaws.{pivot_rule-is-rule}
use Rattle.reducer.proofs.Reductions.{Reducing, reducing-start, reducing-next, next-less, reducing-again, reduced, reduction-refused}
use Rattle.reducer.proofs.reduction.reduce_matrix.Goals as goal
use Rattle.reducer.proofs.reduction.reduce_matrix.Goals.{Start, At-loop-reached, After-choose_pivot, In-Cleared}

pub loop-reached-init : goal.loop-reached-init
loop-reached-init c = reducing-start c.requires.laid c.requires.under

-- a stage that was left
module _ (c : After-choose_pivot) where
  abbrev head : At-loop-reached
  head = (goal.at.After-choose_pivot c).At-loop-reached

-- the stage is cleared
next :
    (c : In-Cleared)
    → (let w = (goal.at.In-Cleared c).After-choose_pivot in
    Reducing pivot_rule (head w).args.workspace (head w).args.peak (head w).args.w.now ((head w).loop-reached.k + 1) c.in-Cleared.reached w.choose_pivot.new.w)
next c =
    let w = (goal.at.In-Cleared c).After-choose_pivot in let stage = w.choose_pivot in
    reducing-next pivot_rule-is-rule (head w).loop-reached.invariant _ stage.new.w stage.ensures (c.in_ok-reached.was ∙ ap Ok c.in-Cleared.is)

pub loop-reached-smaller-in-Cleared : goal.loop-reached-smaller-in-Cleared
loop-reached-smaller-in-Cleared c =
    let w = (goal.at.loop-reached-smaller-in-Cleared c).After-choose_pivot in let stage = w.choose_pivot in
    next-less pivot_rule-is-rule (head w).loop-reached.invariant _ stage.new.w stage.ensures (c.in_ok-reached.was ∙ ap Ok c.in-Cleared.is)

pub loop-reached-preserved-in-Cleared : goal.loop-reached-preserved-in-Cleared
loop-reached-preserved-in-Cleared c = next c

pub loop-reached-preserved : goal.loop-reached-preserved
loop-reached-preserved c =
    let w = (goal.at.loop-reached-preserved c).After-choose_pivot in let stage = w.choose_pivot in
    reducing-again pivot_rule-is-rule (head w).loop-reached.invariant _ stage.new.w stage.ensures (c.in_ok-reached.was ∙ ap Ok c.in-Again.is)

pub returns-in-Exhausted : goal.returns-in-Exhausted
returns-in-Exhausted c =
    let w = (goal.at.returns-in-Exhausted c).After-choose_pivot in let stage = w.choose_pivot in
    reduced pivot_rule-is-rule (head w).loop-reached.invariant _ stage.new.w stage.ensures (c.in_ok-reached.was ∙ ap Ok c.in-Exhausted.is)

pub returns-in_err-reached : goal.returns-in_err-reached
returns-in_err-reached c =
    let p = err_from_is_err_and c.from_residual.result c.from_residual.ensures.1 in
    rw (p.1, p.2) (reduction-refused pivot_rule-is-rule c.loop-reached.invariant _ c.choose_pivot.new.w c.choose_pivot.ensures c.in_err-reached.was)
