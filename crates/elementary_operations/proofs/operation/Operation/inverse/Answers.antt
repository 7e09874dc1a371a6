-- `Operation::inverse` meets its contract, case by case.
use mathlib.Core.Path.{sym, ap, subst, ◌∙◌}
use Prim.Native.Nat.{◌≤◌}
use lib.IntN.{ℤ, nat_abs}
use Rattle.matrices.specs.Operation.{subtract, inverse}
use Rattle.matrix_lines.specs.Slice.{entry_limit}
use Rattle.elementary_operations.specs.Operations.{operation_of, FactorWithin}
use Rattle.elementary_operations.specs.declared.operation.Operation.{Operation}
use Rattle.machine_words.specs.Negate.{negated-read}
use Rattle.elementary_operations.proofs.operation.Operation.inverse.Goals as goal
use Rattle.elementary_operations.proofs.operation.Operation.inverse.Goals.{In-Subtract}

-- the factor of a subtraction
factor : (c : In-Subtract) → nat_abs c.in-Subtract.q ≤ entry_limit
factor c = subst (λ (op : Operation). FactorWithin (operation_of op)) c.in-Subtract.is c.requires

pub returns-in-Subtract : goal.returns-in-Subtract
unfolding inverse
returns-in-Subtract c =
    ap (λ (y : ℤ). subtract c.in-Subtract.k c.in-Subtract.i y) (negated-read c.in-Subtract.q (factor (goal.at.returns-in-Subtract c).In-Subtract))
    ∙ ap (λ (op : Operation). inverse (operation_of op)) (sym c.in-Subtract.is)

pub returns-in-Swap : goal.returns-in-Swap
unfolding inverse
returns-in-Swap c = ap (λ (op : Operation). inverse (operation_of op)) (sym c.in-Swap.is)

pub returns-in-Negate : goal.returns-in-Negate
unfolding inverse
returns-in-Negate c = ap (λ (op : Operation). inverse (operation_of op)) (sym c.in-Negate.is)
