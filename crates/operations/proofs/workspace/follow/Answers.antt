-- `operations::workspace::follow` meets its contract, by what `on_lines` ensures of the follower and then of the inverse companion.
use mathlib.Core.Path.{subst}
use mathlib.Core.Bool.{false≢true}
use Prim.Native.Nat.{ℕ}
use Rattle.std.specs.Prelude.{List, ℤ, Result, Ok, Err, IsErr}
use Rattle.matrices.specs.Operation.{Operation, on_rows, inverse}
use Rattle.matrix_lines.specs.Matrices.{contents}
use Rattle.elementary_operations.specs.Operations.{operation_of, Writes, OnLines}
use Rattle.matrix_lines.specs.declared.matrix.Matrix.{Matrix}
use Rattle.matrix_lines.specs.declared.line.TooWide.{TooWide}
use Rattle.elementary_operations.proofs.Holding.{holds-nothing}
use Rattle.operations.specs.Laid.{Followed}
use Rattle.operations.proofs.workspace.follow.Goals as goal
use Rattle.operations.proofs.workspace.follow.Goals.{Start}

-- both companions are absent
pub returns-then-inverse-eq0 : goal.returns-then-inverse-eq0
returns-then-inverse-eq0 c =
    let s = (goal.at.returns-then-inverse-eq0 c).Start in let w = s.args.w.now in let F = s.args.follower in let U = s.args.inverse in
    let op = operation_of s.args.op in
    Followed.followed (holds-nothing F w (λ i j. Writes op i) (on_rows op (contents F w)) c.if-follower-eq0.true s.requires.held.2) (Ok s.args.before)
    (holds-nothing U w (λ i j. Writes (inverse op) i) (on_rows (inverse op) (contents U w)) c.if-inverse-eq0.true s.requires.held.2)

-- the follower went too wide
stopped :
    (F U : Matrix) (op : Operation) (before : ℕ) (w w' : List ℤ) (e : TooWide) → OnLines F w op before (Err e) w' → (r : Result ℕ TooWide) → IsErr r
    → Followed F U op before w r w'
stopped F U op before w w' e h (Ok x) wide = absurd (false≢true wide)
stopped F U op before w w' e h (Err d) wide = Followed.stopped h

pub returns-in_err-first : goal.returns-in_err-first
returns-in_err-first c =
    stopped c.args.follower c.args.inverse (operation_of c.args.op) c.args.before c.args.w.now c.on_lines.new.w c.in_err-first.field-0.0 c.in_err-first.ensures
    c.from_residual.result c.from_residual.ensures.0

pub returns : goal.returns
returns c =
    Followed.followed c.in_ok-first.ensures c.on_lines-2.result
    (subst (λ (op : Operation). OnLines c.args.inverse c.on_lines.new.w op c.in_ok-first.first c.on_lines-2.result c.on_lines-2.new.w)
    c.inverse-undone.ensures c.on_lines-2.ensures)
