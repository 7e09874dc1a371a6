-- `Sheet::read` meets its contract: one of the checks 1 to 7 gives the refusal, else check 18 decides.
use mathlib.Core.Path.{sym, ◌∙◌}
use Rattle.std.proofs.lemmas.Result.{err_from_is_err_and}
use Rattle.sheet.proofs.Accepted.{refused-before, refused-loose, accepted-last}
use Rattle.sheet.proofs.reader.Sheet.read.Goals as goal
use Rattle.sheet.proofs.reader.Sheet.read.Goals.{In_ok-read_complex}

pub returns-in_err-read_complex : goal.returns-in_err-read_complex
returns-in_err-read_complex c =
    let p = err_from_is_err_and c.from_residual.result c.from_residual.ensures.1 in
    rw (p.1, p.2) (refused-before c.in_err-read_complex.ensures)

pub returns-then-loose_node : goal.returns-then-loose_node
returns-then-loose_node c =
    refused-loose (goal.at.returns-then-loose_node c).In_ok-read_complex.in_ok-read_complex.ensures (sym c.loose_node.ensures ∙ c.if-loose_node.true)

pub returns : goal.returns
returns c =
    accepted-last (goal.at.returns c).In_ok-read_complex.in_ok-read_complex.ensures (sym c.loose_node.ensures ∙ c.if-loose_node.false)
