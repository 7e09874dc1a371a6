-- `line::swap_entries` meets its contract.
use mathlib.Core.Path.{ap, ◌∙◌}
use Prim.Native.Nat.{ℕ, max}
use Rattle.integers.specs.Slot.{slot}
use Rattle.matrix_lines.proofs.Entries.{larger-size}
use Rattle.matrix_lines.proofs.Store.{raised-twice, exchanged}
use Rattle.machine_words.specs.Read.{read-entry}
use Rattle.matrix_lines.proofs.line.swap_entries.Goals as goal

pub returns : goal.returns
returns c =
    let w = c.args.w.now in let a = c.args.a in let b = c.args.b in let bound = c.requires.bounded in let inside = c.requires.a_in_bounds in
    rw (read-entry (slot w a) (bound.bound a), read-entry (slot w b) (bound.bound b))
    (exchanged w a b inside.0 inside.1 bound
    (raised-twice (slot w a) (slot w b)
    (c.max-2.ensures
    ∙ ap (λ (m : ℕ). max c.args.before m)
    (larger-size (slot w a) (slot w b) (bound.bound a) (bound.bound b) c.unsigned_abs.ensures.value c.unsigned_abs-2.ensures.value c.max.ensures c.from.ensures))
    bound.limit (bound.bound a) (bound.bound b)))
