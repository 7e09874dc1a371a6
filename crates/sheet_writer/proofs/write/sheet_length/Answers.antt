-- `sheet_length` meets its contract: the sheet ends where a further section would start.
use mathlib.Core.Path.{sym, ap, ◌∙◌}
use native.Mathlib.Omega.{arith}
use mathlib.Core.List.{List}
use Prim.Native.Nat.{ℕ, suc}
use Rattle.sheet_format.specs.Layout.{top, start}
use Rattle.sheet_writer.specs.Write.{count_of}
use Rattle.sheet_writer.proofs.Bytes.{counts-small, length-held}
use Rattle.sheet_writer.proofs.write.sheet_length.Goals as goal

pub section_start-requires : goal.section_start-requires
section_start-requires c = rw c.counts.ensures (omega arith, counts-small c.args.cells.now)

pub returns : goal.returns
returns c K h = c.section_start.ensures ∙ ap (λ (t : List ℕ). start (count_of t) (suc top)) c.counts.ensures ∙ sym (length-held h)
