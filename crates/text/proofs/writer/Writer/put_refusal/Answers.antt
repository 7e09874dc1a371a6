-- `put_refusal` meets its contract: the single number of the line is the refusal's.
use mathlib.Core.Path.{◌∙◌, ap}
use native.Mathlib.Omega.{arith}
use lib.IntN.{pos}
use mir.Syntax.{w64}
use mir.Facts.{to_z_pos}
use Rattle.text.proofs.writer.Writer.put_refusal.Goals as goal

pub returns : goal.returns
returns c =
    let number = to_z_pos w64 {n = c.number.result} (omega arith) ∙ ap pos c.number.ensures in rw number at c.put_line.ensures
