-- `put` meets its contract: one byte put over is a store.
use mathlib.Core.Path.{refl}
use native.Mathlib.Omega.{arith}
use Rattle.text.specs.PutLaws.{puts-byte, within-length}
use Rattle.text.proofs.writer.Writer.put.Goals as goal

pub returns : goal.returns
returns c =
    let a = c.args in record { same_reference = refl; puts = within-length (puts-byte a.byte a.self.now.at a.self.now.out.now (omega arith)) }
