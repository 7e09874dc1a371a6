-- `face::sign` meets its contract.
use mathlib.Core.Path.{sym}
use native.Mathlib.Omega.{arith}
use Rattle.faces.proofs.Signs.{signs}
use Rattle.faces.proofs.face.sign.Goals as goal

-- src/face.rt:18:1
pub returns-then-t-eq0 : goal.returns-then-t-eq0
returns-then-t-eq0 c = sym ((signs c.args.t).even c.if-t-eq0.true)

-- src/face.rt:18:1
pub returns-else-t-eq0 : goal.returns-else-t-eq0
returns-else-t-eq0 c = sym ((signs c.args.t).odd (omega (arith, c.if-t-eq0.false)))
