-- `pass_section` meets its contract. The loop's invariant: the closing line is sought from `here` on, in the same text. The measure is what is left of
-- the text.
use mathlib.Core.Path.{◌≡◌}
use Prim.Native.Nat.{◌-◌}
use lib.ListN.{length}
use Rattle.mesh_format.specs.Words.{ending}
use Rattle.mesh_format.specs.Parse.{closing_line}
use Rattle.mesh_reader.proofs.section.pass_section.Given as goal

abbrev pub invariant-loop-line : goal.invariant-loop-line
invariant-loop-line l =
    (closing_line (ending l.name) l.r.text.now l.r.at ≡ closing_line (ending l.name) l.r.text.now l.here.at) × (l.here.text ≡ l.r.text)

abbrev pub decreases-loop-line : goal.decreases-loop-line
decreases-loop-line l = length l.r.text.now - l.here.at
