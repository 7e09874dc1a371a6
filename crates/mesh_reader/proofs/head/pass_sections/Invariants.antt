-- `pass_sections` meets its contract. The loop's invariant: the sections from the start on are those from `here` on, in the same text. The measure is
-- what is left of the text.
use mathlib.Core.Path.{◌≡◌}
use Prim.Native.Nat.{◌-◌}
use lib.ListN.{length}
use Rattle.mesh_format.specs.Parse.{sections}
use Rattle.mesh_reader.proofs.head.pass_sections.Given as goal

abbrev pub invariant-loop-word : goal.invariant-loop-word
invariant-loop-word l = (sections l.r.text.now l.r.at ≡ sections l.r.text.now l.here.at) × (l.here.text ≡ l.r.text)

abbrev pub decreases-loop-word : goal.decreases-loop-word
decreases-loop-word l = length l.r.text.now - l.here.at
