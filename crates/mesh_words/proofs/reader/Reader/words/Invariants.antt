-- `words` meets its contract. The loop's invariant: n words from the start on are the words left from `here` on, in the same text.
use mathlib.Core.Path.{◌≡◌}
use Prim.Native.Nat.{◌-◌}
use Rattle.mesh_format.specs.Parse.{words}
use Rattle.mesh_words.proofs.reader.Reader.words.Given as goal

abbrev pub invariant-loop : goal.invariant-loop
invariant-loop l =
    (words l.n l.self.text.now l.self.at ≡ words (l.n - l.counter) l.self.text.now l.here.at) × (l.here.text ≡ l.self.text)
