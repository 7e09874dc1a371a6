-- What reading the nodes of a mesh text answers and leaves.
use Rattle.std.specs.Prelude.{◌≡◌, List, ◌++◌, ℕ, Option}
use Rattle.mesh_format.specs.Parse.{Parsed, parsed}
use Rattle.mesh_words.specs.Steps.{skip}
use Rattle.mesh_words.specs.Tells.{tell_skipped}
use Rattle.mesh_words.specs.declared.reader.Reader.{Reader}
use Rattle.mesh_elements.specs.Listed.{Maps}

-- a tells where the reading of the nodes ended, and the map `after` has these nodes beside those of `before`
pub record ListsNodes (r : Reader) (p : Parsed (List ℕ)) (before after : List ℕ) (a : Option Reader) : Type 0 where
  pub told : a ≡ tell_skipped r (skip p)
  pub lists : (nodes : List ℕ) (at : ℕ) → p ≡ parsed nodes at → (listed : List ℕ) → Maps before listed → Maps after (listed ++ nodes)
