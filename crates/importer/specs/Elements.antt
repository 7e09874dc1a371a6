-- What reading the elements of a mesh text answers and leaves.
use Rattle.std.specs.Prelude.{◌≡◌, Bool, List, ℕ, Option, Some, None}
use Rattle.cell_sets.specs.declared.set.CellSet.{CellSet}
use Rattle.mesh_format.specs.Mesh.{Element}
use Rattle.mesh_format.specs.Parse.{Parsed, malformed, parsed}
use Rattle.mesh_words.specs.declared.reader.Reader.{Reader}
use Rattle.importer.specs.Gather.{Outcome, Gathers}

-- the elements that were read from r on, up to where q stands, and what gathering their cells told
pub record GathersRead (limit : ℕ) (is_listed : ℕ → Bool) (r : Reader) (p : Parsed (List Element)) (outcome : Outcome) (q : Reader) (s : CellSet)
    : Type 0 where
  pub read : List Element
  pub is : p ≡ parsed read q.at
  pub same : q.text ≡ r.text
  pub gathers : Gathers limit is_listed read outcome s

-- the answer tells the reading p of the elements
abbrev pub TellsElements : ℕ → (ℕ → Bool) → Reader → Parsed (List Element) → Option (Outcome × Reader) → CellSet → Type 0
TellsElements limit is_listed r p None s = p ≡ malformed
TellsElements limit is_listed r p (Some a) s = GathersRead limit is_listed r p a.0 a.1 s
