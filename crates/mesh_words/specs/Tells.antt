-- What the functions over a mesh text answer, in the words of the definitions of crate `mesh_format`.
use Rattle.std.specs.Prelude.{List, ℕ, Option, Some, None}
use Rattle.std.specs.Borrow.{Bor}
use Rattle.mesh_format.specs.Parse.{Parsed, malformed, parsed}
use Rattle.mesh_words.specs.declared.reader.Reader.{Reader}

-- the reader r moved to a position
abbrev pub moved : Reader → ℕ → Reader
moved r at = record { text = r.text; at = at }

unfoldable pub tell_skipped : Reader → Parsed Unit → Option Reader
tell_skipped r malformed = None
tell_skipped r (parsed _ at) = Some (moved r at)

unfoldable pub tell_read : {A : Type 0} → Reader → Parsed A → Option (A × Reader)
tell_read r malformed = None
tell_read r (parsed x at) = Some (x, moved r at)

-- the same by the position
unfoldable pub tell_at : {A : Type 0} → Parsed A → Option (A × ℕ)
tell_at malformed = None
tell_at (parsed x at) = Some (x, at)

-- the bytes in an answer
abbrev pub bytes_of : Option (Bor (List ℕ) × Reader) → Option (List ℕ × Reader)
bytes_of None = None
bytes_of (Some p) = Some (p.0.now, p.1)
