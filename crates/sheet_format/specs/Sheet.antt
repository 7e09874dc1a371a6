-- What demand 2 says of a sheet: it holds a simplicial complex laid out as in document 01, "The sheet", without loose nodes: document 02, Note 7.
use Rattle.std.specs.Prelude.{◌≡◌, List, ℕ, ◌<◌, get_or}
use Rattle.complexes.specs.Complex.{Sections, Complex}
use Rattle.complexes.specs.Loose.{NoLooseNodes}
use Rattle.sheet_format.specs.Layout.{top, layout}

-- every number of b is a byte
pub record Bytes (b : List ℕ) : Type 0 where
  pub small : (i : ℕ) → get_or b i 0 < 256

-- b is the layout of a complex with at most `limit` cells in each dimension
pub record IsLayout (limit : ℕ) (b : List ℕ) : Type 0 where
  pub cells : Sections
  pub complex : Complex top limit cells
  pub bytes : layout cells ≡ b

-- .. of one that has no edge, or each of whose vertices stands in one
pub record IsSheet (limit : ℕ) (b : List ℕ) : Type 0 where
  pub laid : IsLayout limit b
  pub used : NoLooseNodes laid.cells
