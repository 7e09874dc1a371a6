-- Demand 2, on acceptance, for every sheet b. A slice of bytes meets `Bytes`: the contract of `Sheet::read` says so.
use Rattle.std.specs.Prelude.{◌≡◌, ◌↔◌, ◌≢◌, List, ℕ, ◌≤◌}
use Rattle.limits.specs.Limits.{library_limit}
use Rattle.complexes.specs.Loose.{LooseNode}
use Rattle.sheet_format.specs.Check.{complex_refusal, refusal, sections_of}
use Rattle.sheet_format.specs.Sheet.{Bytes, IsLayout, IsSheet}

-- "A sheet of cells is accepted exactly when it holds a simplicial complex laid out as in 01"; 02, Note 7, "What "accepted" means gains this condition
-- throughout"
abbrev pub Acceptance : Type 0
Acceptance = (limit : ℕ) → limit ≤ library_limit → (b : List ℕ) → Bytes b → (refusal limit b ≡ 0) ↔ IsSheet limit b

-- .. and the cells that all claims speak of are those of the complex
abbrev pub SheetCells : Type 0
SheetCells = (limit : ℕ) → limit ≤ library_limit → (b : List ℕ) (laid : IsLayout limit b) → laid.cells ≡ sections_of b

-- 02, Note 7, "New numbers: 18, after 7 and before 8, for such a sheet": one that holds a complex with a loose node
pub record LooseSheet (limit : ℕ) (b : List ℕ) : Type 0 where
  pub laid : IsLayout limit b
  pub node : LooseNode laid.cells

abbrev pub LooseRefused : Type 0
LooseRefused = (limit : ℕ) → limit ≤ library_limit → (b : List ℕ) → Bytes b → (refusal limit b ≡ 18) ↔ LooseSheet limit b

-- .. and 1 to 7 are told before it
abbrev pub EarlierRefused : Type 0
EarlierRefused = (limit : ℕ) (b : List ℕ) → complex_refusal limit b ≢ 0 → refusal limit b ≡ complex_refusal limit b
