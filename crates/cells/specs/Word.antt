-- What packing a cell answers.
use Rattle.std.specs.Prelude.{◌≡◌, ℕ, suc, ◌+◌, length}
use Rattle.complexes.specs.Cell.{Cell, without}
use Rattle.complexes.specs.Packed.{packed, Numbered}

-- w is the word of the cell c, which has n vertices
pub record Packs (n : ℕ) (c : Cell) (w : ℕ) : Type 0 where
  pub sized : length c ≡ n
  pub numbered : Numbered c
  pub is : w ≡ packed c

-- r is the word of a cell less the vertex that `behind` vertices stand behind, told from the word w of the cell
abbrev pub LeavesOut : ℕ → ℕ → ℕ → Type 0
LeavesOut behind w r = (j : ℕ) (c : Cell) → Packs (suc (j + behind)) c w → Packs (j + behind) (without j c) r
