-- The section of a sheet of bytes s.
use Rattle.std.specs.Prelude.{◌≡◌, List, ℕ, suc, ◌+◌, ◌*◌, ◌≤◌}
use Rattle.complexes.specs.Cell.{Cell}
use Rattle.sheet_format.specs.Layout.{top}
use Rattle.sheet_format.specs.Check.{count_field, start_at, cell_of, cells_of}
use Rattle.cells.specs.declared.section.Section.{Section}

-- it is that of dimension p
pub record IsSection (s : List ℕ) (p : ℕ) (section : Section) : Type 0 where
  pub inside : p ≤ top
  pub starts : section.at ≡ start_at s p
  pub sized : section.vertices ≡ suc p
  pub counted : section.many ≡ count_field s p

-- its cell i
abbrev pub cell_in : List ℕ → Section → ℕ → Cell
cell_in s section i = cell_of s section.vertices (section.at + 2 * (section.vertices * i))

-- its cells
abbrev pub cells_in : List ℕ → Section → List Cell
cells_in s section = cells_of s section.vertices section.many section.at
