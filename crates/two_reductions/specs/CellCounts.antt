-- The cell counts of a dimension.
use Rattle.std.specs.Prelude.{◌≡◌, ℕ, suc}
use Rattle.complexes.specs.Complex.{Sections, count}
use Rattle.complexes.specs.Boundary.{count_below}
use Rattle.two_reductions.specs.declared.cell_counts.CellCounts.{CellCounts}

-- the counts that a dimension works with, of any size
pub record DimensionCounts : Type 0 where
  pub cells : ℕ
  pub rows : ℕ
  pub columns : ℕ

abbrev pub cell_counts_in : Sections → ℕ → DimensionCounts
cell_counts_in K p = record { cells = count K p; rows = count_below K p; columns = count K (suc p) }

abbrev pub counts_of : CellCounts → DimensionCounts
counts_of n = record { cells = n.cells; rows = n.rows; columns = n.columns }

-- the cell counts of dimension p of the cells K; that each fits a field is in the type
pub record CellCountsRead (K : Sections) (p : ℕ) (r : CellCounts) : Type 0 where
  pub is : counts_of r ≡ cell_counts_in K p
