-- `CellCounts::of` meets its contract: each size is a field of the header.
use Rattle.two_reductions.proofs.Sheet.{cell-counts-read}
use Rattle.two_reductions.proofs.cell_counts.CellCounts.of.Goals as goal

pub returns : goal.returns
returns c = cell-counts-read c.args.s.now _ c.count.ensures c.rows_of.ensures c.count-2.ensures
