-- `write_sheet` meets its contract: the sections stand just behind the header.
use native.Mathlib.Omega.{arith}
use Rattle.sheet_writer.proofs.Bytes.{layout-put, counts-are, counts-small, header-fits}
use Rattle.sheet_writer.proofs.write.write_sheet.Goals as goal

pub write_header-requires : goal.write_header-requires
write_header-requires c = rw c.counts.ensures (counts-small c.args.cells.now, omega (arith, header-fits c.args.cells.now, c.requires))

pub write_sections-requires : goal.write_sections-requires
write_sections-requires c = omega (arith, c.write_header.auto.sheet)

pub returns : goal.returns
returns c K h =
    layout-put K (counts-are h) _ _ _ (rw c.counts.ensures at c.write_header.ensures) (c.write_sections.ensures K h)
