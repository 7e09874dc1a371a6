-- `write_closure` meets its contract: the faces fit or not, and so does the sheet, which is written to an array and swept from there.
use mathlib.Core.Path.{◌≡◌}
use mathlib.Core.List.{List, ◌++◌}
use Prim.Native.Nat.{suc, ◌≤◌}
use native.Mathlib.Omega.{arith}
use lib.ListN.{length, drop, replicate}
use Rattle.std.proofs.lemmas.Result.{err_from_is_err_and}
use Rattle.limits.specs.Limits.{library_limit}
use Rattle.complexes.specs.Cell.{Cell}
use Rattle.sheet_format.specs.Layout.{top, layout, longest}
use Rattle.closures.specs.Closure.{element_top, own_sections, closure}
use Rattle.cell_sets.specs.Set.{Holds}
use Rattle.sheet_writer.specs.Write.{count_of}
use Rattle.sheet_writer.proofs.Bytes.{start_small, counts-small}
use Rattle.importer.proofs.Writing.{too-many-faces, slice-too-short, unswept-counts, sheet-written}
use Rattle.importer.proofs.import.write_closure.Goals as goal
use Rattle.importer.proofs.import.write_closure.Goals.{After-write_sheet}

pub returns-in_err-close : goal.returns-in_err-close
returns-in_err-close c cs h =
    let e = err_from_is_err_and c.from_residual.result c.from_residual.ensures.1 in
    rw (e.1, e.2) (too-many-faces c.args.cells.now.limit (closure element_top cs) c.args.out.now (c.in_err-close.ensures.closes cs h))

pub returns-then-out-sheet_length : goal.returns-then-out-sheet_length
returns-then-out-sheet_length c cs h =
    slice-too-short c.args.cells.now.limit (closure element_top cs) c.args.out.now
    (omega (arith, c.if-out-sheet_length.true, c.sheet_length.ensures (closure element_top cs) (c.in_ok-close.ensures.closes cs h)))

pub write_sheet-requires : goal.write_sheet-requires
write_sheet-requires c =
    let s = c.close.new.self in
    start_small (count_of s.counts) (counts-small s).within (suc top) (omega arith)

-- the sheet is written to an array of zeros
module _ (c : After-write_sheet) (cs : List Cell) (h : Holds c.args.cells.now (own_sections element_top cs)) where
  held : Holds c.close.new.self (closure element_top cs)
  held = c.in_ok-close.ensures.closes cs h

  size : length (layout (closure element_top cs)) ≤ length c.args.out.now
  size = omega (arith, c.if-out-sheet_length.false, c.sheet_length.ensures (closure element_top cs) held)

  written : c.write_sheet.new.sheet ≡ layout (closure element_top cs) ++ drop (length (layout (closure element_top cs))) (replicate (longest library_limit) 0)
  written = c.write_sheet.ensures (closure element_top cs) held

pub write_swept-requires : goal.write_swept-requires
write_swept-requires c =
    let w = (goal.at.write_swept-requires c).After-write_sheet in
    let cs = c.requires.elements in
    unswept-counts c.args.cells.now.limit (closure element_top cs) c.args.out.now (held w cs c.requires.holds) c.in_ok-close.ensures.limit
    (written w cs c.requires.holds)

pub returns : goal.returns
returns c cs h =
    let w = (goal.at.returns c).After-write_sheet in
    sheet-written c.args.cells.now.limit (closure element_top cs) c.args.out.now (held w cs h) c.in_ok-close.ensures.limit (size w cs h) (written w cs h)
    c.write_swept.ensures
