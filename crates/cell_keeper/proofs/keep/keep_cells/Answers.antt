-- `keep_cells` meets its contract: the counts give the sheet's length, and the cells stand just behind the header with these counts.
use mathlib.Core.Path.{◌≡◌, refl, ap, ◌∙◌, sym}
use mathlib.Core.List.{List, ◌++◌}
use Prim.Native.Nat.{ℕ, ◌+◌, ◌≤◌, ◌<◌}
use native.Mathlib.Omega.{arith}
use borrow.Author.Tests.{lt-ltb, le-ltb}
use lib.ListN.{length, drop}
use Rattle.std.specs.Prelude.{Ok, Err}
use Rattle.trials.specs.Trial.{done}
use Rattle.trials.specs.Write.{answer_with}
use Rattle.complexes.specs.Complex.{Sections}
use Rattle.sheet_format.specs.Layout.{header_length, sections_bytes, layout}
use Rattle.sheet_format.proofs.LayoutLaws.{length-parts}
use Rattle.refusal.specs.declared.Refusal.TheVariants.{SheetTooLong}
use Rattle.refusal.specs.Written.{WriteAnswers}
use Rattle.sheet_writer.specs.Write.{Small}
use Rattle.sheet_writer.proofs.Bytes.{layout-put}
use Rattle.cell_keeper.specs.Unmarked.{unmarked_cells}
use Rattle.cell_keeper.specs.Keeps.{write_over}
use Rattle.cell_keeper.proofs.Staying.{count-unmarked, counts-are, layout-ends}
use Rattle.cell_keeper.proofs.keep.keep_cells.Goals as goal
use Rattle.cell_keeper.proofs.keep.keep_cells.Goals.{Start, After-count_cells-counts, After-section_start-length}
use Rattle.cell_keeper.proofs.keep.keep_cells.Goals.{Else-out-length, After-write_header, After-keep_sections}

-- ---- the answer

too_long : (bytes slice : List ℕ) → length slice < length bytes → WriteAnswers (write_over bytes slice) (Err SheetTooLong) slice
unfolding answer_with
too_long bytes slice h = rw (lt-ltb (length slice) (length bytes) h) (record { answer = refl; output-is = refl })

fits : (bytes slice : List ℕ) → length bytes ≤ length slice → {n : ℕ} {after : List ℕ} → n ≡ length bytes → after ≡ bytes ++ drop (length bytes) slice
    → WriteAnswers (write_over bytes slice) (Ok n) after
unfolding answer_with
fits bytes slice h e o = rw (le-ltb (length slice) (length bytes) h) (record { answer = ap done e; output-is = o })

-- ---- the counts

-- the counts as they were made
module _ (c : After-count_cells-counts) where
  abbrev start : Start
  start = (goal.at.After-count_cells-counts c).Start

  abbrev s : List ℕ
  s = start.args.s.now

  abbrev marks : List ℕ
  marks = start.args.marks.now

  abbrev L : Sections
  L = unmarked_cells s marks

  small : Small c.count_cells-counts.result
  small = record { within = λ p l. omega (arith, c.count_cells-counts.ensures.counted p l, count-unmarked s marks p, start.requires.0 p) }

-- the length of the sheet
module _ (c : After-section_start-length) where
  abbrev counted : After-count_cells-counts
  counted = (goal.at.After-section_start-length c).After-count_cells-counts

  measured : c.section_start-length.result ≡ length (layout (L counted))
  measured = c.section_start-length.ensures ∙ sym (layout-ends (s counted) (marks counted) counted.count_cells-counts.ensures)

-- there is room for it
module _ (c : Else-out-length) where
  abbrev m : After-section_start-length
  m = (goal.at.Else-out-length c).After-section_start-length

  room : header_length + length (sections_bytes (L (counted m))) ≤ length c.args.out.now
  room = omega (arith, measured m, length-parts (L (counted m)), c.if-out-length.false)

pub section_start-length-requires : goal.section_start-length-requires
section_start-length-requires c = (omega arith, small (goal.at.section_start-length-requires c).After-count_cells-counts)

pub returns-then-out-length : goal.returns-then-out-length
returns-then-out-length c =
    let m = (goal.at.returns-then-out-length c).After-section_start-length in
    too_long (layout (L (counted m))) (start (counted m)).args.out.now (omega (arith, measured m, c.if-out-length.true))

pub write_header-requires : goal.write_header-requires
write_header-requires c = let e = (goal.at.write_header-requires c).Else-out-length in (small (counted (m e)), omega (arith, room e))

pub keep_sections-requires : goal.keep_sections-requires
keep_sections-requires c =
    let w = (goal.at.keep_sections-requires c).After-write_header in
    let e = (goal.at.After-write_header w).Else-out-length in
    record { top_in_bounds = c.requires.1; marks_in_bounds = omega (arith, room e, w.write_header.auto.sheet) }

pub returns : goal.returns
returns c =
    let k = (goal.at.returns c).After-keep_sections in
    let w = (goal.at.After-keep_sections k).After-write_header in
    let e = (goal.at.After-write_header w).Else-out-length in
    let d = counted (m e) in
    fits (layout (L d)) (start d).args.out.now (omega (arith, measured (m e), e.if-out-length.false)) (measured (m e))
    (layout-put (L d) (counts-are (s d) (marks d) d.count_cells-counts.ensures) _ _ _ w.write_header.ensures k.keep_sections.ensures)
