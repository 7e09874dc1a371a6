use mathlib.Core.Path.{◌≡◌, refl, ap, ◌∙◌}
use mathlib.Core.List.{List, ◌++◌}
use Prim.Native.Nat.{ℕ, suc, ◌+◌, ◌≤◌, ◌<◌}
use native.Mathlib.Numerals.{add-one}
use native.Mathlib.Omega.{arith}
use lib.ListN.{length, take, length-append}
use lib.Seq.{take_all}
use Rattle.lists.specs.Splice.{splice}
use Rattle.complexes.specs.Complex.{section}
use Rattle.sheet_format.specs.Layout.{top, header_length, section_bytes, sections_bytes}
use Rattle.sheet_format.specs.Check.{count_field}
use Rattle.closures.specs.Keep.{cells_below}
use Rattle.closures.proofs.KeepCount.{cells_below-next, cells_below-within}
use Rattle.sheet_writer.proofs.Bytes.{sections_bytes-next, sections_bytes-le}
use Rattle.cell_keeper.specs.Unmarked.{unmarked_cells, Puts}
use Rattle.cell_keeper.proofs.Staying.{length-unmarked}
use Rattle.cell_keeper.proofs.Putting.{puts_none, puts-behind}
use Rattle.cell_keeper.proofs.copy.keep_sections.Invariants.{Invariant}
use Rattle.cell_keeper.proofs.copy.keep_sections.Goals as goal
use Rattle.cell_keeper.proofs.copy.keep_sections.Goals.{In-loop-p, After-keep_section-to}

none : (b marks sheet : List ℕ) → Invariant b marks sheet sheet header_length 0 0
unfolding cells_below sections_bytes
none b marks sheet = record { within = omega arith; long = refl; passed = refl; puts = puts_none header_length sheet }

module _ {b marks sheet₀ sheet : List ℕ} {to from p : ℕ} (inv : Invariant b marks sheet₀ sheet to from p) (l : p < suc top) where
  next : sections_bytes (take (suc p) (unmarked_cells b marks))
      ≡ sections_bytes (take p (unmarked_cells b marks)) ++ section_bytes (section (unmarked_cells b marks) p)
  next = sections_bytes-next (unmarked_cells b marks) p (omega (arith, length-unmarked b marks))

  -- the marks of dimension p, and room for its cells that stay
  marked : cells_below (count_field b) (suc top) ≤ length marks → from + count_field b p ≤ length marks
  marked h = omega (arith, inv.passed, cells_below-within (count_field b) p (suc top) l)

  room : header_length + length (sections_bytes (unmarked_cells b marks)) ≤ length sheet₀
      → to + length (section_bytes (section (unmarked_cells b marks) p)) ≤ length sheet
  room h =
      omega (
        arith,
        inv.puts.ends,
        inv.long,
        ap length next,
        length-append (sections_bytes (take p (unmarked_cells b marks))) (section_bytes (section (unmarked_cells b marks) p)),
        sections_bytes-le (unmarked_cells b marks) (suc p),
      )

  one_more : header_length ≤ length sheet₀ → {many to' : ℕ} {sheet' : List ℕ} → many ≡ count_field b p → length sheet' ≡ length sheet
      → Puts to (section_bytes (section (unmarked_cells b marks) p)) sheet to' sheet' → Invariant b marks sheet₀ sheet' to' (from + many) (p + 1)
  one_more h e same puts = record {
    within = omega arith;
    long = same ∙ inv.long;
    passed = rw (add-one p) (omega (arith, inv.passed, e, cells_below-next (count_field b) p));
    puts = rw (add-one p, next) (puts-behind h inv.puts puts);
  }

all : {b marks sheet₀ sheet : List ℕ} {to from p : ℕ} → Invariant b marks sheet₀ sheet to from p → suc top ≤ p
    → sheet ≡ splice header_length (sections_bytes (unmarked_cells b marks)) sheet₀
all {b} {marks} {p = p} inv l = rw (take_all p (unmarked_cells b marks) (omega (arith, length-unmarked b marks))) at inv.puts.is

pub loop-p-init : goal.loop-p-init
loop-p-init c = none _ _ _

pub keep_section-to-requires : goal.keep_section-to-requires
keep_section-to-requires c =
    let turn = (goal.at.keep_section-to-requires c).In-loop-p in
    let inv = turn.loop-p.invariant in
    let pre = turn.requires in
    let small = turn.loop-p-test.true in
    record { p_le_top = (omega arith, inv.passed, marked inv small pre.top_in_bounds); p_in_bounds = room inv small pre.marks_in_bounds }

pub overflow_add-from : goal.overflow_add-from
overflow_add-from c =
    let turn = (goal.at.overflow_add-from c).In-loop-p in
    omega (arith, marked turn.loop-p.invariant turn.loop-p-test.true turn.requires.top_in_bounds, c.count-from.ensures.is)

pub loop-p-preserved : goal.loop-p-preserved
loop-p-preserved c =
    let copied = (goal.at.loop-p-preserved c).After-keep_section-to in
    let turn = (goal.at.After-keep_section-to copied).In-loop-p in
    one_more turn.loop-p.invariant turn.loop-p-test.true (omega (arith, turn.requires.marks_in_bounds)) c.count-from.ensures.is
    copied.keep_section-to.auto.sheet copied.keep_section-to.ensures

pub returns : goal.returns
returns c = all c.loop-p.invariant c.loop-p-test.false
