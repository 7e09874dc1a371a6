use mathlib.Core.Path.{◌≡◌, refl, sym, ap, ◌∙◌}
use mathlib.Core.Bool.{Bool, cond}
use mathlib.Core.List.{List, [], ◌∷◌}
use Prim.Native.Nat.{ℕ, suc, ◌+◌, ◌-◌, ◌*◌, ◌≤◌, ◌<◌}
use native.Mathlib.Numerals.{add-one}
use native.Mathlib.Omega.{arith}
use lib.ListN.{length, get_or, take, drop, length-append, length-drop}
use lib.Seq.{length-take-le, get_or-take, get_or-drop}
use Rattle.complexes.specs.Cell.{Cell}
use Rattle.complexes.specs.Complex.{section}
use Rattle.sheet_format.specs.Layout.{top, section_bytes}
use Rattle.sheet_format.specs.Check.{count_field, start_at, cell_of, cells_of}
use Rattle.sheet_format.specs.SheetLaws.{get_or-cells_of}
use Rattle.closures.specs.Keep.{kept, cells_below}
use Rattle.closures.proofs.KeepCount.{kept-none}
use Rattle.fields.proofs.Offset.{most, few}
use Rattle.cell_keeper.specs.Unmarked.{unmarked_cells, if_stays, stays_at, Puts}
use Rattle.cell_keeper.proofs.Staying.{section-unmarked}
use Rattle.cell_keeper.proofs.Putting.{puts_none, puts-behind, kept-bytes, kept-bytes-le}
use Rattle.cell_keeper.proofs.copy.keep_section.Invariants.{Invariant}
use Rattle.cell_keeper.proofs.copy.keep_section.Goals as goal
use Rattle.cell_keeper.proofs.copy.keep_section.Goals.{Start, After-start-at, In-loop-i, After-keep_cell-next}

none : (keeps : ℕ → Bool) (l : List Cell) (sheet : List ℕ) (to : ℕ) → Invariant keeps l sheet to sheet to 0
unfolding section_bytes
none keeps l sheet to = record { long = refl; puts = rw (kept-none keeps l) (puts_none to sheet) }

module _ {keeps : ℕ → Bool} {l : List Cell} {sheet₀ : List ℕ} {to : ℕ} {sheet : List ℕ} {next i : ℕ}
    (inv : Invariant keeps l sheet₀ to sheet next i) where
  -- there is room for cell i, if it stays
  room : (many : ℕ) → i < many → to + length (section_bytes (kept keeps l many)) ≤ length sheet₀
      → next + length (section_bytes (cond (keeps i) (get_or l i [] ∷ []) [])) ≤ length sheet
  room many h k =
      omega (
        arith,
        inv.puts.ends,
        inv.long,
        ap length (kept-bytes keeps l i),
        length-append (section_bytes (kept keeps l i)) (section_bytes (cond (keeps i) (get_or l i [] ∷ []) [])),
        kept-bytes-le keeps l (suc i) many h,
      )

  one_more : to ≤ length sheet₀ → {next' : ℕ} {sheet' : List ℕ} → length sheet' ≡ length sheet
      → Puts next (section_bytes (cond (keeps i) (get_or l i [] ∷ []) [])) sheet next' sheet' → Invariant keeps l sheet₀ to sheet' next' (i + 1)
  one_more h same p = record { long = same ∙ inv.long; puts = rw (add-one i, kept-bytes keeps l i) (puts-behind h inv.puts p) }

-- cell i as the code reads it
cell-is : (s marks : List ℕ) (p from many at i : ℕ) → i < many
    → section_bytes (if_stays (get_or marks (from + i) 0) (cell_of s (p + 1) (at + 2 * ((p + 1) * i))))
    ≡ section_bytes (cond (stays_at marks from i) (get_or (cells_of s (suc p) many at) i [] ∷ []) [])
cell-is s marks p from many at i h =
    rw (add-one p) (ap (λ (c : Cell). section_bytes (if_stays (get_or marks (from + i) 0) c)) (sym (get_or-cells_of s (suc p) many at i h)))

-- all of them
section-is : (s marks : List ℕ) (p from many at : ℕ) → p ≤ top → from ≡ cells_below (count_field s) p → many ≡ count_field s p → at ≡ start_at s p
    → kept (stays_at marks from) (cells_of s (suc p) many at) many ≡ section (unmarked_cells s marks) p
section-is s marks p from many at h e f g = rw (e, f, g) (sym (section-unmarked s marks p h))

pub loop-i-init : goal.loop-i-init
loop-i-init c = none _ _ _ _

-- where the section stands, and all its cells that stay
module _ (c : After-start-at) where
  abbrev start : Start
  start = (goal.at.After-start-at c).Start

  abbrev s : List ℕ
  s = start.args.s.now

  abbrev marks : List ℕ
  marks = start.args.marks.now

  abbrev p : ℕ
  p = start.args.p

  abbrev from : ℕ
  from = start.args.from

  abbrev many : ℕ
  many = c.count-many.result

  abbrev at : ℕ
  at = c.start-at.result

  whole : kept (stays_at marks from) (cells_of s (suc p) many at) many ≡ section (unmarked_cells s marks) p
  whole = section-is s marks p from many at start.requires.p_le_top.0 start.requires.p_le_top.1 c.count-many.ensures.is c.start-at.ensures.is

  -- the marks of the section
  abbrev items : List ℕ
  items = take (from + many - from) (drop from marks)

  marked : from + many ≤ length marks
  marked = omega (arith, start.requires.p_le_top.2, c.count-many.ensures.is)

  length-items : length items ≡ many
  length-items = omega (arith, length-take-le (from + many - from) (drop from marks) (omega (arith, length-drop from marks, marked)))

  item : (i : ℕ) → i < many → get_or items i 0 ≡ get_or marks (from + i) 0
  item i h = get_or-take (from + many - from) (drop from marks) i 0 (omega arith) ∙ get_or-drop from marks i 0

-- cell i
module _ (c : In-loop-i) where
  abbrev r : After-start-at
  r = (goal.at.In-loop-i c).After-start-at

  abbrev i : ℕ
  i = c.loop-i.i

  within : i < many r
  within = omega (arith, c.loop-i-test.true, length-items r)

  vertices : (p r + 1) * i ≤ most
  vertices = few (p r + 1) i (omega (arith, (start r).requires.p_le_top.0)) (omega (arith, within, r.count-many.ensures.below))

  bytes-are : section_bytes (if_stays (get_or (items r) i 0) (cell_of (s r) (p r + 1) (at r + 2 * ((p r + 1) * i))))
      ≡ section_bytes (cond (stays_at (marks r) (from r) i) (get_or (cells_of (s r) (suc (p r)) (many r) (at r)) i [] ∷ []) [])
  bytes-are =
      ap (λ (m : ℕ). section_bytes (if_stays m (cell_of (s r) (p r + 1) (at r + 2 * ((p r + 1) * i))))) (item r i within)
      ∙ cell-is (s r) (marks r) (p r) (from r) (many r) (at r) i within

pub overflow_add-mark-items : goal.overflow_add-mark-items
overflow_add-mark-items c = omega (arith, marked (goal.at.overflow_add-mark-items c).After-start-at)

pub overflow_mul-p : goal.overflow_mul-p
overflow_mul-p c = omega (arith, vertices (goal.at.overflow_mul-p c).In-loop-i)

pub overflow_mul-p-in-loop-i : goal.overflow_mul-p-in-loop-i
overflow_mul-p-in-loop-i c = omega (arith, vertices (goal.at.overflow_mul-p-in-loop-i c).In-loop-i)

pub overflow_add-at : goal.overflow_add-at
overflow_add-at c = omega (arith, vertices (goal.at.overflow_add-at c).In-loop-i, c.start-at.ensures.below)

pub keep_cell-next-requires : goal.keep_cell-next-requires
keep_cell-next-requires c =
    let turn = (goal.at.keep_cell-next-requires c).In-loop-i in
    let r = (goal.at.In-loop-i turn).After-start-at in (
      omega (arith, vertices turn, r.start-at.ensures.below),
      omega (arith, (start r).requires.p_le_top.0),
      rw (bytes-are turn)
          (room turn.loop-i.invariant (many r) (within turn) (rw (whole r) (start r).requires.p_in_bounds)),
    )

pub loop-i-preserved : goal.loop-i-preserved
loop-i-preserved c =
    let kept = (goal.at.loop-i-preserved c).After-keep_cell-next in
    let turn = (goal.at.After-keep_cell-next kept).In-loop-i in
    let r = (goal.at.In-loop-i turn).After-start-at in
    one_more turn.loop-i.invariant (omega (arith, (start r).requires.p_in_bounds)) kept.keep_cell-next.auto.sheet
    (rw (bytes-are turn) at kept.keep_cell-next.ensures)

pub returns : goal.returns
returns c =
    let r = (goal.at.returns c).After-start-at in
    let last : c.loop-i.i ≡ many r = omega (arith, length-items r) in
    rw (last, whole r) at c.loop-i.invariant.puts
