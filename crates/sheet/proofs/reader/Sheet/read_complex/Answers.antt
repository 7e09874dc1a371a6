-- `Sheet::read_complex` meets its contract: each check that tells no fault leaves the later ones, and the first that tells one gives the refusal.
use borrow.Author.Tests.{lt-ltb, le-ltb, eq-eqb, ne_eqb}
use mathlib.Core.Path.{◌≡◌, sym, ap, ◌∙◌}
use mathlib.Core.Bool.{false, not}
use mathlib.Core.List.{List}
use Prim.Native.Nat.{ℕ, suc}
use lib.ListN.{length, drop}
use Rattle.sheet_format.specs.Layout.{top, header_length}
use Rattle.sheet_format.specs.Check.{start_at, sections_of, cells_do_not_rise, complex_checks}
use Rattle.refusal.specs.declared.Refusal.TheVariants.{SheetTooShort, CountExceedsLimit, OffsetDiffers, LengthDiffers, VerticesDoNotRise, CellsDoNotRise, FaceMissing}
use Rattle.sheet.proofs.Trying.{Untold, begun, passed, refuses, accepts}
use Rattle.sheet.proofs.reader.Sheet.read_complex.Goals as goal
use Rattle.sheet.proofs.reader.Sheet.read_complex.Goals.{Start, After-shared_slice_known-1, Else-s-lt-HEADER_LENGTH, Else-count_exceeds, Else-offset_differs, Else-s-start, Else-vertices_do_not_rise, Else-cells_do_not_rise}

abbrev sheet_of : Start → List ℕ
sheet_of c = c.args.s.now

abbrev start₂ : Else-count_exceeds → Start
start₂ c = (goal.at.Else-count_exceeds c).Start

abbrev start₃ : Else-offset_differs → Start
start₃ c = start₂ (goal.at.Else-offset_differs c).Else-count_exceeds

abbrev start₄ : Else-s-start → Start
start₄ c = start₃ (goal.at.Else-s-start c).Else-offset_differs

abbrev start₅ : Else-vertices_do_not_rise → Start
start₅ c = start₄ (goal.at.Else-vertices_do_not_rise c).Else-s-start

abbrev start₆ : Else-cells_do_not_rise → Start
start₆ c = start₅ (goal.at.Else-cells_do_not_rise c).Else-vertices_do_not_rise

-- check 6 tells no fault
cells : (c : Else-cells_do_not_rise) → cells_do_not_rise (sections_of (sheet_of (start₆ c))) ≡ false
cells c = sym c.cells_do_not_rise.ensures ∙ c.if-cells_do_not_rise.false

-- the first k checks tell no fault
abbrev After : ℕ → Start → Type 0
After k c = Untold c.args.self.limit (sheet_of c) (drop k (complex_checks c.args.self.limit (sheet_of c)))

after₀ : (c : After-shared_slice_known-1) → After 0 (goal.at.After-shared_slice_known-1 c).Start
after₀ c = begun (record { small = λ i. (c.shared_slice_known-1.given i).fits })

after₁ : (c : Else-s-lt-HEADER_LENGTH) → After 1 (goal.at.Else-s-lt-HEADER_LENGTH c).Start
after₁ c = passed (after₀ (goal.at.Else-s-lt-HEADER_LENGTH c).After-shared_slice_known-1) (le-ltb (length (sheet_of (goal.at.Else-s-lt-HEADER_LENGTH c).Start)) header_length c.if-s-lt-HEADER_LENGTH.false)

after₂ : (c : Else-count_exceeds) → After 2 (start₂ c)
after₂ c = passed (after₁ (goal.at.Else-count_exceeds c).Else-s-lt-HEADER_LENGTH) (sym c.count_exceeds.ensures ∙ c.if-count_exceeds.false)

after₃ : (c : Else-offset_differs) → After 3 (start₃ c)
after₃ c = passed (after₂ (goal.at.Else-offset_differs c).Else-count_exceeds) (sym c.offset_differs.ensures ∙ c.if-offset_differs.false)

after₄ : (c : Else-s-start) → After 4 (start₄ c)
after₄ c =
    let b = sheet_of (start₄ c) in
    passed (after₃ (goal.at.Else-s-start c).Else-offset_differs) (ap not (eq-eqb (length b) (start_at b (suc top)) (c.if-s-start.false ∙ c.start.ensures.is)))

after₅ : (c : Else-vertices_do_not_rise) → After 5 (start₅ c)
after₅ c = passed (after₄ (goal.at.Else-vertices_do_not_rise c).Else-s-start) (sym c.vertices_do_not_rise.ensures ∙ c.if-vertices_do_not_rise.false)

after₆ : (c : Else-cells_do_not_rise) → After 6 (start₆ c)
after₆ c = passed (after₅ (goal.at.Else-cells_do_not_rise c).Else-vertices_do_not_rise) (cells c)

pub returns-then-s-lt-HEADER_LENGTH : goal.returns-then-s-lt-HEADER_LENGTH
returns-then-s-lt-HEADER_LENGTH c = refuses SheetTooShort (after₀ (goal.at.returns-then-s-lt-HEADER_LENGTH c).After-shared_slice_known-1) (lt-ltb (length (sheet_of (goal.at.returns-then-s-lt-HEADER_LENGTH c).Start)) header_length c.if-s-lt-HEADER_LENGTH.true)

pub returns-then-count_exceeds : goal.returns-then-count_exceeds
returns-then-count_exceeds c = refuses CountExceedsLimit (after₁ (goal.at.returns-then-count_exceeds c).Else-s-lt-HEADER_LENGTH) (sym c.count_exceeds.ensures ∙ c.if-count_exceeds.true)

pub returns-then-offset_differs : goal.returns-then-offset_differs
returns-then-offset_differs c = refuses OffsetDiffers (after₂ (goal.at.returns-then-offset_differs c).Else-count_exceeds) (sym c.offset_differs.ensures ∙ c.if-offset_differs.true)

pub returns-then-s-start : goal.returns-then-s-start
returns-then-s-start c =
    let b = sheet_of (start₃ (goal.at.returns-then-s-start c).Else-offset_differs) in
    refuses LengthDiffers (after₃ (goal.at.returns-then-s-start c).Else-offset_differs)
    (ap not (ne_eqb (length b) (start_at b (suc top)) (λ e. c.if-s-start.true (e ∙ sym c.start.ensures.is))))

pub returns-then-vertices_do_not_rise : goal.returns-then-vertices_do_not_rise
returns-then-vertices_do_not_rise c = refuses VerticesDoNotRise (after₄ (goal.at.returns-then-vertices_do_not_rise c).Else-s-start) (sym c.vertices_do_not_rise.ensures ∙ c.if-vertices_do_not_rise.true)

pub returns-then-cells_do_not_rise : goal.returns-then-cells_do_not_rise
returns-then-cells_do_not_rise c = refuses CellsDoNotRise (after₅ (goal.at.returns-then-cells_do_not_rise c).Else-vertices_do_not_rise) (sym c.cells_do_not_rise.ensures ∙ c.if-cells_do_not_rise.true)

pub face_missing-requires : goal.face_missing-requires
face_missing-requires c = cells c

pub returns-then-face_missing : goal.returns-then-face_missing
returns-then-face_missing c = refuses FaceMissing (after₆ (goal.at.returns-then-face_missing c).Else-cells_do_not_rise) (sym c.face_missing.ensures ∙ c.if-face_missing.true)

pub returns : goal.returns
returns c = accepts (passed (after₆ (goal.at.returns c).Else-cells_do_not_rise) (sym c.face_missing.ensures ∙ c.if-face_missing.false))
