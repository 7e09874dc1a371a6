-- What an import writes is an accepted sheet of exactly the elements' cells and their faces less the loose nodes: import-sheet, import-number. It is what the sweep makes
-- of the sheet of those cells: import-sweeps.
--     on-sheet       a sheet has a section for each dimension of an element, and no other
--     mesh-complex   the cells of a mesh that are not too many are a complex
use mathlib.Core.Path.{◌≡◌, refl, sym, ap, ◌∙◌, subst}
use mathlib.Core.Bool.{true, false}
use mathlib.Mathlib.Data.Bool.Basic.{or-eq-false-eq-eq-false-and-eq-false}
use mathlib.Core.List.{List, ◌++◌}
use Prim.Native.Nat.{ℕ, suc, ◌≤◌}
use native.Mathlib.Decide.{dec_le}
use native.Mathlib.Omega.{arith}
use lib.Dec.{ltb}
use lib.ListN.{length, drop}
use borrow.Author.Tests.{ltb-false}
use Rattle.limits.specs.Limits.{library_limit}
use Rattle.trials.specs.Trial.{done, number_told}
use Rattle.trials.proofs.WriteLaws.{done-length}
use Rattle.complexes.specs.Complex.{Sections, count, Complex}
use Rattle.sheet_format.specs.Layout.{top, layout}
use Rattle.sheet_format.specs.Check.{some}
use Rattle.sheet_format.specs.CheckLaws.{some-false}
use Rattle.sheet_format.specs.SheetLaws.{count-beyond}
use Rattle.sheet_format.specs.Written.{header_gives}
use Rattle.sheet_format.proofs.LayoutLaws.{bytes-layout}
use Rattle.sheet_format.proofs.Accept.{laid-layout, sections-layout}
use Rattle.sheet_format.proofs.WrittenLaws.{front-sections, written-layout}
use Rattle.closures.specs.Closure.{element_top}
use Rattle.closures.specs.Form.{IsClosure}
use Rattle.closures.proofs.ClosureLaws.{IsClosure-complex}
use Rattle.sweeps.specs.Sweep.{swept, swept_sheet, sweep_call}
use Rattle.sweeps.proofs.SweptLaws.{swept-is, swept-complex, swept-used, swept-fits}
use Rattle.sweeps.proofs.SweepLaws.{sweep-done}
use Rattle.mesh_format.specs.Mesh.{Mesh}
use Rattle.mesh_format.specs.Form.{MeshText}
use Rattle.imports.specs.Import.{elements_right, node_lists, complex_of, too_long, import_call}
use Rattle.imports.specs.Sheet.{ImportedSheet}
use Rattle.imports.proofs.ElementLaws.{mesh-numbered}
use Rattle.imports.proofs.ImportLaws.{mesh-cells, Done, import-told, import-done}

pub on-sheet : {lists : List (List ℕ)} {K : Sections} → IsClosure element_top lists K → IsClosure top lists K
on-sheet is = is

-- the sheet is as long as the room for it at most, and so is each section as its limit
parts : (limit room : ℕ) (K : Sections) → too_long limit room K ≡ false
    → (ltb room (length (layout K)) ≡ false) × (some (suc element_top) (λ p. ltb limit (count K p)) ≡ false)
unfolding too_long
parts limit room K short = (or-eq-false-eq-eq-false-and-eq-false (ltb room (length (layout K))) (some (suc element_top) (λ p. ltb limit (count K p)))).0 short

mesh-fits : (limit room : ℕ) (K : Sections) → too_long limit room K ≡ false → length (layout K) ≤ room
mesh-fits limit room K short = ltb-false room (length (layout K)) (parts limit room K short).0

pub mesh-complex : (limit room : ℕ) (text : List ℕ) (m : Mesh) → MeshText m text → (K : Sections) → IsClosure element_top (node_lists m.elements) K
    → too_long limit room K ≡ false → Complex top limit K
mesh-complex limit room text m is-text K is short = IsClosure-complex (on-sheet is) (mesh-numbered m text is-text) (λ p. within p (dec_le p element_top))
  where
    within : (p : ℕ) → Dec (p ≤ element_top) → count K p ≤ limit
    within p (yes l) = ltb-false limit (count K p) ((some-false (suc element_top) (λ p. ltb limit (count K p))).0 (parts limit room K short).1 p (omega arith))
    within p (no l) = omega (arith, count-beyond K p (omega (arith, is.dimensions)))

module _ (limit : ℕ) (small : limit ≤ library_limit) (text sheet : List ℕ) where
  module _ (z : number_told (import_call limit text sheet).answer ≡ 0) where
    told : Done limit text sheet
    told = import-told limit text sheet z

    abbrev K : Sections
    K = complex_of told.mesh.elements

    is : IsClosure element_top (node_lists told.mesh.elements) K
    is = mesh-cells told.mesh told.is_right

    complex : Complex top limit K
    complex = mesh-complex limit (length sheet) text told.mesh told.is-text K is told.fits

    called : import_call limit text sheet
        ≡ record { answer = done (length (swept_sheet K)); output = swept_sheet K ++ drop (length (swept_sheet K)) sheet }
    called = import-done limit text sheet told.mesh told.is-text told.is_right K is told.fits

    written : ImportedSheet limit text sheet (swept_sheet K ++ drop (length (swept_sheet K)) sheet) (length (swept_sheet K))
    written = record {
      mesh = told.mesh;
      is-text = told.is-text;
      sheet = written-layout small (swept-complex complex) (drop (length (swept_sheet K)) sheet) (swept-used complex) sheet refl;
      unswept = K;
      elements = is;
      cells = rw (front-sections small (swept-complex complex) (drop (length (swept_sheet K)) sheet)) (swept-is complex);
    }

    left : ImportedSheet limit text sheet (import_call limit text sheet).output (length (swept_sheet K))
    left = subst (λ (out : List ℕ). ImportedSheet limit text sheet out (length (swept_sheet K))) (sym (ap (λ c. c.output) called)) written

    -- .. told by the number alone, with the length that the header gives
    pub import-number : ImportedSheet limit text sheet (import_call limit text sheet).output (header_gives (import_call limit text sheet).output)
    import-number = subst (ImportedSheet limit text sheet (import_call limit text sheet).output) (sym left.sheet.in-header) left

  pub import-sheet : (n : ℕ) → (import_call limit text sheet).answer ≡ done n → ImportedSheet limit text sheet (import_call limit text sheet).output n
  import-sheet n e =
      subst (ImportedSheet limit text sheet (import_call limit text sheet).output) (done-length (sym (ap (λ c. c.answer) (called (ap number_told e))) ∙ e))
      (left (ap number_told e))

-- .. and what is answered and written is the sweep's
pub import-sweeps : (limit : ℕ) → limit ≤ library_limit → (text sheet : List ℕ) (m : Mesh) → MeshText m text → elements_right m ≡ true
    → (K : Sections) → IsClosure element_top (node_lists m.elements) K → too_long limit (length sheet) K ≡ false
    → import_call limit text sheet ≡ sweep_call limit (layout K) sheet
import-sweeps limit small text sheet m is-text right K is short =
    import-done limit text sheet m is-text right K is short
    ∙ sym (sweep-done limit (layout K) sheet small (bytes-layout K) (laid-layout complex small) (swept K) (swept-complex complex)
    (rw (sections-layout complex small) (swept-is complex))
    (omega (arith, swept-fits K complex.dimensions complex.sized, fits)))
  where
    complex : Complex top limit K
    complex = mesh-complex limit (length sheet) text m is-text K is short

    fits : length (layout K) ≤ length sheet
    fits = mesh-fits limit (length sheet) K short
