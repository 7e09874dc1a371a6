-- What a call on a dimension was given (`Lent`, `Lengths`), and what its callees answered.
--     admit-granted     none of the checks 1 to 9 applies: `Granted`, what they ask, the cell counts of the dimension and the chain complex
--     regrant           the same for other chains that want as many slots
--     Reduces           the two reductions left the state that is written
use mathlib.Core.Path.{◌≡◌}
use mathlib.Core.Bool.{Bool}
use mathlib.Core.List.{List}
use Prim.Native.Nat.{ℕ, ◌*◌, ◌≤◌}
use Rattle.std.specs.Prelude.{Ok}
use Rattle.complexes.specs.Complex.{count}
use Rattle.complexes.proofs.ChainComplex.{ChainComplex}
use lib.IntN.{ℤ}
use lib.ListN.{length}
use Rattle.reduction_steps.specs.Pivot.{pivot_rule}
use Rattle.sheet_format.specs.Sheet.{Bytes}
use Rattle.sheet_format.specs.Check.{sections_of}
use Rattle.limits.specs.Limits.{library_limit}
use Rattle.faces.specs.Face.{Accepted}
use Rattle.reports.specs.Reductions.{Reductions, second_columns_only, reductions_of}
use Rattle.requests.specs.Question.{Question}
use Rattle.requests.proofs.CheckLaws.{Passed, call_checks-zero}
use Rattle.two_reductions.specs.declared.reduced.Reduced.{Reduced}
use Rattle.two_reductions.specs.Slices.{ReducedTwice}
use Rattle.two_reductions.specs.CellCounts.{cell_counts_in, CellCountsRead}
use Rattle.calls.specs.Admission.{slots_for, space_for, Admits}
use Rattle.two_reductions.specs.declared.cell_counts.CellCounts.{CellCounts}
use Rattle.calls.specs.declared.admission.Request.{Request}
use Rattle.calls.specs.declared.admission.Request.TheVariants.{Coordinates}
use Rattle.two_reductions.proofs.Sheet.{accepted-library, sheet-chains}

-- the count limit and the question of a call, and the lengths of its output and its work slice
pub record Lengths : Type 0 where
  pub limit : ℕ
  pub question : Question
  pub slots : ℕ
  pub work : ℕ

-- what a call of the library was given
pub record Lent : Type 0 where
  pub limit : ℕ
  pub question : Question
  pub output : List ℤ
  pub work : List ℤ

abbrev pub lengths : Lent → Lengths
lengths l = record { limit = l.limit; question = l.question; slots = length l.output; work = length l.work }

-- n_p
abbrev pub cells_of : Question → ℕ
cells_of q = count (sections_of q.sheet) q.dimension

-- ---- the checks 1 to 9

module _ (l : Lengths) (request : Request) where
  -- the slots that check 9 asks for
  abbrev pub slots_asked : ℕ
  slots_asked = slots_for request (cell_counts_in (sections_of l.question.sheet) l.question.dimension)

  abbrev pub space_asked : ℕ
  space_asked = space_for request (cell_counts_in (sections_of l.question.sheet) l.question.dimension)

  pub record Granted (n : CellCounts) : Type 0 where
    pub passed : Passed l.limit l.question slots_asked space_asked l.slots l.work
    pub cell-counts : CellCountsRead (sections_of l.question.sheet) l.question.dimension n
    pub library : Accepted l.question.sheet
    pub complex : ChainComplex library_limit (sections_of l.question.sheet)

  pub admit-granted : {n : CellCounts} → Admits l.limit l.question request l.slots l.work (Ok n) → l.limit ≤ library_limit → Bytes l.question.sheet → Granted n
  admit-granted k within bytes =
      let passed = (call_checks-zero l.limit l.question slots_asked space_asked l.slots l.work).0 k.0 in
      let library = accepted-library within passed.accepted in
      record { passed = passed; cell-counts = k.1; library = library; complex = sheet-chains bytes library }

-- what is granted for some chains is granted for others that want as many slots
pub regrant : (l : Lengths) {m many : ℕ} {n : CellCounts} → m * cells_of l.question ≡ many * cells_of l.question
    → Granted l (Coordinates many) n → Granted l (Coordinates m) n
regrant l e g =
    record {
      passed = record {
        accepted = g.passed.accepted;
        dimension = g.passed.dimension;
        output-slots = rw e g.passed.output-slots;
        work-slots = g.passed.work-slots;
      };
      cell-counts = g.cell-counts;
      library = g.library;
      complex = g.complex;
    }

-- ---- the two reductions

-- with the transform of the columns of the second, or without it
module _ (l : Lengths) (kept : Bool) where
  abbrev pub twice : Reductions
  twice = reductions_of (second_columns_only kept) pivot_rule (sections_of l.question.sheet) l.question.dimension

  abbrev pub Reduces : Reduced → List ℤ → Type 0
  Reduces x w = ReducedTwice (sections_of l.question.sheet) l.question.dimension kept twice l.work x w
