-- What it means that the program's text is right: document 01, "What the program prints".
use Rattle.std.specs.Prelude.{◌≡◌, List, [], ◌++◌, ℕ, zero, suc, ◌+◌, ◌≤◌, ℤ}
use Rattle.limits.specs.Limits.{host_limit}
use Rattle.trials.specs.Trial.{done}
use Rattle.sheet_format.specs.Layout.{top}
use Rattle.reports.specs.Reductions.{no_transforms}
use Rattle.reports.specs.Report.{Counts}
use Rattle.requests.specs.Question.{asked, cell_count}
use Rattle.requests.specs.Call.{report, call}
use Rattle.program_text.specs.Text.{refusal_line, report_text, program_text}
use Rattle.answers.specs.Outcome.{TooWide}

-- the text of dimension p: `R 13` where the reduction goes too wide, else the text of the report that a report call at the same count limit leaves
pub data DimensionPrinted (b : List ℕ) (p : ℕ) (text : List ℕ) : Type 0 where
  is-too_wide : TooWide (asked b p) no_transforms → text ≡ refusal_line 13 → DimensionPrinted b p text
  reports :
      (output work : List ℤ) (counts : Counts) → (call host_limit (asked b p) report output work).answer ≡ done counts →
      text ≡ report_text p (cell_count (asked b p)) counts.torsion (counts.torsion + counts.free) (call host_limit (asked b p) report output work).output →
      DimensionPrinted b p text

-- the first n texts, one after another
unfoldable pub in_turn : ℕ → (ℕ → List ℕ) → List ℕ
in_turn zero texts = []
in_turn (suc n) texts = in_turn n texts ++ texts n

-- the program prints a text for each dimension
pub record DimensionsPrinted (b : List ℕ) : Type 0 where
  pub texts : ℕ → List ℕ
  pub in-turn : program_text b ≡ in_turn (suc top) texts
  pub each : (p : ℕ) → p ≤ top → DimensionPrinted b p (texts p)
