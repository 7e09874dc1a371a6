-- What the exported calls answer and leave: the library's calls with a number for their answer.
use Rattle.std.specs.Prelude.{◌≡◌, List, ℕ, ℤ}
use Rattle.trials.specs.Trial.{Answer, done, refused, number_told, Called}
use Rattle.reports.specs.Report.{Counts}

-- the number and the two slices that a call writes
abbrev pub told : Called Counts ℤ → ℕ × List ℤ × List ℤ
told called = (number_told called.answer, called.output, called.work)

-- the definition's call has this number and leaves these two slices
pub record LibraryAnswers (called : Called Counts ℤ) (r : ℕ) (output work : List ℤ) : Type 0 where
  pub is : told called ≡ (r, output, work)

-- what a call tells of its headroom: the peak and the bits of its counts; nothing after a refusal
abbrev pub HeadroomLeft : Answer Counts → ℕ → ℕ → ℕ → ℕ → Type 0
HeadroomLeft (done counts) peak peak' bits bits' = (peak' ≡ counts.peak) × (bits' ≡ counts.bits)
HeadroomLeft (refused n) peak peak' bits bits' = (peak' ≡ peak) × (bits' ≡ bits)

pub record HeadroomAnswers (called : Called Counts ℤ) (r : ℕ) (output work : List ℤ) (peak peak' bits bits' : ℕ) : Type 0 where
  pub answers : LibraryAnswers called r output work
  pub headroom : HeadroomLeft called.answer peak peak' bits bits'
