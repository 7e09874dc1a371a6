-- What the calls answer, in the words of the definitions of crate `requests`.
use Rattle.std.specs.Prelude.{◌≡◌, List, ℤ, Result, Ok, Err}
use Rattle.trials.specs.Trial as trial
use Rattle.trials.specs.Trial.{Called}
use Rattle.reports.specs.Report as reports
use Rattle.refusal.specs.Number.{number_of}
use Rattle.refusal.specs.declared.Refusal.{Refusal}
pub use Rattle.writers.specs.Written.{counts_in}
use Rattle.writers.specs.declared.counts.Counts.{Counts}

-- done with the counts, or refused with the number that document 01 gives the refusal
abbrev pub answered : Result Counts Refusal → trial.Answer reports.Counts
answered (Ok counts) = trial.done (counts_in counts)
answered (Err x) = trial.refused (number_of x)

-- the definition's call has this answer and leaves these two slices
pub record CallAnswers (called : Called reports.Counts ℤ) (r : Result Counts Refusal) (output work : List ℤ) : Type 0 where
  pub is : called ≡ record { answer = answered r; output = output; work = work }
