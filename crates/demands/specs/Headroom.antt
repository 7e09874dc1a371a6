-- Headroom: document 02, Note 4, for the counts that any call of the library answers. The peak is that of the reductions that the call makes: a surface keeps
-- the transform of the columns of the second, and its entries count too.
use Rattle.std.specs.Prelude.{◌≡◌, ◌↔◌, ◌⊎◌, ℕ, ◌-◌, ◌^◌, ◌≤◌, ◌<◌}
use Rattle.limits.specs.Limits.{entry_limit}
use Rattle.sheet_format.specs.Sheet.{Bytes}
use Rattle.reduction_steps.specs.State.{State}
use Rattle.reports.specs.Reductions.{Transforms}
use Rattle.reports.specs.Report.{Counts}
use Rattle.requests.specs.Question.{Question, cells, cell_count, rule}
use Rattle.answers.specs.Wide.{GoesWide}
use Rattle.answers.specs.Outcome.{EndsAt}
use Rattle.demands.specs.Answers.{CountsAnswered}

-- "the largest over both reductions .. and the number of bits it needs": the peak lies within the entry limit, below 2 to the power of its bits, and not
-- below the power before
pub record HeadroomBits (counts : Counts) : Type 0 where
  pub within : counts.peak ≤ entry_limit
  pub few : counts.bits ≤ 20
  pub fits : counts.peak < 2 ^ counts.bits
  pub least : (counts.peak ≡ 0) ⊎ (2 ^ (counts.bits - 1) ≤ counts.peak)

abbrev pub Headroom : Type 0
Headroom = (q : Question) → Bytes q.sheet → (keeps : Transforms) (counts : Counts) → CountsAnswered q keeps counts → HeadroomBits counts

-- "0 for 0": the peak is 0, and needs 0 bits, exactly where the dimension has no cells
pub record NoneFor (n : ℕ) (counts : Counts) : Type 0 where
  pub peak : (counts.peak ≡ 0) ↔ (n ≡ 0)
  pub bits : (counts.bits ≡ 0) ↔ (n ≡ 0)

abbrev pub HeadroomNone : Type 0
HeadroomNone = (q : Question) → Bytes q.sheet → (keeps : Transforms) (counts : Counts) → CountsAnswered q keeps counts → NoneFor (cell_count q) counts

-- "how near a mesh came to the entry limit": with another entry limit L in place of 1,048,575, the reductions go too wide exactly where L is below the
-- peak, and come to the same end where it is not. L is 1 at least, so that the matrix of p, V and its inverse, and the transform that is kept, which no
-- operation has written yet, lie within it. This fixes every peak above 1, and `HeadroomNone` tells 0 from 1
pub record AtEntryLimit (q : Question) (keeps : Transforms) (L : ℕ) (counts : Counts) : Type 0 where
  pub too_wide : GoesWide keeps L (rule q) (cells q) q.dimension ↔ (L < counts.peak)
  pub same : counts.peak ≤ L → (s r : ℕ) (x : State) → EndsAt entry_limit q keeps s r x → EndsAt L q keeps s r x

abbrev pub LeastLimit : Type 0
LeastLimit =
    (q : Question) → Bytes q.sheet → (keeps : Transforms) (counts : Counts) → CountsAnswered q keeps counts → (L : ℕ) → 1 ≤ L → AtEntryLimit q keeps L counts
