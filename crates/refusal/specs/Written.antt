-- What a call that writes a sheet answers and leaves, in the words of `trials`.
use Rattle.std.specs.Prelude.{◌≡◌, List, ℕ, Result, Ok, Err}
use Rattle.trials.specs.Trial.{Answer, done, refused, number_told}
use Rattle.trials.specs.Write.{WriteCalled}
use Rattle.refusal.specs.Number.{number_of}
use Rattle.refusal.specs.declared.Refusal.{Refusal}

-- done with the length, or refused with the number of the refusal
abbrev pub answered : Result ℕ Refusal → Answer ℕ
answered (Ok n) = done n
answered (Err x) = refused (number_of x)

-- the answer and the slice for the sheet are those of the definition
pub record WriteAnswers (called : WriteCalled) (r : Result ℕ Refusal) (output : List ℕ) : Type 0 where
  pub answer : answered r ≡ called.answer
  pub output-is : output ≡ called.output

-- .. the answer told by its number
pub record WriteTold (called : WriteCalled) (r : ℕ) (output : List ℕ) : Type 0 where
  pub number_is : r ≡ number_told called.answer
  pub output-is : output ≡ called.output
