-- The number that an answer is told by: 0 for done, or the number of the refusal.
use Rattle.std.specs.Prelude.{ℕ, Result, Ok, Err}
use Rattle.refusal.specs.Number.{number_of}
use Rattle.refusal.specs.declared.Refusal.{Refusal}

abbrev pub told : {A : Type 0} → Result A Refusal → ℕ
told (Ok carried) = 0
told (Err x) = number_of x
