-- The answer of a call that writes a sheet told by its number.
--     told-answered        it is the number that the answer has in the words of `trials`
--     answers-told         from the answer to the answer told
use mathlib.Core.Path.{◌≡◌, refl, ap, ◌∙◌}
use mathlib.Core.List.{List}
use Prim.Native.Nat.{ℕ}
use Rattle.std.specs.Prelude.{Result, Ok, Err}
use Rattle.trials.specs.Trial.{number_told}
use Rattle.trials.specs.Write.{WriteCalled}
use Rattle.refusal.specs.Told.{told}
use Rattle.refusal.specs.Written.{answered, WriteAnswers, WriteTold}
use Rattle.refusal.specs.declared.Refusal.{Refusal}

pub told-answered : (r : Result ℕ Refusal) → told r ≡ number_told (answered r)
told-answered (Ok n) = refl
told-answered (Err x) = refl

pub answers-told : {called : WriteCalled} {r : Result ℕ Refusal} {output : List ℕ} {n : ℕ} → WriteAnswers called r output → n ≡ told r
    → WriteTold called n output
answers-told {r = r} a e = record { number_is = e ∙ told-answered r ∙ ap number_told a.answer; output-is = a.output-is }
