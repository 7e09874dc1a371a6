-- `sweep_library` meets its contract.
use mathlib.Core.Path.{ap, ap₂, ◌∙◌}
use mathlib.Core.List.{List}
use Prim.Native.Nat.{ℕ}
use Rattle.std.specs.Prelude.{Result}
use Rattle.limits.specs.Limits.{library_limit}
use Rattle.trials.specs.Trial.{number_told}
use Rattle.sweeps.specs.Sweep.{sweep_call}
use Rattle.sweeps.specs.Examples.{sweeps}
use Rattle.refusal.specs.Written.{WriteAnswers}
use Rattle.refusal.specs.declared.Refusal.{Refusal}
use Rattle.sweep_client.specs.Used.{LibraryUsed}
use Rattle.sweep_client.proofs.Cases.{used}
use Rattle.sweep_client.proofs.sweep_library.Goals as goal

library-used : {sheet before after : List ℕ} {r : Result ℕ Refusal} → WriteAnswers (sweep_call library_limit sheet before) r after → LibraryUsed sheet before r after
library-used a = record {
  length-told = λ t b. a.answer ∙ ap₂ (λ (x y : List ℕ). (sweep_call library_limit x y).answer) t b ∙ ap (λ c. c.answer) sweeps.loose-done;
  used = used library_limit sweeps.loose-done sweeps.loose-short sweeps.face-told (ap number_told a.answer) a.output-is;
}

pub returns : goal.returns
returns c = library-used c.sweep.ensures
