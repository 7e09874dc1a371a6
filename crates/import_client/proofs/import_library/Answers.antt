-- `import_library` meets its contract.
use mathlib.Core.Path.{ap, ap₂, ◌∙◌}
use mathlib.Core.List.{List}
use Prim.Native.Nat.{ℕ}
use Rattle.std.specs.Prelude.{Result}
use Rattle.limits.specs.Limits.{library_limit}
use Rattle.trials.specs.Trial.{number_told}
use Rattle.imports.specs.Import.{import_call}
use Rattle.imports.specs.Examples.{done-imports}
use Rattle.refusal.specs.Written.{WriteAnswers}
use Rattle.refusal.specs.declared.Refusal.{Refusal}
use Rattle.import_client.specs.Used.{LibraryUsed}
use Rattle.import_client.proofs.Cases.{used}
use Rattle.import_client.proofs.import_library.Goals as goal

library-used : {text before after : List ℕ} {r : Result ℕ Refusal} → WriteAnswers (import_call library_limit text before) r after → LibraryUsed text before r after
library-used a = record {
  length-told = λ t b. a.answer ∙ ap₂ (λ (x y : List ℕ). (import_call library_limit x y).answer) t b ∙ ap (λ c. c.answer) done-imports.hollow-done;
  swept-length = λ t b. a.answer ∙ ap₂ (λ (x y : List ℕ). (import_call library_limit x y).answer) t b ∙ ap (λ c. c.answer) done-imports.point-done;
  used = used library_limit done-imports.hollow-done done-imports.point-done (ap number_told a.answer) a.output-is;
}

pub returns : goal.returns
returns c = library-used c.import.ensures
