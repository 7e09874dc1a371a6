-- `is_ending` meets its contract: the word begins with `$End`, and the name stands behind it.
use Rattle.std.proofs.Common.{rules, ◌≡◌}
use mathlib.Core.Path.{◌∙◌}
use lib.Dec.{eqb}
use Rattle.std.specs.Cmp.Lexicographic.{pointwise}
use Rattle.mesh_words.proofs.Bytes.{same_is}
use Rattle.mesh_reader.proofs.Closing.{by-cases, ending-found, ending-other}
use Rattle.mesh_reader.proofs.section.is_ending.Goals as goal

pub returns : goal.returns
returns c =
    by-cases c.strip_prefix.result _ _ c.is_some_and.ensures c.strip_prefix.ensures.cases
    (λ f e. f ∙ ending-other c.args.word.now c.args.name.now e)
    (λ rest p h.
    let told : c.is_some_and.result ≡ pointwise eqb rest.now c.args.name.now = search rules in
    told ∙ same_is _ _ ∙ ending-found c.args.word.now c.args.name.now h.0 h.1)
